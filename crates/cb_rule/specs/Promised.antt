-- What stands of the words and the views alone, between any two steps.
use Rattle.std.specs.Prelude.{◌≡◌, ◌≢◌, ◌⊎◌, ℕ, ◌+◌, ◌<◌, ◌≤◌, true, false, List, [], ◌++◌, length}
use mathlib.Core.Option.{some}
use lib.ListN.{get_elem?}
use Rattle.cb_types.specs.declared.config.Config.{Config}
use Rattle.cb_ptr.specs.declared.word.State.TheVariants as word
use Rattle.cb_ptr.specs.Word.{state_of, hot_of, pins_of, len_of, place_of}
use Rattle.cb_world.specs.declared.entry.Entry.{Entry}
use Rattle.cb_world.specs.declared.access.Access.{Access}
use Rattle.cb_world.specs.Looks.{IsLook}
use Rattle.cb_world.specs.declared.object.Object.TheVariants as is
use Rattle.cb_world.specs.declared.shown.Shown.{Shown}
use Rattle.cb_world.specs.Shown.{Covers, object_at}
use Rattle.cb_rule.specs.declared.turn.Turn.{Turn}
use Rattle.cb_rule.specs.declared.view.Held.{Held}
use Rattle.cb_rule.specs.declared.view.Look.{Look}
use Rattle.cb_rule.specs.declared.view.Peeked.{Peeked}
use Rattle.cb_rule.specs.declared.view.Seen.{Seen}
use Rattle.cb_rule.specs.declared.view.Stand.{Stand}
use Rattle.cb_rule.specs.declared.view.View.{View}
use Rattle.cb_rule.specs.Lists.{total, Has}
use Rattle.cb_rule.specs.Own.{AreOwn}
use Rattle.cb_rule.specs.Records.{IsPeekedOf, seen_of}
use Rattle.cb_rule.specs.Ruled.{AreShares}
use Rattle.cb_rule.specs.Seats.{pins_on, claims_on, written_on}
use Rattle.cb_rule.specs.Words.{pointer, stamp, words_at}

-- one of the views
abbrev pub Is : List View → View → Type 0
Is views u = (j : ℕ) × (get_elem? views j ≡ some u)

-- the entry stands as written in a view
abbrev pub Wrote : List View → Entry → Type 0
Wrote views e = (u : View) × Is views u × Has e (u.fresh ++ u.written)

-- or as read
abbrev pub Read : List View → Seen → Type 0
Read views s = (u : View) × Is views u × Has s u.seen

-- the word stands as peeked in a view
abbrev pub Peeks : List View → Peeked → Type 0
Peeks views p = (u : View) × Is views u × Has p u.peeked

-- the word was found by a look of the view, or by a look or a claim of one of its turns
abbrev pub FoundBy : Look → View → Type 0
FoundBy l u = Has l u.looks
    ⊎ ((t : Turn) × Has t u.turns × (e : Access) × Has e t.acts × IsLook l.handle l.word e)

abbrev pub Looked : List View → Look → Type 0
Looked views l = (u : View) × Is views u × FoundBy l u

-- the entry of its object's greatest version that was written
abbrev pub IsLast : List View → Entry → Type 0
IsLast views e =
    Wrote views e × ((x : Entry) → Wrote views x → x.handle ≡ e.handle → x.version ≤ e.version)

-- The pins of a word are those of all views, and a word with pins is Here and hot.
pub record PinsStand (ws : List ℕ) (views : List View) (h : ℕ) : Type 0 where
  pub counted : pins_of (pointer ws h) ≡ total (pins_on h) views
  pub here : 1 ≤ pins_of (pointer ws h) → state_of (pointer ws h) ≡ word.Here
  pub warm : 1 ≤ pins_of (pointer ws h) → hot_of (pointer ws h) ≡ true

-- No two views claim an object, and the word of one that is claimed is Moving.
pub record ClaimsStand (ws : List ℕ) (views : List View) (h : ℕ) : Type 0 where
  pub lone : total (claims_on h) views ≤ 1
  pub moving : 1 ≤ total (claims_on h) views → state_of (pointer ws h) ≡ word.Moving

-- the word names a place
abbrev pub NamesPlace : ℕ → Type 0
NamesPlace w = (state_of w ≡ word.Here) ⊎ (state_of w ≡ word.Moving)

-- The words of an object that is Here are those of its last entry.
pub record HereStands (c : Config) (ws : List ℕ) (views : List View) (h : ℕ) : Type 0 where
  pub last : Entry
  pub is_last : IsLast views last
  pub handle : last.handle ≡ h
  pub held : last.freed ≡ false
  pub len : last.len ≡ len_of (pointer ws h)
  pub version : stamp c ws h ≡ last.version
  pub words : words_at c ws (place_of (pointer ws h)) (len_of (pointer ws h)) ≡ last.after

-- A pin is of an object that is Here, at the place and with the length of its word, and it has the
-- object's last entry.
pub record PinStands (ws : List ℕ) (views : List View) (p : Stand) : Type 0 where
  pub here : state_of (pointer ws p.handle) ≡ word.Here
  pub place : p.place ≡ place_of (pointer ws p.handle)
  pub len : p.len ≡ len_of (pointer ws p.handle)
  pub last : Entry
  pub is_last : IsLast views last
  pub handle : last.handle ≡ p.handle
  pub version : last.version ≡ p.version
  pub words : last.after ≡ p.words

-- The record of a claim has its last entry.
pub record HeldStands (views : List View) (x : Held) : Type 0 where
  pub last : Entry
  pub is_last : IsLast views last
  pub handle : last.handle ≡ x.handle
  pub version : last.version ≡ x.version
  pub len : last.len ≡ x.len
  pub words : last.after ≡ x.old

-- What the holder of the lock knows of an object that it has claimed, in its turn or in a batch:
-- its last entry.
pub record HolderClaims (views : List View) (known : Shown) (h : ℕ) : Type 0 where
  pub len : ℕ
  pub place : ℕ
  pub version : ℕ
  pub words : List ℕ
  pub claimed : object_at known h ≡ is.Claimed len place version words
  pub last : Entry
  pub is_last : IsLast views last
  pub handle : last.handle ≡ h
  pub number : last.version ≡ version
  pub long : last.len ≡ len
  pub has : last.after ≡ words

-- By what the holder knows, a word is Moving exactly where a view claims the object or the holder
-- has it claimed, and one of these alone does.
pub record MovingStands (ws : List ℕ) (views : List View) (known : Shown) (h : ℕ) : Type 0 where
  pub moves : state_of (pointer ws h) ≡ word.Moving
      → (total (claims_on h) views ≡ 1) ⊎ HolderClaims views known h
  pub claimed : (len place version : ℕ) (words : List ℕ)
      → object_at known h ≡ is.Claimed len place version words
      → (state_of (pointer ws h) ≡ word.Moving) × (total (claims_on h) views ≡ 0)
      × HolderClaims views known h

-- An entry that was written goes on from the one before it, whose length it has unless it is the
-- freed one. A make goes on from none, and is not the freed one.
abbrev pub EntryGoesOn : ℕ → List View → Entry → Type 0
EntryGoesOn first views e = ((e.version ≡ first) × (e.before ≡ []) × (e.freed ≡ false))
    ⊎ ((x : Entry) × Wrote views x × (x.handle ≡ e.handle) × (x.version + 1 ≡ e.version)
    × (x.after ≡ e.before) × (x.freed ≡ false) × (e.freed ≡ false → e.len ≡ x.len))

-- The entries and the words that stand in the views: what was read was written, each version of an
-- object stands as written in one view, once, and goes on from the one before it.
pub record EntriesStand (first : ℕ) (views : List View) : Type 0 where
  pub read : (s : Seen) → Read views s → (e : Entry) × Wrote views e × (s ≡ seen_of e)
  -- a word that was peeked is one of an entry's
  pub peeked : (p : Peeked) → Peeks views p → (e : Entry) × Wrote views e × IsPeekedOf e p
  -- a word that was found not Empty tells the length of an entry of its object
  pub looked : (l : Look) → Looked views l → state_of l.word ≢ word.Empty → (e : Entry)
      × Wrote views e × (e.handle ≡ l.handle) × (e.freed ≡ false) × (e.len ≡ len_of l.word)
  pub born : (e : Entry) → Wrote views e → first ≤ e.version
  -- two entries of one version are the same
  pub same : (e x : Entry) → Wrote views e → Wrote views x → e.handle ≡ x.handle
      → e.version ≡ x.version → e ≡ x
  -- each version from the first to the last is written in one view, once
  pub once : (e : Entry) (k : ℕ) → IsLast views e → first ≤ k → k ≤ e.version
      → total (written_on e.handle k) views ≡ 1
  pub goes_on : (e : Entry) → Wrote views e → EntryGoesOn first views e

-- The words, the pins and claims of all views, and their entries. The shares of all views sum to
-- 64, and what a view made as its own no other one knows.
pub record WordsStand (first : ℕ) (c : Config) (ws : List ℕ) (views : List View) : Type 0 where
  pub shares : AreShares c views
  pub own : AreOwn first views
  pub pins : (h : ℕ) → h < c.handles → PinsStand ws views h
  pub few : (u : View) → Is views u → length u.pins ≤ 17
  pub claims : (h : ℕ) → h < c.handles → ClaimsStand ws views h
  -- places of different objects do not overlap
  pub apart : (h k p : ℕ) → h < c.handles → k < c.handles → h ≢ k
      → NamesPlace (pointer ws h) → NamesPlace (pointer ws k)
      → Covers (place_of (pointer ws h)) (len_of (pointer ws h)) p
      → Covers (place_of (pointer ws k)) (len_of (pointer ws k)) p → ⊥
  pub here : (h : ℕ) → h < c.handles → state_of (pointer ws h) ≡ word.Here
      → HereStands c ws views h
  pub pinned : (u : View) (p : Stand) → Is views u → Has p u.pins → PinStands ws views p
  pub held : (u : View) (x : Held) → Is views u → Has x u.claims → HeldStands views x
  pub moving : (u : View) → Is views u → u.holds ≡ true → (h : ℕ) → h < c.handles
      → MovingStands ws views u.known h
  pub entries : EntriesStand first views
