-- What the record of a pass has in the end of the objects that the pass made: their entries in
-- order, and what was read, looked at and told of them is of these.
use Rattle.std.specs.Prelude.{◌≡◌, ◌≢◌, ℕ, ◌+◌, false, cond, eqb, List, [], ◌∷◌}
use Rattle.std.specs.Prelude.{Option, None, Some}
use Rattle.cb_ptr.specs.declared.word.State.TheVariants as word
use Rattle.cb_ptr.specs.Word.{len_of, state_of}
use Rattle.cb_world.specs.declared.entry.Entry.{Entry}
use Rattle.cb_rule.specs.declared.turn.Turn.{Turn}
use Rattle.cb_rule.specs.declared.view.Look.{Look}
use Rattle.cb_rule.specs.declared.view.Seen.{Seen}
use Rattle.cb_rule.specs.declared.view.View.{View}
use Rattle.cb_rule.specs.Lists.{Has}
use Rattle.cb_rule.specs.Promised.{FoundBy}
use Rattle.cb_rule.specs.Records.{seen_of}
use Rattle.cb_record.specs.Upheld.{IsLong}
use Rattle.cb_shared.specs.Recalls.{MakesFirst}

-- the object's last entry among these, the newest first
abbrev pub last_in : List Entry → ℕ → Option Entry
last_in [] h = None
last_in (e ∷ es) h = cond (eqb e.handle h) (Some e) (last_in es h)

-- the entry comes next after one of its object: it has the next version, goes on from its words,
-- and keeps its length until it is the freed one, after which there is none
pub record EntryComesNext (x e : Entry) : Type 0 where
  pub there : x.freed ≡ false
  pub next : e.version ≡ x.version + 1
  pub past : e.before ≡ x.after
  pub same_len : e.freed ≡ false → e.len ≡ x.len

-- or it makes the object
abbrev pub ComesBehind : Option Entry → Entry → Type 0
ComesBehind None e = e.version ≡ 1
ComesBehind (Some x) e = EntryComesNext x e

-- each entry of these objects comes after the one before it
abbrev pub AreEntriesInOrder : (ℕ → Type 0) → List Entry → Type 0
AreEntriesInOrder mine [] = Unit {0}
AreEntriesInOrder mine (e ∷ es) =
    (mine e.handle → ComesBehind (last_in es e.handle) e) × AreEntriesInOrder mine es

-- what was read of these objects are entries that were written
abbrev pub AreRead : (ℕ → Type 0) → List Entry → List Seen → Type 0
AreRead mine written seen =
    (s : Seen) → Has s seen → mine s.handle → (e : Entry) × Has e written × (s ≡ seen_of e)

-- a word of these objects that was found not Empty tells the length of an entry that was written
abbrev pub AreLong : (ℕ → Type 0) → View → Type 0
AreLong mine v = (l : Look) → FoundBy l v → mine l.handle → state_of l.word ≢ word.Empty
    → IsLong v.written l.handle (len_of l.word)

-- each turn that made an object told the version 1
abbrev pub AreMadeFirst : List Turn → Type 0
AreMadeFirst turns = MakesFirst 1 turns

-- So of the own objects of a record in the end.
pub record KeepsOwn (w : View) : Type 0 where
  pub order : AreEntriesInOrder (λ h. Has h w.own) w.written
  pub read : AreRead (λ h. Has h w.own) w.written w.seen
  pub long : AreLong (λ h. Has h w.own) w
  pub makes : AreMadeFirst w.turns
