-- What the pass with the whole share closes. Its record has all entries and all turns; the words of
-- the table and the far state are a sound world.
use Rattle.std.specs.Prelude.{◌≡◌, ◌≢◌, ℕ, ◌+◌, ◌*◌, ◌^◌, ◌<◌, Bool, cond, List, [], ◌∷◌, length}
use Rattle.std.specs.Prelude.{replicate, slice_index}
use Rattle.cb_types.specs.declared.config.Config.{Config}
use Rattle.cb_world.specs.declared.entry.Entry.{Entry}
use Rattle.cb_world.specs.declared.shown.Shown.{Shown}
use Rattle.cb_world.specs.Empty.{empty_shown}
use Rattle.cb_world.specs.Memory.{bytes_in, window}
use Rattle.cb_world.specs.Now.{Now, is_gone, now}
use Rattle.cb_world.specs.Now.Now.{never, freed, held, gone}
use Rattle.cb_world.specs.Plain.{Words, word_at}
use Rattle.cb_world.specs.Played.{StaysHot}
use Rattle.cb_world.specs.Seats.{idle_seat}
use Rattle.cb_world.specs.Shown.{Fits, IsHeld, Owns, object_at, version_at}
use Rattle.cb_world.specs.World.{IsKnown, IsSoundWorld, WorldState}
use Rattle.cb_rule.specs.declared.turn.Turn.{Turn}
use Rattle.cb_rule.specs.declared.view.View.{View}
use Rattle.cb_rule.specs.Locking.{Deeds, left_known, turn_number}
use Rattle.cb_rule.specs.OneHistory.{IsOneHistory, Made}
use Rattle.cb_rule.specs.Promised.{EntriesStand, IsLast, Wrote}
use Rattle.cb_rule.specs.Told.{AreTold}
use Rattle.cb_rule.specs.Words.{base, stamps}

-- the words of a table as those of a still desk
abbrev pub desk_of : Config → List ℕ → Words
desk_of c ws = record {
  settings = c;
  words = window ws 1 c.handles;
  versions = window ws (stamps c) c.handles;
  memory = window ws (base c) (512 * c.frames);
}

-- what an entry left its object, where the set of that object has lost too much or has not
abbrev pub now_of : Bool → Entry → Now
now_of lost e = cond e.freed (freed e.version)
    (cond lost (gone e.version) (held e.version (bytes_in e.after e.len)))

-- The world holds of each object what its last entry left; one without an entry was never made.
pub record HoldsEntries (views : List View) (w : WorldState) : Type 0 where
  pub shown : Shown
  pub known : IsKnown w.desk w.far shown
  pub last : (e : Entry) → IsLast views e
      → now shown w.far e.handle ≡ now_of (is_gone w.far e.handle) e
  pub none : (h : ℕ) → h < length w.desk.words → ((e : Entry) → Wrote views e → e.handle ≢ h)
      → now shown w.far h ≡ never

-- The words are as is known of them: a pointer word is one that its object has, and is hot where it
-- was known to be. A version word is as known where no one else may change the object, and a memory
-- word where no object lies that others may change.
pub record AreAsKnown (known : Shown) (d : Words) : Type 0 where
  pub fit : (h : ℕ) → h < length d.words → Fits (object_at known h) (word_at d h)
  pub hot : (h : ℕ) → h < length d.words → StaysHot known h (word_at d h)
  pub held : (h : ℕ) → h < length d.words → IsHeld (object_at known h)
      → slice_index d.versions h ≡ version_at known h
  pub owned : (p : ℕ) → Owns known p → slice_index d.memory p ≡ slice_index known.memory p

-- The words of the world are as the newest turn left them, or as at first where there was none.
pub record KeepsLeft (first : ℕ) (c : Config) (views : List View) (w : WorldState) : Type 0 where
  pub newest : (t : Turn) → Made views t → turn_number t + 1 ≡ w.far.counts.turns
      → w.far.counts.turns < 2 ^ 40 → AreAsKnown (left_known t) w.desk
  pub unturned : w.far.counts.turns ≡ 0 → AreAsKnown (empty_shown first c) w.desk

-- A pass with this record closed the runtime, whose makes gave the version first: the world is
-- sound, all its seats are idle, and no turn is under way. The record has all entries, whose last
-- ones the world holds, and all counted turns, which are one history from the empty world to this
-- one, whose words are as the newest of them left them. What its turns were told of objects is of
-- these entries.
pub record IsClosed (deeds : Deeds) (first : ℕ) (c : Config) (v : View) (w : WorldState) : Type 0
  where
    pub settings : w.desk.settings ≡ c
    pub begins : w.far.first ≡ first
    pub idle : w.seats ≡ replicate 64 idle_seat
    pub sound : IsSoundWorld w
    pub calm : v.fresh ≡ []
    pub entries : EntriesStand first (v ∷ [])
    pub told : AreTold first c (v ∷ [])
    pub holds : HoldsEntries (v ∷ []) w
    pub turns : IsOneHistory deeds first c (v ∷ []) w.far.counts.turns w.far
    pub left : KeepsLeft first c (v ∷ []) w
