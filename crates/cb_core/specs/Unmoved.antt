-- A pinned object stays where it is, with what it holds.
use Rattle.std.specs.Prelude.{◌≡◌, ℕ, ◌≤◌, List, [], ◌∷◌}
use Rattle.cb_ptr.specs.Word.{len_of, place_of, pins_of}
use Rattle.cb_types.specs.declared.reply.Reply.{Reply}
use Rattle.cb_world.specs.Memory.{bytes_in}
use Rattle.cb_world.specs.Plain.{Words}
use Rattle.cb_world.specs.StillWords.{stamp_at, contents_at}
use Rattle.cb_world.specs.World.{WorldState, word_at}
use Rattle.cb_core.specs.declared.event.Event.{Event}
use Rattle.cb_core.specs.Step.{Step}

-- the object has its place, its length, its version and its bytes
pub record IsUnmoved (h : ℕ) (x y : Words) : Type 0 where
  pub place : place_of (word_at y h) ≡ place_of (word_at x h)
  pub len : len_of (word_at y h) ≡ len_of (word_at x h)
  pub version : stamp_at y h ≡ stamp_at x h
  pub bytes : bytes_in (contents_at y h) (len_of (word_at y h))
      ≡ bytes_in (contents_at x h) (len_of (word_at x h))

-- some seat has a pin on the object
abbrev pub HasPin : ℕ → WorldState → Type 0
HasPin h w = 1 ≤ pins_of (word_at w.desk h)

-- each object that has a pin before and after is unmoved
abbrev pub KeepsPinned : WorldState → WorldState → Type 0
KeepsPinned w new = (h : ℕ) → HasPin h w → HasPin h new → IsUnmoved h w.desk new.desk

-- The world leads by these events, with these replies, to another, and each of them keeps what is
-- pinned.
abbrev pub LeadsPinned : WorldState → List Event → List Reply → WorldState → Type 0
LeadsPinned w [] [] new = new ≡ w
LeadsPinned w (e ∷ es) (r ∷ rs) new = (between : WorldState) × Step w e r between
    × KeepsPinned w between × LeadsPinned between es rs new
LeadsPinned w es rs new = ⊥

-- the object has a pin in each world of the run, from the first to the last
abbrev pub StaysPinned : ℕ → (w : WorldState) (es : List Event) (rs : List Reply) (new : WorldState)
    → LeadsPinned w es rs new → Type 0
StaysPinned h w [] [] new leads = HasPin h w
StaysPinned h w (e ∷ es) (r ∷ rs) new leads = HasPin h w × StaysPinned h leads.0 es rs new leads.3
StaysPinned h w es rs new leads = ⊥

-- an object that has a pin in each world of the run is unmoved from the first to the last
abbrev pub LeadsUnmoved : WorldState → List Event → List Reply → WorldState → Type 0
LeadsUnmoved w es rs new = (h : ℕ) → (leads : LeadsPinned w es rs new)
    → StaysPinned h w es rs new leads → IsUnmoved h w.desk new.desk
