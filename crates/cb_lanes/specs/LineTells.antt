-- What each line of a run keeps, and when it is answered Unavailable.
use Rattle.std.specs.Prelude.{◌≡◌, ℕ, ◌^◌, ◌<◌, List, Option, Some, length}
use Rattle.cb_member.specs.declared.names.Loss.{Loss}
use Rattle.cb_types.specs.declared.handle.SetId.{SetId}
use Rattle.cb_types.specs.declared.request.Request.{Request}
use Rattle.cb_types.specs.declared.request.Request.TheVariants.{Read, Write, Pin}
use Rattle.cb_types.specs.declared.reply.Reply.{Reply}
use Rattle.cb_types.specs.declared.reply.Reply.TheVariants as answer
use Rattle.cb_world.specs.Seats.{pins_of_seat}
use Rattle.cb_world.specs.World.{WorldState, IsSoundWorld}
use Rattle.cb_core.specs.Unavailable.{IsLost}
use Rattle.cb_core.specs.Unmoved.{KeepsPinned}

-- the line is one that brings in a far object: a read, a write, or a pin of a lane that has fewer
-- than 16
abbrev pub BringsObject : WorldState → ℕ → Request → Type 0
BringsObject w seat (Read name) = Unit {0}
BringsObject w seat (Write name at bytes) = Unit {0}
BringsObject w seat (Pin name) = length (pins_of_seat w.seats seat) < 16
BringsObject w seat request = ⊥

-- It is answered Unavailable exactly where it is to bring in its object, and that is far in a set
-- that has lost more shards than it has parities; and the answer tells that set and all that it
-- lost. A turn that is no longer counted is answered Worn.
pub record LineTells (seat : ℕ) (handle : Option ℕ) (request : Request) (w : WorldState)
    (r : Reply) : Type 0 where
  pub only : (id : SetId) (losses : List Loss) → r ≡ answer.Unavailable id losses
      → (h : ℕ) × (handle ≡ Some h) × BringsObject w seat request × IsLost w h id losses
  pub each : (h : ℕ) (id : SetId) (losses : List Loss) → handle ≡ Some h
      → BringsObject w seat request → w.far.counts.turns < 2 ^ 40 → IsLost w h id losses
      → r ≡ answer.Unavailable id losses

-- What a line leaves, by the world after it and that in which its lane rests then: the world is
-- sound; each object that has a pin before and after stays at its place, with its length, its
-- version and its bytes; and it is answered Unavailable exactly where it is to be.
pub record LineLeaves (seat : ℕ) (handle : Option ℕ) (request : Request) (w : WorldState)
    (r : Reply) (between rested : WorldState) : Type 0 where
  pub sound : IsSoundWorld rested
  pub pinned : KeepsPinned w between
  pub resting : KeepsPinned between rested
  pub unavailable : LineTells seat handle request w r
