-- The far lock, as the seats' records tell who holds it.
use Rattle.std.specs.Prelude.{◌≡◌, ℕ, List, true, false}
use Rattle.cb_types.specs.declared.reply.Reply.{Reply}
use Rattle.cb_types.specs.declared.reply.Reply.TheVariants as answer
use Rattle.cb_world.specs.OpenSteps.{NoneHolds}
use Rattle.cb_world.specs.Seats.{SeatState, Holds, with_holds}
use Rattle.cb_world.specs.World.{WorldState}

-- no seat but this one holds the far lock
abbrev pub NoOtherHolds : List SeatState → ℕ → Type 0
NoOtherHolds seats seat = (other : ℕ) → Holds seats other → other ≡ seat

-- a seat takes the far lock where no seat holds it
pub data TakeStep (seat : ℕ) (w : WorldState) (r : Reply) (new : WorldState) : Type 0 where
  held : (holder : ℕ) → Holds w.seats holder → r ≡ answer.Held holder → new ≡ w
      → TakeStep seat w r new
  taken : NoneHolds w.seats → r ≡ answer.Done
      → new ≡ record w { seats = with_holds w.seats seat true } → TakeStep seat w r new

-- a seat gives the far lock back where it holds it
pub data GiveStep (seat : ℕ) (w : WorldState) (r : Reply) (new : WorldState) : Type 0 where
  not_held : (Holds w.seats seat → ⊥) → r ≡ answer.NotHeld → new ≡ w → GiveStep seat w r new
  given : Holds w.seats seat → r ≡ answer.Done
      → new ≡ record w { seats = with_holds w.seats seat false } → GiveStep seat w r new
