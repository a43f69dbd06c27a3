-- What becomes of a claimed object.
use Rattle.std.specs.Prelude.{◌≡◌, ◌≢◌, ℕ}
use Rattle.cb_span.specs.declared.temp.Temp.{Temp}
use Rattle.cb_world.specs.FarState.{FarState}
use Rattle.cb_world.specs.Placed.{Slot, IsChosen, IsCrammed, NeedsSpan, place_in, with_object}
use Rattle.cb_world.specs.Released.{IsSlotAt}
use Rattle.cb_filter.specs.declared.planning.Plan.{Plan}
use Rattle.cb_filter.specs.declared.planning.Plan.TheVariants as plan
use Rattle.cb_filter.specs.Seats.{Seat}

-- the slot lies at the place
abbrev pub LiesAtPlace : FarState → ℕ → Seat → Type 0
LiesAtPlace far place seat = IsSlotAt far.frames far.spans place seat.frame seat.number seat.span

-- by what is planned: its span has the temperature; there is no slot for it; or it has one beside
-- the one where it is
abbrev pub Plans : FarState → FarState → Temp → ℕ → Seat → Plan → Type 0
Plans far new temp h seat plan.Same = (seat.span.temp ≡ temp) × (new ≡ far)
Plans far new temp h seat plan.NoSlot =
    (seat.span.temp ≢ temp) × IsCrammed far seat.span.class temp × (new ≡ far)
Plans far new temp h seat (plan.Move place) = (slot : Slot) × (seat.span.temp ≢ temp)
    × IsChosen far seat.span.class temp slot × (new ≡ with_object far slot h)
    × (place ≡ place_in slot)

-- the object needs a new span
abbrev pub Wants : FarState → Temp → Seat → Type 0
Wants far temp seat = (seat.span.temp ≢ temp) × NeedsSpan far seat.span.class temp
