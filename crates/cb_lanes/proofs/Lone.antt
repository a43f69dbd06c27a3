-- No line takes the far lock. So no seat holds it while lines are answered, and no turn of a line
-- is refused for it.
use Rattle.std.proofs.Common.{◌≡◌, ℕ, List, replicate, Option, refl, sym, ap, ◌∙◌, subst, inl, inr}
use Rattle.std.proofs.lemmas.Bool.{cases_lt}
use Rattle.std.proofs.lemmas.List.{get_or-replicate, get_or_past}
use Rattle.cb_types.specs.declared.job.Job.{Job}
use Rattle.cb_types.specs.declared.request.Request.{Request}
use Rattle.cb_types.specs.declared.reply.Reply.{Reply}
use Rattle.cb_world.specs.declared.seats.SeatPin.{SeatPin}
use Rattle.cb_world.specs.OpenSteps.{NoneHolds}
use Rattle.cb_world.specs.Seats.{SeatState, idle_seat, seat_at, with_pins}
use Rattle.cb_world.specs.World.{WorldState}
use Rattle.cb_world.proofs.Laws.{seat_beside}
use Rattle.cb_core.specs.declared.event.Event.TheVariants.{Turn}
use Rattle.cb_core.specs.Holding.{NoOtherHolds}
use Rattle.cb_core.specs.Jobs.{NeedsNoOrder}
use Rattle.cb_core.specs.Pinning.{PinStep, scope_full, refused, taken, UnpinStep}
use Rattle.cb_core.specs.Pinning.{not_pinned as no_pin, given}
use Rattle.cb_core.specs.Step.{Step, TurnStep, worn, done, held as other_holds, free, ordered}
use Rattle.cb_lanes.specs.GivingBack.{Rests}
use Rattle.cb_lanes.specs.LineStep.{LineStep}
use Rattle.cb_lanes.specs.declared.side.Side.{Side}
use Rattle.cb_lanes.proofs.LineKeeps.{IsKeptByTurns, line_kept, rests_kept}

-- at first no seat holds the far lock
pub empty_lone : NoneHolds (replicate 64 idle_seat)
empty_lone k = elim (cases_lt k 64) [
  | inl low ↦ ap (λ (x : SeatState). x.holds) (get_or-replicate 64 k idle_seat idle_seat low)
  | inr past ↦ ap (λ (x : SeatState). x.holds)
      (get_or_past (replicate 64 idle_seat) k idle_seat past)
]

pub lone_other : (seats : List SeatState) (seat : ℕ) → NoneHolds seats → NoOtherHolds seats seat
lone_other seats seat lone other holds = absurd (let e = sym (lone other) ∙ holds in cc)

-- ---- turns

-- a turn changes no seat
pub turn_seats : (j : Job) (w new : WorldState) (r : Reply) → TurnStep j w r new
    → new.seats ≡ w.seats
turn_seats j w new r (worn end is same) = ap (λ (v : WorldState). v.seats) same
turn_seats j w new r (done few works seats) = seats

pub event_seats : (seat : ℕ) (j : Job) (w new : WorldState) (r : Reply) → NeedsNoOrder j
    → Step w (Turn seat j) r new → new.seats ≡ w.seats
event_seats seat j w new r alone (other_holds holder off holds is same) =
    ap (λ (v : WorldState). v.seats) same
event_seats seat j w new r alone (free none step) = turn_seats j w new r step
event_seats seat j w new r alone (ordered keeps needs none turn seats) = absurd (needs alone)

-- where no seat holds the far lock, a turn takes place
pub turn_alone : (seat : ℕ) (j : Job) (w new : WorldState) (r : Reply) → NeedsNoOrder j
    → NoneHolds w.seats → Step w (Turn seat j) r new → TurnStep j w r new
turn_alone seat j w new r alone lone (other_holds holder off holds is same) =
    absurd (let e = sym (lone holder) ∙ holds in cc)
turn_alone seat j w new r alone lone (free none step) = step
turn_alone seat j w new r alone lone (ordered keeps needs none turn seats) = absurd (needs alone)

-- ---- lines

-- a seat's pins change
pins_lone : (seats : List SeatState) (seat : ℕ) (pins : List SeatPin) → NoneHolds seats
    → NoneHolds (with_pins seats seat pins)
pins_lone seats seat pins lone k = seat_beside (λ (x : SeatState). x.holds) seats seat
    (record (seat_at seats seat) { pins = pins }) refl k ∙ lone k

same_lone : (w new : WorldState) → new ≡ w → NoneHolds w.seats → NoneHolds new.seats
same_lone w new same = subst NoneHolds (sym (ap (λ (v : WorldState). v.seats) same))

pin_lone : (seat h : ℕ) (w new : WorldState) (r : Reply) → PinStep seat h w r new
    → NoneHolds w.seats → NoneHolds new.seats
pin_lone seat h w new r (scope_full full is same) lone = same_lone w new same lone
pin_lone seat h w new r (refused room never is same) lone = same_lone w new same lone
pin_lone seat h w new r (taken room may is t) lone =
    subst NoneHolds (sym t.pins) (pins_lone w.seats seat _ lone)

unpin_lone : (seat h : ℕ) (w new : WorldState) (r : Reply) → UnpinStep seat h w r new
    → NoneHolds w.seats → NoneHolds new.seats
unpin_lone seat h w new r (no_pin none is same) lone = same_lone w new same lone
unpin_lone seat h w new r (given is t) lone =
    subst NoneHolds (sym t.pins) (pins_lone w.seats seat _ lone)

-- whatever the job is
abbrev IsLone : WorldState → Type 0
IsLone w = NoneHolds w.seats

abbrev AnyJob : Job → Type 0
AnyJob j = Unit {0}

lone_kept : IsKeptByTurns IsLone AnyJob
lone_kept = record {
  object = λ j is. tt;
  turn = λ j w new r may step lone. subst NoneHolds (sym (turn_seats j w new r step)) lone;
  pin = pin_lone;
  unpin = unpin_lone;
  recount = λ w new same lone. subst NoneHolds (sym same.seats) lone;
}

-- no line takes the far lock
pub line_lone : (side : Side) (seat : ℕ) (handle : Option ℕ) (request : Request)
    (w new : WorldState) (r : Reply) → LineStep side seat handle request w r new
    → NoneHolds w.seats → NoneHolds new.seats
line_lone side seat handle request w new r =
    line_kept IsLone AnyJob lone_kept side seat handle request w new r (λ j is. tt)

-- nor does a lane that rests
pub rests_lone : (left seat : ℕ) (w new : WorldState) → Rests left seat w new → NoneHolds w.seats
    → NoneHolds new.seats
rests_lone = rests_kept IsLone AnyJob lone_kept
