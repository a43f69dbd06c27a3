-- All pins of a seat are given back.
use Rattle.std.specs.Prelude.{◌≡◌, ℕ, zero, suc, List, length, map, nat_eq, replicate, reverse}
use Rattle.std.specs.List.{count_by}
use Rattle.cb_types.specs.declared.reply.Reply.TheVariants as answer
use Rattle.cb_world.specs.declared.seats.SeatPin.{SeatPin}
use Rattle.cb_world.specs.Seats.{pins_of_seat}
use Rattle.cb_world.specs.World.{WorldState}
use Rattle.cb_core.specs.declared.event.Atomic.TheVariants.{Unpin}
use Rattle.cb_core.specs.declared.event.Event.{Event}
use Rattle.cb_core.specs.declared.event.Event.TheVariants as event
use Rattle.cb_core.specs.Step.{Leads}

-- the event by which a seat gives a pin back
abbrev pub unpin_event : ℕ → SeatPin → Event
unpin_event seat pin = event.Step seat (Unpin (record { n = pin.handle }))

-- the pins of the seat are given back, the newest first, and each of these events is answered done
abbrev pub GivesAll : ℕ → WorldState → WorldState → Type 0
GivesAll seat w new = Leads w (map (unpin_event seat) (reverse (pins_of_seat w.seats seat)))
    (replicate (length (pins_of_seat w.seats seat)) answer.Done) new

-- how many of these lines are of the lane
abbrev pub lines_by : ℕ → List ℕ → ℕ
lines_by lane lanes = count_by (nat_eq lane) lanes

-- After a line whose lane has so many lines yet to come: where there is none, the lane's pins are
-- given back; else all stays.
abbrev pub Rests : ℕ → ℕ → WorldState → WorldState → Type 0
Rests zero seat between rested = GivesAll seat between rested
Rests (suc left) seat between rested = rested ≡ between
