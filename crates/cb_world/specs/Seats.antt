-- The seats from which callers act, and their pins.
use Rattle.std.specs.Prelude.{◌≡◌, ◌≢◌, ℕ, ◌<◌, Bool, false, true, nat_eq, List, [], Option, None, Some, slice_get, slice_index_or, slice_set, if◌then◌else◌}
use Rattle.std.specs.List.{sum_by}
use Rattle.cb_types.specs.declared.order.Kept.{Kept}
use Rattle.cb_world.specs.declared.seats.SeatPin.{SeatPin}

-- a write of a seat that is open: its object's handle and length; the version and the words that
-- the object had when it was claimed; the bytes that are written, from the byte number `at` on; and
-- how many of the words that the write touches are stored, the version word being the last of them
pub record OpenWriteState : Type 0 where
  pub handle : ℕ
  pub len : ℕ
  pub version : ℕ
  pub words : List ℕ
  pub at : ℕ
  pub bytes : List ℕ
  pub stored : ℕ

-- what a seat has: its pins, the newest one last, its open writes, whether it holds the far lock,
-- and the order that it keeps
pub record SeatState : Type 0 where
  pub pins : List SeatPin
  pub claims : List OpenWriteState
  pub holds : Bool
  pub order : Option Kept

-- a seat that has nothing
abbrev pub idle_seat : SeatState
idle_seat = record { pins = []; claims = []; holds = false; order = None }

abbrev pub seat_at : List SeatState → ℕ → SeatState
seat_at seats seat = slice_index_or seats seat idle_seat

-- the pins of a seat
abbrev pub pins_of_seat : List SeatState → ℕ → List SeatPin
pins_of_seat seats seat = (seat_at seats seat).pins

-- the open writes of a seat
abbrev pub claims_of_seat : List SeatState → ℕ → List OpenWriteState
claims_of_seat seats seat = (seat_at seats seat).claims

-- the seats, where one has these open writes
abbrev pub with_claims : List SeatState → ℕ → List OpenWriteState → List SeatState
with_claims seats seat claims =
    slice_set seats seat (record (seat_at seats seat) { claims = claims })

-- the seats, where one holds the far lock, or does not
abbrev pub with_holds : List SeatState → ℕ → Bool → List SeatState
with_holds seats seat holds = slice_set seats seat (record (seat_at seats seat) { holds = holds })

-- the seat holds the far lock
abbrev pub Holds : List SeatState → ℕ → Type 0
Holds seats seat = (seat_at seats seat).holds ≡ true

-- no two seats hold it
abbrev pub AtMostOneHolds : List SeatState → Type 0
AtMostOneHolds seats = (a b : ℕ) → Holds seats a → Holds seats b → a ≡ b

-- the order that a seat keeps, if it keeps one
abbrev pub order_of : List SeatState → ℕ → Option Kept
order_of seats seat = (seat_at seats seat).order

-- the seats, where one keeps this order, or none
abbrev pub with_order : List SeatState → ℕ → Option Kept → List SeatState
with_order seats seat order = slice_set seats seat (record (seat_at seats seat) { order = order })

-- the seat has this open write at this place
abbrev pub IsClaimAt : List SeatState → ℕ → ℕ → OpenWriteState → Type 0
IsClaimAt seats seat at c = slice_get (claims_of_seat seats seat) at ≡ Some c

-- the seats, where one has these pins
abbrev pub with_pins : List SeatState → ℕ → List SeatPin → List SeatState
with_pins seats seat pins = slice_set seats seat (record (seat_at seats seat) { pins = pins })

-- the pin at this place is the newest one on the object
pub record IsNewestOf (pins : List SeatPin) (h at : ℕ) : Type 0 where
  pub pin : SeatPin
  pub there : slice_get pins at ≡ Some pin
  pub on : pin.handle ≡ h
  pub newest : (later : ℕ) (other : SeatPin) → at < later → slice_get pins later ≡ Some other
      → other.handle ≢ h

-- no pin is on the object
abbrev pub NoneOn : List SeatPin → ℕ → Type 0
NoneOn pins h = (at : ℕ) (pin : SeatPin) → slice_get pins at ≡ Some pin → pin.handle ≢ h

-- how many of these pins are on the object
abbrev pub pins_among : ℕ → List SeatPin → ℕ
pins_among h pins = sum_by (λ pin. if nat_eq pin.handle h then 1 else 0) pins

-- how many pins all seats have on the object
abbrev pub all_pins_on : ℕ → List SeatState → ℕ
all_pins_on h seats = sum_by (λ seat. pins_among h seat.pins) seats
