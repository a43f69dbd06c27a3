-- A line of a script as a step of the world.
use Rattle.std.specs.Prelude.{◌≡◌, ℕ, ◌<◌, List, [], ◌∷◌, ◌++◌, length, map, Option}
use Rattle.cb_ptr.specs.declared.word.State.TheVariants as state
use Rattle.cb_ptr.specs.Word.{len_of, state_of}
use Rattle.cb_types.specs.declared.answer.Answer.{Answer}
use Rattle.cb_types.specs.declared.job.Job.{Job}
use Rattle.cb_types.specs.declared.job.Job.TheVariants as job
use Rattle.cb_types.specs.declared.request.Request.{Request}
use Rattle.cb_types.specs.declared.reply.Reply.{Reply}
use Rattle.cb_types.specs.declared.reply.Reply.TheVariants as answer
use Rattle.cb_types.specs.Requests.{name_of}
use Rattle.cb_model.specs.Called.{handle_named}
use Rattle.cb_world.specs.Memory.{bytes_in}
use Rattle.cb_world.specs.Seats.{IsNewestOf, NoneOn, pins_of_seat}
use Rattle.cb_world.specs.StillWords.{contents_at}
use Rattle.cb_world.specs.World.{WorldState, word_at}
use Rattle.cb_core.specs.declared.event.Atomic.TheVariants as atomic
use Rattle.cb_core.specs.declared.event.Event.TheVariants as event
use Rattle.cb_core.specs.declared.event.Event.TheVariants.{Turn}
use Rattle.cb_core.specs.OnceHere.{IsThere}
use Rattle.cb_core.specs.Step.{Step}
use Rattle.cb_lanes.specs.CompactsHere.{CompactsHere}
use Rattle.cb_lanes.specs.declared.side.Side.{Side}
use Rattle.cb_lanes.specs.declared.side.Side.TheVariants as parities
use Rattle.cb_lanes.specs.GivingBack.{GivesAll, Rests, lines_by}
use Rattle.cb_lanes.specs.LineGoes.{Goes, Calls, Pins, Peeks, Unpins, Leaves, CallGoes, ObjectGoes}
use Rattle.cb_lanes.specs.LineGoes.{OtherGoes, LineGoes}

-- A peek leaves the world as it is: a seat without a pin on the object is told so, and one that has
-- a pin is shown the bytes that the object has, at the version of its newest pin on it.
pub data PeekStep (seat h : ℕ) (w : WorldState) (r : Reply) (new : WorldState) : Type 0 where
  not_pinned : NoneOn (pins_of_seat w.seats seat) h → r ≡ answer.NotPinned → new ≡ w
      → PeekStep seat h w r new
  shown : (at : ℕ) → (newest : IsNewestOf (pins_of_seat w.seats seat) h at)
      → r ≡ answer.Bytes newest.pin.version
      (bytes_in (contents_at w.desk h) (len_of (word_at w.desk h)))
      → new ≡ w → PeekStep seat h w r new

-- one step that pins an object
abbrev pub PinEvent : ℕ → ℕ → WorldState → Reply → WorldState → Type 0
PinEvent seat h w r new = Step w (event.Step seat (atomic.Pin (record { n = h }))) r new

-- a turn that swaps an object in
abbrev pub SwapEvent : ℕ → ℕ → WorldState → Reply → WorldState → Type 0
SwapEvent seat h w r new = Step w (Turn seat (job.Swap (record { n = h }))) r new

-- the seat may have one pin more, and the object is far
pub record IsFarToPin (seat h : ℕ) (w : WorldState) : Type 0 where
  pub room : length (pins_of_seat w.seats seat) < 16
  pub away : state_of (word_at w.desk h) ≡ state.Far

-- A pin: one event where the object is not far, or the seat has as many pins as it may have. A far
-- object is pinned in two events, a turn that swaps it in and the pin; where it can't be swapped
-- in, that turn is the line's only event, and the line is answered so.
pub data PinLine (seat h : ℕ) (w : WorldState) (r : Reply) (new : WorldState) : Type 0 where
  at_once : PinEvent seat h w r new → (r ≡ answer.NotHere → ⊥) → PinLine seat h w r new
  stays_far : IsFarToPin seat h w → SwapEvent seat h w r new → (IsThere r → ⊥)
      → PinLine seat h w r new
  swapped_in : (m : WorldState) (q : Reply) → IsFarToPin seat h w → SwapEvent seat h w q m
      → IsThere q → PinEvent seat h m r new → PinLine seat h w r new

-- a compaction, by who makes the parities
abbrev pub CompactsAt : Side → ℕ → WorldState → Reply → WorldState → Type 0
CompactsAt parities.Nodes seat w r new = Step w (Turn seat job.Compact) r new
CompactsAt parities.Compute seat w r new = CompactsHere seat w r new

-- a turn of a seat; who makes the parities matters to a compaction alone
abbrev pub TurnAt : Job → Side → ℕ → WorldState → Reply → WorldState → Type 0
TurnAt job.Compact side seat w r new = CompactsAt side seat w r new
TurnAt j side seat w r new = Step w (Turn seat j) r new

-- What is asked of the lane of this seat leads from one world to another, where this side makes the
-- parities of a compaction: a call is a turn, the end of a pin is one step, and a peek is no event.
-- A lane that leaves gives all its pins back, and is told how many.
abbrev pub goes_at : Side → ℕ → Goes WorldState
goes_at side seat (Calls j) w r new = TurnAt j side seat w r new
goes_at side seat (Pins h) w r new = PinLine seat h w r new
goes_at side seat (Peeks h) w r new = PeekStep seat h w r new
goes_at side seat (Unpins h) w r new =
    Step w (event.Step seat (atomic.Unpin (record { n = h }))) r new
goes_at side seat Leaves w r new =
    (r ≡ answer.Left (length (pins_of_seat w.seats seat))) × GivesAll seat w new

-- a line on the object of this handle
abbrev pub CallStep : Side → ℕ → ℕ → Request → WorldState → Reply → WorldState → Type 0
CallStep side seat h request w r new = CallGoes (goes_at side seat) h request w r new

-- A line on an object: one whose name has no handle, since its make was refused, makes no event and
-- is answered so.
abbrev pub ObjectStep : Side → ℕ → Option ℕ → Request → WorldState → Reply → WorldState → Type 0
ObjectStep side seat handle request w r new = ObjectGoes (goes_at side seat) handle request w r new

-- a line with a job of its own is a turn, and one that has none is on an object
abbrev pub OtherStep : Side → ℕ → Option ℕ → Request → Option Job → WorldState → Reply
    → WorldState → Type 0
OtherStep side seat handle request own w r new =
    OtherGoes (goes_at side seat) handle request own w r new

-- A line of the lane of this seat, whose name has this handle, if it has one.
abbrev pub LineStep : Side → ℕ → Option ℕ → Request → WorldState → Reply → WorldState → Type 0
LineStep side seat handle request w r new = LineGoes (goes_at side seat) handle request w r new

-- The answers after those before them lead from one world to another, line by line. After its last
-- line a lane's pins are given back, before the next line.
abbrev pub LinesLead : Side → List Answer → WorldState → List Answer → WorldState → Type 0
LinesLead side before w [] new = new ≡ w
LinesLead side before w (a ∷ after) new = (between : WorldState) × (rested : WorldState)
    × LineStep side a.lane.n (handle_named before (name_of a.request)) a.request w a.reply between
    × Rests (lines_by a.lane.n (map (λ later. later.lane.n) after)) a.lane.n between rested
    × LinesLead side (before ++ a ∷ []) rested after new
