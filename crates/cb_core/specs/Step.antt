-- One event of the core, at the still desk: its reply, and every part of the world after it.
use Rattle.std.specs.Prelude.{◌≡◌, ◌⊎◌, ℕ, ◌^◌, ◌<◌, List, [], ◌∷◌, Option, Some, length}
use Rattle.cb_ptr.specs.declared.word.State.TheVariants as state
use Rattle.cb_ptr.specs.Word.{state_of, len_of}
use Rattle.cb_types.specs.declared.job.Job.{Job}
use Rattle.cb_types.specs.declared.job.Job.TheVariants.{Free, Filter, Evict, Begin, Ship, Commit, Abort, Crash}
use Rattle.cb_types.specs.declared.order.Kept.{Kept}
use Rattle.cb_types.specs.declared.reply.Reply.{Reply}
use Rattle.cb_types.specs.declared.reply.Reply.TheVariants as answer
use Rattle.cb_world.specs.Seats.{SeatState, Holds, order_of, with_order}
use Rattle.cb_world.specs.OpenWrites.{AreOpen}
use Rattle.cb_world.specs.declared.homes.Home.{Home}
use Rattle.cb_world.specs.declared.shown.Shown.{Shown}
use Rattle.cb_world.specs.FarState.{FarState}
use Rattle.cb_world.specs.Homes.{home_at}
use Rattle.cb_world.specs.Now.{is_gone, now}
use Rattle.cb_world.specs.Orders.{LeavesOrders}
use Rattle.cb_world.specs.Plain.{Words}
use Rattle.cb_world.specs.StillWords.{stamp_at}
use Rattle.cb_world.specs.World.{WorldState, IsKnown, word_at}
use Rattle.cb_mutate.specs.MakeRule.{NeedsNewSpan}
use Rattle.cb_mutate.specs.MakeStep.{IsMakeStep}
use Rattle.cb_mutate.specs.StillReplies.{reply_as}
use Rattle.cb_mutate.specs.CallStep.{IsReadStep, IsWriteStep, IsFreeStep}
use Rattle.cb_evict.specs.AbortStep.{IsAbortStep}
use Rattle.cb_evict.specs.BeginStep.{IsBeginStep}
use Rattle.cb_evict.specs.CommitStep.{IsCommitStep}
use Rattle.cb_evict.specs.declared.eviction.Eviction.{Eviction}
use Rattle.cb_evict.specs.declared.gathering.Gathered.{Gathered}
use Rattle.cb_evict.specs.EvictStep.{IsCountedStep, IsEvictStep}
use Rattle.cb_evict.specs.Gathering.{IsGatherStep}
use Rattle.cb_evict.specs.InstallRule.{InstallStep}
use Rattle.cb_evict.specs.ShipStep.{IsShipStep}
use Rattle.cb_filter.specs.FilterStep.{IsFilterStep, IsFreeIn, temp_of}
use Rattle.cb_filter.specs.Plans.{Wants}
use Rattle.cb_filter.specs.Seats.{Seat}
use Rattle.cb_swapin.specs.declared.fetching.Fetching.{Fetching}
use Rattle.cb_swapin.specs.FetchStep.{FetchStep}
use Rattle.cb_swapin.specs.LandStep.{IsLandStep}
use Rattle.cb_swapin.specs.SwapStep.{IsSwapStep}
use Rattle.cb_core.specs.declared.event.Atomic.{Atomic}
use Rattle.cb_core.specs.declared.event.Atomic.TheVariants.{Load, Pin, Unpin, Claim, Store, Settle, Take, Give}
use Rattle.cb_core.specs.declared.event.Event.{Event}
use Rattle.cb_core.specs.declared.event.Event.TheVariants as event
use Rattle.cb_core.specs.Claiming.{ClaimStep, StoreStep, SettleStep}
use Rattle.cb_core.specs.Declining.{write_refusal}
use Rattle.cb_core.specs.FarJobs.{FarLacks, FarStep}
use Rattle.cb_core.specs.Holding.{GiveStep, NoOtherHolds, TakeStep}
use Rattle.cb_core.specs.Jobs.{NeedsNoOrder}
use Rattle.cb_core.specs.JobParts.{JobParts, PartLacks, DoesBy, StopsBy}
use Rattle.cb_core.specs.OrderParts.{DoesWithBy, OrderLacks, OrderParts, RunsOrder, StopsWithBy}
use Rattle.cb_core.specs.Parts.{Holding, WithRoom, most_evictions, WhereItIs, NeverDeclined, RoomStops, CallStops}
use Rattle.cb_core.specs.Pinning.{PinStep, UnpinStep}
use Rattle.cb_core.specs.Turned.{IsGiven, counted, once_counted}

-- the parts of a turn, each a step from words and a far state to others
abbrev pub StillMake : List ℕ → Holding Words → Reply → Holding Words → Type 0
StillMake bytes a r b = IsMakeStep a.desk b.desk a.far b.far bytes r

abbrev pub StillRead : ℕ → Holding Words → Reply → Holding Words → Type 0
StillRead h a r b = IsReadStep a.desk b.desk h r × (b.far ≡ a.far)

abbrev pub StillWrite : ℕ → ℕ → List ℕ → Holding Words → Reply → Holding Words → Type 0
StillWrite h at bytes a r b = IsWriteStep a.desk b.desk h at bytes r × (b.far ≡ a.far)

abbrev pub StillFree : ℕ → Holding Words → Reply → Holding Words → Type 0
StillFree h a r b = IsFreeStep a.desk b.desk a.far b.far h r

-- a look at where an object is: Stays where it is here
abbrev pub StillFind : ℕ → Holding Words → Reply → Holding Words → Type 0
StillFind h a r b =
    (r ≡ reply_as (state_of (word_at a.desk h)) (stamp_at a.desk h) answer.Stays) × (b ≡ a)

-- a far object is looked at before a write of so many bytes
abbrev pub StillDecline : ℕ → ℕ → ℕ → Holding Words → Option Reply → Holding Words → Type 0
StillDecline h at count a declined b = (declined
    ≡ write_refusal (is_gone a.far h) (len_of (word_at a.desk h)) (stamp_at a.desk h) at count)
    × (b ≡ a)

-- What every object holds stays: who knows all of the words and the far state before knows all
-- after, and it is the same; the open writes of seats stay open, and every order that was kept is
-- kept.
abbrev pub HoldOn : Holding Words → Holding Words → Type 0
HoldOn a b = (s : Shown) → IsKnown a.desk a.far s
    → (t : Shown) × IsKnown b.desk b.far t × ((h : ℕ) → now t b.far h ≡ now s a.far h)
    × ((seats : List SeatState) → AreOpen a.desk a.far seats → AreOpen b.desk b.far seats)
    × LeavesOrders s a.far t b.far

abbrev pub StillEvict : Holding Words → Reply → Holding Words → Type 0
StillEvict a r b = IsEvictStep a.desk b.desk a.far b.far r × HoldOn a b

-- one that makes room, and tells both counts where it is refused
abbrev pub StillRoom : Holding Words → Eviction → Holding Words → Type 0
StillRoom a e b = IsCountedStep a.desk b.desk a.far b.far e × HoldOn a b

-- an eviction in steps: its begin, a row that is put, its commit, and its end without one
abbrev pub StillBegin : Holding Words → Reply → Holding Words → Type 0
StillBegin a r b = IsBeginStep a.desk b.desk a.far b.far r × HoldOn a b

abbrev pub StillShip : Holding Words → Reply → Holding Words → Type 0
StillShip a r b = IsShipStep a.desk b.desk a.far b.far r × HoldOn a b

abbrev pub StillCommit : Holding Words → Reply → Holding Words → Type 0
StillCommit a r b = IsCommitStep a.desk b.desk a.far b.far r × HoldOn a b

abbrev pub StillAbort : Holding Words → Reply → Holding Words → Type 0
StillAbort a r b = IsAbortStep a.desk b.desk a.far b.far r × HoldOn a b

-- a swap-in of the position at which a far object has its home
abbrev pub StillSwap : ℕ → Holding Words → Reply → Holding Words → Type 0
StillSwap h a r b = (home : Home) × (home_at a.far.homes h ≡ Some home)
    × IsSwapStep a.desk b.desk a.far b.far home.set home.position r × HoldOn a b

-- a far object is brought in, and room is won for it
abbrev pub StillBring : ℕ → Holding Words → Reply → Holding Words → Type 0
StillBring h a r b = WithRoom a.desk.settings.frames (StillSwap h) StillRoom most_evictions a r b

-- a filter of an object in local memory
abbrev pub StillFilter : ℕ → Holding Words → Reply → Holding Words → Type 0
StillFilter h a r b = IsFilterStep a.desk b.desk a.far b.far h r × HoldOn a b

-- an operation on the far state alone: no word changes, and what every object holds stays
abbrev pub StillFar : (FarState → FarState → Reply → Type 0) → Holding Words → Reply → Holding Words
    → Type 0
StillFar step a r b = (b.desk ≡ a.desk) × step a.far b.far r × HoldOn a b

-- a job that is one call
abbrev pub StillAlone : Job → Holding Words → Reply → Holding Words → Type 0
StillAlone (Free handle) a r b = StillFree handle.n a r b
StillAlone (Filter handle) a r b = StillFilter handle.n a r b
StillAlone Evict a r b = StillEvict a r b
StillAlone Begin a r b = StillBegin a r b
StillAlone Ship a r b = StillShip a r b
StillAlone Commit a r b = StillCommit a r b
StillAlone Abort a r b = StillAbort a r b
-- a crash alone may lose what an object holds
StillAlone (Crash node) a r b = (b.desk ≡ a.desk) × FarStep (Crash node) a.far b.far r
-- every other job works at the far state alone
StillAlone job a r b = StillFar (FarStep job) a r b

abbrev pub still_parts : JobParts Words
still_parts = record {
  frames = λ a. a.desk.settings.frames;
  makes = λ bytes. StillMake bytes;
  writes = λ h at bytes. StillWrite h at bytes;
  finds = λ h. StillFind h;
  declines = λ h at count. StillDecline h at count;
  swaps = λ h. StillSwap h;
  wins = StillRoom;
  alone = λ job. StillAlone job;
}

-- a job once the turn is counted
abbrev pub StillWorks : Job → Holding Words → Reply → Holding Words → Type 0
StillWorks = DoesBy still_parts (λ h. WhereItIs (StillRead h) NeverDeclined (StillBring h))

-- ---- the jobs that hand an order out or take one
-- spans begin to leave, with their rows handed out
abbrev pub StillGather : Holding Words → Gathered → Holding Words → Type 0
StillGather a g b = IsGatherStep a.desk b.desk a.far b.far g × HoldOn a b

-- the batch that is leaving gets the parities of the order that a seat keeps
abbrev pub StillInstall : Option Kept → Holding Words → Reply → Option Kept → Holding Words → Type 0
StillInstall order a r keeps b =
    (b.desk ≡ a.desk) × InstallStep a.far b.far r order keeps × HoldOn a b

-- the rows of the set in which a far object has its home are handed out
abbrev pub StillFetch : ℕ → Holding Words → Fetching → Holding Words → Type 0
StillFetch h a g b = (home : Home) × (home_at a.far.homes h ≡ Some home) × (b.desk ≡ a.desk)
    × FetchStep home.set home.position a.far b.far g × HoldOn a b

-- the position of the order that a seat keeps is brought in, with the order's row
abbrev pub StillLand : Option Kept → Holding Words → Reply → Holding Words → Type 0
StillLand order a r b = IsLandStep a.desk b.desk a.far b.far order r × HoldOn a b

abbrev pub still_orders : OrderParts Words
still_orders = record {
  frames = λ a. a.desk.settings.frames;
  gathers = λ a g b. StillGather a g b;
  installs = λ order a r keeps b. StillInstall order a r keeps b;
  finds = λ h. StillFind h;
  fetches = λ h a g b. StillFetch h a g b;
  lands = λ order. StillLand order;
  wins = StillRoom;
}

-- such a job once the turn is counted, by what the seat keeps before it and after it
abbrev pub StillWith : Job → Option Kept → Holding Words → Reply → Option Kept → Holding Words
    → Type 0
StillWith = DoesWithBy still_orders

-- A turn with such a job of a seat that kept `order` before it and keeps `keeps` after it: where
-- 2^40 turns were counted it is refused and changes nothing; else it is counted, and does its job.
pub data OrderTurn (job : Job) (order : Option Kept) (a : Holding Words) (r : Reply)
    (keeps : Option Kept) (b : Holding Words) : Type 0 where
  late : a.far.counts.turns ≡ 2 ^ 40 → r ≡ answer.Worn → keeps ≡ order → b ≡ a
      → OrderTurn job order a r keeps b
  made : a.far.counts.turns < 2 ^ 40 → StillWith job order (once_counted a job) r keeps b
      → OrderTurn job order a r keeps b

-- A job once the turn is counted: it leads from the words x and a far state to the words y and
-- another.
abbrev pub Works : Words → FarState → Job → Reply → Words → FarState → Type 0
Works x far job r y new =
    StillWorks job (record { desk = x; far = far }) r (record { desk = y; far = new })

-- A turn: where 2^40 turns were counted it is refused; else it is counted, and does its job. The
-- seats stay as they are.
pub data TurnStep (job : Job) (w : WorldState) (r : Reply) (new : WorldState) : Type 0 where
  worn : w.far.counts.turns ≡ 2 ^ 40 → r ≡ answer.Worn → new ≡ w → TurnStep job w r new
  done : w.far.counts.turns < 2 ^ 40 → Works w.desk (counted w.far job) job r new.desk new.far
      → new.seats ≡ w.seats → TurnStep job w r new

-- the words and the far state of a world
abbrev pub holding_of : WorldState → Holding Words
holding_of w = record { desk = w.desk; far = w.far }

-- A turn of a seat: where another seat holds the far lock it is refused, not counted, and changes
-- nothing. Else it takes place, whether the seat holds the lock or nobody does. A job that hands an
-- order out or takes one leaves the seat with what it keeps after the turn.
pub data SeatTurn (seat : ℕ) (job : Job) (w : WorldState) (r : Reply) (new : WorldState) : Type 0
  where
    held : (holder : ℕ) → (holder ≡ seat → ⊥) → Holds w.seats holder → r ≡ answer.Held holder
        → new ≡ w → SeatTurn seat job w r new
    free : NoOtherHolds w.seats seat → TurnStep job w r new → SeatTurn seat job w r new
    ordered : (keeps : Option Kept) → (NeedsNoOrder job → ⊥) → NoOtherHolds w.seats seat
        → OrderTurn job (order_of w.seats seat) (holding_of w) r keeps (holding_of new)
        → new.seats ≡ with_order w.seats seat keeps → SeatTurn seat job w r new

-- an atomic step of a seat
abbrev pub AtomicStep : ℕ → Atomic → WorldState → Reply → WorldState → Type 0
AtomicStep seat (Load handle) w r new = (r ≡ answer.Word (word_at w.desk handle.n)) × (new ≡ w)
AtomicStep seat (Pin handle) w r new = PinStep seat handle.n w r new
AtomicStep seat (Unpin handle) w r new = UnpinStep seat handle.n w r new
AtomicStep seat (Claim handle at bytes) w r new = ClaimStep seat handle.n at bytes w r new
AtomicStep seat (Store handle) w r new = StoreStep seat handle.n w r new
AtomicStep seat (Settle handle) w r new = SettleStep seat handle.n w r new
AtomicStep seat Take w r new = TakeStep seat w r new
AtomicStep seat Give w r new = GiveStep seat w r new

-- The world w, an event, its reply and the world after it.
abbrev pub Step : WorldState → Event → Reply → WorldState → Type 0
Step w (event.Step seat atomic) r new = AtomicStep seat atomic w r new
Step w (event.Turn seat job) r new = SeatTurn seat job w r new

-- The world leads by these events, with these replies, to another.
abbrev pub Leads : WorldState → List Event → List Reply → WorldState → Type 0
Leads w [] [] new = new ≡ w
Leads w (e ∷ es) (r ∷ rs) new = (between : WorldState) × Step w e r between
    × Leads between es rs new
Leads w es rs new = ⊥

-- ---- running out of memory

abbrev pub StillMakeLacks : List ℕ → Holding Words → Holding Words → Type 0
StillMakeLacks bytes a b = (b ≡ a) × NeedsNewSpan a.desk.settings.handles (length bytes) a.far

-- nothing changed, and the object is here
abbrev pub StillReadLacks : ℕ → Holding Words → Holding Words → Type 0
StillReadLacks h a b = (b ≡ a) × (state_of (word_at a.desk h) ≡ state.Here)

abbrev pub StillEvictLacks : Holding Words → Holding Words → Type 0
StillEvictLacks a b = b ≡ a

abbrev pub StillShipLacks : Holding Words → Holding Words → Type 0
StillShipLacks a b = b ≡ a

-- rows of the object's set were given out, and nothing else was done
abbrev pub StillSwapLacks : ℕ → Holding Words → Holding Words → Type 0
StillSwapLacks h a b = (b.desk ≡ a.desk) × IsGiven a.far b.far h

abbrev pub StillBringLacks : ℕ → Holding Words → Holding Words → Type 0
StillBringLacks h =
    RoomStops (StillSwap h) (StillSwapLacks h) StillRoom StillEvictLacks most_evictions

-- nothing changed, and the object needs a slot in a new span
abbrev pub StillFilterLacks : ℕ → Holding Words → Holding Words → Type 0
StillFilterLacks h a b =
    (b ≡ a) × ((seat : Seat) × IsFreeIn a.desk a.far h seat × Wants a.far (temp_of a.desk h) seat)

-- an operation on the far state alone
abbrev pub StillFarLacks : (FarState → FarState → Type 0) → Holding Words → Holding Words → Type 0
StillFarLacks lacks a b = (b.desk ≡ a.desk) × lacks a.far b.far

-- a job that is one call; a free, a commit and an abort take no memory
abbrev pub StillLacksAlone : Job → Holding Words → Holding Words → Type 0
StillLacksAlone (Filter handle) a b = StillFilterLacks handle.n a b
StillLacksAlone Evict a b = StillEvictLacks a b
StillLacksAlone Begin a b = StillEvictLacks a b
StillLacksAlone Ship a b = StillShipLacks a b
StillLacksAlone (Free handle) a b = ⊥
StillLacksAlone Commit a b = ⊥
StillLacksAlone Abort a b = ⊥
StillLacksAlone job a b = StillFarLacks (FarLacks job) a b

abbrev pub still_lacks : PartLacks Words
still_lacks = record {
  makes = λ bytes. StillMakeLacks bytes;
  swaps = λ h. StillSwapLacks h;
  evicts = StillEvictLacks;
  alone = λ job. StillLacksAlone job;
}

-- where a job that found no memory stopped
abbrev pub StillStops : Job → Holding Words → Holding Words → Type 0
StillStops = StopsBy still_parts still_lacks
    (λ h. CallStops (StillRead h) (StillReadLacks h) NeverDeclined (StillBring h)
    (StillBringLacks h))

-- a claim that found no memory changed nothing; every other step has its reply
abbrev pub AtomicStops : Atomic → WorldState → WorldState → Type 0
AtomicStops (Claim handle at bytes) w new = new ≡ w
AtomicStops atomic w new = ⊥

-- a turn that found no memory is counted; what its parts did before stays
abbrev pub TurnStops : Job → WorldState → WorldState → Type 0
TurnStops job w new = (w.far.counts.turns < 2 ^ 40) × (new.seats ≡ w.seats)
    × StillStops job (record { desk = w.desk; far = counted w.far job })
    (record { desk = new.desk; far = new.far })

-- what the parts of a job leave that hands an order out or takes one
abbrev pub still_order_lacks : OrderLacks Words
still_order_lacks = record {
  gathers = StillEvictLacks;
  fetches = λ h. StillEvictLacks;
  lands = λ order. StillEvictLacks;
  evicts = StillEvictLacks;
}

-- Where such a turn stopped: the order that the seat keeps could not be run, and the turn is
-- counted and nothing is done; or a part of its job found no memory.
pub data OrderStops (job : Job) (order : Option Kept) (a b : Holding Words) : Type 0 where
  in_run : RunsOrder job order → b ≡ once_counted a job → OrderStops job order a b
  in_part : StopsWithBy still_orders still_order_lacks job order (once_counted a job) b
      → OrderStops job order a b

-- such a turn is counted too, and the seat keeps what it kept
abbrev pub OrderTurnStops : ℕ → Job → WorldState → WorldState → Type 0
OrderTurnStops seat job w new = (w.far.counts.turns < 2 ^ 40) × (new.seats ≡ w.seats)
    × OrderStops job (order_of w.seats seat) (holding_of w) (holding_of new)

-- An event that found no memory. No turn does beside a seat that holds the far lock.
abbrev pub EventStops : WorldState → Event → WorldState → Type 0
EventStops w (event.Step seat atomic) new = AtomicStops atomic w new
EventStops w (event.Turn seat job) new =
    NoOtherHolds w.seats seat × (TurnStops job w new ⊎ OrderTurnStops seat job w new)
