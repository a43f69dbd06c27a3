-- Which turn is answered Unavailable, and which event, and exactly when.
use Rattle.std.specs.Prelude.{◌≡◌, ◌⊎◌, ℕ, ◌^◌, ◌<◌, true, List, [], ◌∷◌, Option, None, Some, length}
use Rattle.cb_member.specs.declared.names.Loss.{Loss}
use Rattle.cb_ptr.specs.declared.word.State.TheVariants as state
use Rattle.cb_ptr.specs.Word.{state_of}
use Rattle.cb_set.specs.Lost.{lost}
use Rattle.cb_set.specs.SetState.{SetState, parities}
use Rattle.cb_types.specs.declared.handle.SetId.{SetId}
use Rattle.cb_types.specs.declared.job.Job.{Job}
use Rattle.cb_types.specs.declared.job.Job.TheVariants as job
use Rattle.cb_types.specs.declared.order.DecodeOrder.{DecodeOrder}
use Rattle.cb_types.specs.declared.order.Kept.{Kept}
use Rattle.cb_types.specs.declared.order.Kept.TheVariants.{Decode}
use Rattle.cb_types.specs.declared.reply.Reply.{Reply}
use Rattle.cb_types.specs.declared.reply.Reply.TheVariants as answer
use Rattle.cb_world.specs.declared.homes.Home.{Home}
use Rattle.cb_world.specs.FarState.{FarState}
use Rattle.cb_world.specs.Homes.{home_at}
use Rattle.cb_world.specs.Seats.{order_of}
use Rattle.cb_world.specs.Sets.{set_in}
use Rattle.cb_world.specs.World.{WorldState, word_at}
use Rattle.cb_swapin.specs.LandRule.{live_in}
use Rattle.cb_core.specs.declared.event.Event.{Event}
use Rattle.cb_core.specs.declared.event.Event.TheVariants as event
use Rattle.cb_core.specs.Holding.{NoOtherHolds}
use Rattle.cb_core.specs.Step.{Step}

-- The object has its home in a set that has lost more shards than it has parities: the set's
-- number, and all that it lost, in order of position, each as its node and the epoch of the crash.
pub record IsInLost (far : FarState) (h : ℕ) (id : SetId) (losses : List Loss) : Type 0 where
  pub home : Home
  pub set : SetState
  pub at : home_at far.homes h ≡ Some home
  pub there : set_in far.sets home.set ≡ Some set
  pub number : id ≡ record { n = home.set }
  pub all : losses ≡ lost far.members set.shards
  pub many : parities set < length losses

-- The object is far, and its set has lost more shards than it has parities.
pub record IsLost (w : WorldState) (h : ℕ) (id : SetId) (losses : List Loss) : Type 0 where
  pub away : state_of (word_at w.desk h) ≡ state.Far
  pub home : IsInLost w.far h id losses

-- the object that a job brings in where it is far: that of a read, a write or a swap; or whose rows
-- it hands out, that of a fetch
abbrev pub brought_by : Job → Option ℕ
brought_by (job.Read handle) = Some handle.n
brought_by (job.Write handle at bytes) = Some handle.n
brought_by (job.Swap handle) = Some handle.n
brought_by (job.Fetch handle) = Some handle.n
brought_by other = None

-- Over any desk a turn is answered Unavailable exactly where it is made for an object that it
-- brings in, and that has its home in a set that has lost more shards than it has parities.
pub record TurnTells (job : Job) (far : FarState) (r : Reply) : Type 0 where
  pub only : (id : SetId) (losses : List Loss) → r ≡ answer.Unavailable id losses
      → (h : ℕ) × (brought_by job ≡ Some h) × IsInLost far h id losses
  pub each : (h : ℕ) (id : SetId) (losses : List Loss) → brought_by job ≡ Some h
      → far.counts.turns < 2 ^ 40 → IsInLost far h id losses → r ≡ answer.Unavailable id losses

-- The set has lost more shards than it has parities: all that it lost, in order of position.
pub record IsSetLost (far : FarState) (id : SetId) (losses : List Loss) : Type 0 where
  pub set : SetState
  pub there : set_in far.sets id.n ≡ Some set
  pub all : losses ≡ lost far.members set.shards
  pub many : parities set < length losses

-- Over any desk the landing of a row is answered Unavailable exactly where the position of its
-- order is live and the order's set has lost more shards than it has parities.
pub record LandTells (order : Option Kept) (far : FarState) (r : Reply) : Type 0 where
  pub only : (id : SetId) (losses : List Loss) → r ≡ answer.Unavailable id losses
      → (o : DecodeOrder) × (order ≡ Some (Decode o)) × (id ≡ record { n = o.set })
      × (live_in far o.set o.position ≡ true) × IsSetLost far id losses
  pub each : (o : DecodeOrder) (losses : List Loss) → order ≡ Some (Decode o)
      → far.counts.turns < 2 ^ 40 → live_in far o.set o.position ≡ true
      → IsSetLost far (record { n = o.set }) losses
      → r ≡ answer.Unavailable (record { n = o.set }) losses

-- the object that an event brings in
abbrev pub asked_by : Event → Option ℕ
asked_by (event.Turn seat job) = brought_by job
asked_by (event.Step seat atomic) = None

-- the turn is made: no other seat holds the far lock, and fewer than 2^40 turns were counted
abbrev pub IsTurnMade : WorldState → Event → Type 0
IsTurnMade w (event.Turn seat job) = NoOtherHolds w.seats seat × (w.far.counts.turns < 2 ^ 40)
IsTurnMade w (event.Step seat atomic) = ⊥

-- the event is a landing of the order that its seat keeps, whose position is live, and whose set
-- has lost more shards than it has parities
abbrev pub IsLandLost : WorldState → Event → SetId → List Loss → Type 0
IsLandLost w (event.Turn seat j) id losses = (o : DecodeOrder) × (j ≡ job.Land)
    × (order_of w.seats seat ≡ Some (Decode o)) × (id ≡ record { n = o.set })
    × (live_in w.far o.set o.position ≡ true) × IsSetLost w.far id losses
IsLandLost w (event.Step seat atomic) id losses = ⊥

-- An event is answered Unavailable exactly where it is a turn that brings in an object, and that is
-- far in a set that has lost more shards than it has parities, or a landing of an order of such a
-- set; and the answer tells the set and all that it lost.
pub record TellsUnavailable (w : WorldState) (e : Event) (r : Reply) : Type 0 where
  pub only : (id : SetId) (losses : List Loss) → r ≡ answer.Unavailable id losses
      → ((h : ℕ) × (asked_by e ≡ Some h) × IsLost w h id losses) ⊎ IsLandLost w e id losses
  pub each : (h : ℕ) (id : SetId) (losses : List Loss) → asked_by e ≡ Some h → IsTurnMade w e
      → IsLost w h id losses → r ≡ answer.Unavailable id losses
  pub landed : (id : SetId) (losses : List Loss) → IsTurnMade w e → IsLandLost w e id losses
      → r ≡ answer.Unavailable id losses

-- The world leads by these events, with these replies, to another, and each of them is answered
-- Unavailable exactly where it is to be.
abbrev pub LeadsTelling : WorldState → List Event → List Reply → WorldState → Type 0
LeadsTelling w [] [] new = new ≡ w
LeadsTelling w (e ∷ es) (r ∷ rs) new = (between : WorldState) × Step w e r between
    × TellsUnavailable w e r × LeadsTelling between es rs new
LeadsTelling w es rs new = ⊥
