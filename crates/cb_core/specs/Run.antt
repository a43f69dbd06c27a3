-- Runs of the core: events one after another.
use Rattle.std.specs.Prelude.{◌≡◌, ◌⊎◌, ℕ, suc, List, [], ◌∷◌, ◌++◌, Some}
use Rattle.cb_types.specs.declared.handle.Handle.{Handle}
use Rattle.cb_types.specs.declared.handle.SetId.{SetId}
use Rattle.cb_types.specs.declared.job.Job.TheVariants.{Evict, Swap}
use Rattle.cb_types.specs.declared.reply.Reply.{Reply}
use Rattle.cb_types.specs.declared.reply.Reply.TheVariants as answer
use Rattle.cb_world.specs.declared.shown.Shown.{Shown}
use Rattle.cb_world.specs.FarState.{FarState}
use Rattle.cb_world.specs.Survey.{no_survey}
use Rattle.cb_world.specs.World.{WorldState, IsKnown, IsSoundWorld}
use Rattle.cb_core.specs.declared.event.Event.{Event}
use Rattle.cb_core.specs.declared.event.Event.TheVariants as event
use Rattle.cb_core.specs.NowIn.{now_in}
use Rattle.cb_core.specs.Parts.{most_evictions}
use Rattle.cb_core.specs.Step.{Step, Leads, EventStops}
use Rattle.cb_core.specs.Unavailable.{asked_by}

-- The world leads by these events, with these replies, to another, and after each of them it is
-- sound.
abbrev pub LeadsSoundly : WorldState → List Event → List Reply → WorldState → Type 0
LeadsSoundly w [] [] new = new ≡ w
LeadsSoundly w (e ∷ es) (r ∷ rs) new = (between : WorldState) × Step w e r between
    × IsSoundWorld between × LeadsSoundly between es rs new
LeadsSoundly w es rs new = ⊥

-- The event has no other reply from that world, and leads to no other one.
abbrev pub IsOnlyStep : WorldState → Event → Reply → WorldState → Type 0
IsOnlyStep w e r new = (q : Reply) (v : WorldState) → Step w e q v → (q ≡ r) × (v ≡ new)

-- Nor do the events one after another.
abbrev pub IsOnlyRun : WorldState → List Event → List Reply → WorldState → Type 0
IsOnlyRun w events replies new = (qs : List Reply) (v : WorldState) → Leads w events qs v
    → (qs ≡ replies) × (v ≡ new)

-- What a run that found no memory left: some first events took place, and nothing else, or the next
-- event stopped.
pub record RunStops (w : WorldState) (events : List Event) (new : WorldState) : Type 0 where
  pub before : List Event
  pub after : List Event
  pub replies : List Reply
  pub reached : WorldState
  pub are : events ≡ before ++ after
  pub leads : Leads w before replies reached
  pub left : (new ≡ reached)
      ⊎ ((next : Event) × (rest : List Event) × (after ≡ next ∷ rest) × EventStops reached next new)

-- ---- running out of memory

-- the far state but for what it only counts, turns and rows that were given out, and for what is
-- known of how the sets stand
abbrev pub but_counts : FarState → FarState
but_counts far = record far {
  counts = record far.counts { turns = 0; by_job = [] };
  nodes = record far.nodes { given = 0 };
  survey = no_survey;
}

-- The worlds are the same, where these counts are left out. Every word of local memory and every
-- seat's pins and open writes are compared.
pub record IsSameBut (w v : WorldState) : Type 0 where
  pub desk : v.desk ≡ w.desk
  pub far : but_counts v.far ≡ but_counts w.far
  pub seats : v.seats ≡ w.seats

-- what each object holds is what it held
abbrev pub HoldsAsBefore : WorldState → WorldState → Type 0
HoldsAsBefore w new = (s : Shown) → IsKnown w.desk w.far s
    → (t : Shown) × IsKnown new.desk new.far t × ((h : ℕ) → now_in new t h ≡ now_in w s h)

-- the seat of an event
abbrev pub seat_of : Event → ℕ
seat_of (event.Step seat atomic) = seat
seat_of (event.Turn seat job) = seat

-- Evictions one after another, at least one and so many at the most, each as a turn Evict of the
-- seat does it, counts left out: the first from the world w, and each other one from the world that
-- the one before it left.
pub data MakesEvictions (seat : ℕ) : ℕ → WorldState → WorldState → Type 0 where
  last : {fewer : ℕ} {w new : WorldState} (v : WorldState) (id : SetId)
      → Step w (event.Turn seat Evict) (answer.Set id) v → IsSameBut v new
      → MakesEvictions seat (suc fewer) w new
  one_more : {fewer : ℕ} {w new : WorldState} (v u : WorldState) (id : SetId)
      → Step w (event.Turn seat Evict) (answer.Set id) v → IsSameBut v u
      → MakesEvictions seat fewer u new → MakesEvictions seat (suc fewer) w new

-- What an event that found no memory did before, counts left out: nothing; or evictions, as turns
-- Evict of its seat do them; or its object was brought in, as a turn Swap of its seat does it,
-- which evicts for it where there is no frame.
pub data MakesRoom (w : WorldState) (e : Event) (new : WorldState) : Type 0 where
  nothing : IsSameBut w new → MakesRoom w e new
  evicts : MakesEvictions (seat_of e) most_evictions w new → MakesRoom w e new
  brings : (v : WorldState) (handle : Handle) (f : ℕ) → asked_by e ≡ Some handle.n
      → Step w (event.Turn (seat_of e) (Swap handle)) (answer.Swapped f) v → IsSameBut v new
      → MakesRoom w e new

-- What an event leaves that found no memory: at most room was made for it. What each object holds,
-- and each seat's pins and open writes, are as before it.
pub record LeavesAsBefore (w : WorldState) (e : Event) (new : WorldState) : Type 0 where
  pub room : MakesRoom w e new
  pub holds : HoldsAsBefore w new
  pub seats : new.seats ≡ w.seats

-- What a run leaves that found no memory: the world that some first events led to, counts left out,
-- or that world once room was made for the next event. What each object holds, and each seat's pins
-- and open writes, are as these first events left them.
pub record LeavesPrefix (w : WorldState) (events : List Event) (new : WorldState) : Type 0 where
  pub before : List Event
  pub after : List Event
  pub replies : List Reply
  pub reached : WorldState
  pub are : events ≡ before ++ after
  pub leads : LeadsSoundly w before replies reached
  pub left : IsSameBut reached new
      ⊎ ((next : Event) × (rest : List Event) × (after ≡ next ∷ rest) × MakesRoom reached next new)
  pub holds : HoldsAsBefore reached new
  pub seats : new.seats ≡ reached.seats
