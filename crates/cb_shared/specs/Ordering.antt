-- Turns of jobs that hand an order out or take one.
use Rattle.std.specs.Prelude.{◌≡◌, ℕ, ◌<◌, List, Option, None, Some, Result, Ok, IfOk, OnErr}
use Rattle.cb_member.specs.declared.no_memory.NoMemory.{NoMemory}
use Rattle.cb_types.specs.declared.config.Config.{Config}
use Rattle.cb_types.specs.declared.handle.Handle.{Handle}
use Rattle.cb_types.specs.declared.handle.SetId.{SetId}
use Rattle.cb_types.specs.declared.job.Job.{Job}
use Rattle.cb_types.specs.declared.job.Job.TheVariants as jobs
use Rattle.cb_types.specs.declared.order.Kept.{Kept}
use Rattle.cb_types.specs.declared.order.Kept.TheVariants.{Encode, Decode}
use Rattle.cb_types.specs.declared.reply.Reply.{Reply}
use Rattle.cb_types.specs.declared.reply.Reply.TheVariants as answer
use Rattle.cb_types.specs.Orders.{IsDecodable, IsEncodable}
use Rattle.cb_world.specs.declared.access.Access.{Access}
use Rattle.cb_world.specs.declared.shown.Shown.{Shown}
use Rattle.cb_evict.specs.declared.gathering.Gathered.{Gathered}
use Rattle.cb_evict.specs.declared.gathering.Gathered.TheVariants as gathered
use Rattle.cb_evict.specs.InstallRule.{kept_behind}
use Rattle.cb_swapin.specs.declared.fetching.Fetching.{Fetching}
use Rattle.cb_swapin.specs.declared.fetching.Fetching.TheVariants as fetching
use Rattle.cb_core.specs.Ordered.{StoppedWith, TurnedWith, fetch_answer, fetch_keeps}
use Rattle.cb_core.specs.Ordered.{gather_answer, gather_keeps, land_keeps}
use Rattle.cb_core.specs.OrderLeaves.{HandsOrder, fetch_hands, gather_hands}
use Rattle.cb_core.specs.Parts.{Holding}
use Rattle.cb_rule.specs.declared.view.View.{View}
use Rattle.cb_record.specs.Parts.{Grows, Part}
use Rattle.cb_shared.specs.declared.asked.Asked.{Asked}
use Rattle.cb_shared.specs.declared.asked.Asked.TheVariants as asks
use Rattle.cb_shared.specs.declared.asked.Outcome.{Outcome}
use Rattle.cb_shared.specs.declared.asked.Outcome.TheVariants as ends
use Rattle.cb_shared.specs.Seeking.{FindsKnown}
use Rattle.cb_shared.specs.Turning.{TellsLost, TurnBy}

-- the job that is asked for
abbrev pub job_of : Asked → Job
job_of asks.Gather = jobs.Gather
job_of (asks.Install done) = jobs.Install
job_of (asks.Fetch handle) = jobs.Fetch handle
job_of (asks.Land done) = jobs.Land

-- It may be asked of a pass that keeps this order: an install and a landing of the order that was
-- run, a fetch of a handle in range.
abbrev pub MayAsk : Config → Option Kept → Asked → Type 0
MayAsk c order asks.Gather = Unit {0}
MayAsk c order (asks.Install done) = order ≡ Some (Encode done.now.order)
MayAsk c order (asks.Fetch handle) = handle.n < c.handles
MayAsk c order (asks.Land done) = order ≡ Some (Decode done.now.order)

-- the handle that is asked for is in range
abbrev pub AsksBelow : Config → Asked → Type 0
AsksBelow c (asks.Fetch handle) = handle.n < c.handles
AsksBelow c asked = Unit {0}

-- the order that was run
abbrev pub order_run : Asked → Option Kept
order_run asks.Gather = None
order_run (asks.Install done) = Some (Encode done.now.order)
order_run (asks.Fetch handle) = None
order_run (asks.Land done) = Some (Decode done.now.order)

-- the reply of each of the four, as it stands in the record
abbrev pub told : Outcome → Result Reply NoMemory
told (ends.Gather r) = gather_answer r
told (ends.Install r) = Ok r
told (ends.Fetch r) = fetch_answer r
told (ends.Land r) = r

-- What the pass keeps after such a turn: a new order replaces the one before, an install and a
-- landing that are done take it, and running out of memory leaves it.
abbrev pub keeps_of : Outcome → Option Kept → Option Kept
keeps_of (ends.Gather r) order = gather_keeps order r
keeps_of (ends.Install r) order = kept_behind r order
keeps_of (ends.Fetch r) order = fetch_keeps order r
keeps_of (ends.Land r) order = land_keeps order r

-- the order that is handed out
abbrev pub handed_by : Outcome → Option Kept
handed_by (ends.Gather r) = gather_hands r
handed_by (ends.Install r) = None
handed_by (ends.Fetch r) = fetch_hands r
handed_by (ends.Land r) = None

-- an order can be run, if there is one
abbrev pub CanRun : Option Kept → Type 0
CanRun None = Unit {0}
CanRun (Some (Encode o)) = IsEncodable o
CanRun (Some (Decode o)) = IsDecodable o

-- an order is handed out exactly where a batch begins, and where rows are fetched: no other reply
-- tells of one
abbrev pub IsPlainGather : Result Gathered NoMemory → Type 0
IsPlainGather (Ok (gathered.Answer r)) = (id : SetId) → r ≡ answer.Batch id → ⊥
IsPlainGather g = Unit {0}

abbrev pub IsPlainFetch : Result Fetching NoMemory → Type 0
IsPlainFetch (Ok (fetching.Answer r)) = (id : SetId) (p : ℕ) → r ≡ answer.Fetched id p → ⊥
IsPlainFetch g = Unit {0}

-- the reply is not that there is no room
abbrev pub IsNoWant : Reply → Type 0
IsNoWant r = (frames loose nodes : ℕ) → r ≡ answer.NoRoom frames loose nodes → ⊥

-- an answer of each of the four jobs; a landing alone may find no room
abbrev pub IsGathered : Outcome → Type 0
IsGathered (ends.Gather r) = IsPlainGather r × IfOk (gather_answer r) IsNoWant
IsGathered o = ⊥

abbrev pub IsInstalled : Outcome → Type 0
IsInstalled (ends.Install r) = IsNoWant r
IsInstalled o = ⊥

abbrev pub IsFetched : Outcome → Type 0
IsFetched (ends.Fetch r) = IsPlainFetch r × IfOk (fetch_answer r) IsNoWant
IsFetched o = ⊥

abbrev pub IsLanded : Outcome → Type 0
IsLanded (ends.Land r) = IfOk r (λ reply. reply ≡ answer.NoFrame → ⊥)
IsLanded o = ⊥

-- what is answered is of what was asked for
abbrev pub IsAnswered : Asked → Outcome → Type 0
IsAnswered asks.Gather o = IsGathered o
IsAnswered (asks.Install done) o = IsInstalled o
IsAnswered (asks.Fetch handle) o = IsFetched o
IsAnswered (asks.Land done) o = IsLanded o

-- What such a turn does over any desk, by each order that it may be asked with: its reply and what
-- is kept after it are those of the job, an order that is handed out is kept then, and it is
-- answered Unavailable exactly where it is to be.
pub record AsksDesk {D : Type 0} (run : D → List Access → D → Type 0) (shows : D → Shown → Type 0)
    (c : Config) (asked : Asked) (o : Outcome) (a b : Holding D) : Type 0 where
  pub turned : (order : Option Kept) → MayAsk c order asked
      → IfOk (told o) (λ q. TurnedWith run shows c (job_of asked) order a q (keeps_of o order) b)
  pub stopped : (order : Option Kept) → MayAsk c order asked
      → OnErr (told o) (StoppedWith run shows c (job_of asked) order a b × (keeps_of o order ≡ order))
  pub leaves : HandsOrder run shows c a b (handed_by o)
  pub kind : IsAnswered asked o
  pub tells : (order : Option Kept) → MayAsk c order asked
      → IfOk (told o) (λ r. TellsLost (job_of asked) order a.far r)

-- the object of a fetch that was answered Freed
abbrev pub fetched_of : ℕ → Result Reply NoMemory → Option ℕ
fetched_of h (Ok answer.Freed) = Some h
fetched_of h r = None

-- a turn of a fetch, and after one that was answered Freed looks at its object: its freed entry is
-- read where the record knows it
abbrev pub FetchFinds : Config → Handle → Result Reply NoMemory → View → View → Type 0
FetchFinds c h r v w = (m : View) × TurnBy c (jobs.Fetch h) r v m
    × ((d : Part) × Grows m d w × FindsKnown (fetched_of h.n r) m d)
