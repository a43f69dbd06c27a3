-- A turn whose job hands an order out or takes one, over any desk.
use Rattle.std.specs.Prelude.{◌≡◌, ℕ, ◌^◌, ◌<◌, List, [], Option, Some, Result, Ok, Err}
use Rattle.cb_member.specs.declared.no_memory.NoMemory.{NoMemory}
use Rattle.cb_types.specs.declared.config.Config.{Config}
use Rattle.cb_types.specs.declared.job.Job.{Job}
use Rattle.cb_types.specs.declared.job.Job.TheVariants.{Install}
use Rattle.cb_types.specs.declared.order.Kept.{Kept}
use Rattle.cb_types.specs.declared.reply.Reply.{Reply}
use Rattle.cb_types.specs.declared.reply.Reply.TheVariants as answer
use Rattle.cb_world.specs.declared.access.Access.{Access}
use Rattle.cb_world.specs.declared.homes.Home.{Home}
use Rattle.cb_world.specs.declared.shown.Shown.{Shown}
use Rattle.cb_world.specs.Desks.{Operates}
use Rattle.cb_world.specs.FarState.{FarState}
use Rattle.cb_world.specs.Homes.{home_at}
use Rattle.cb_evict.specs.declared.gathering.Gathered.{Gathered}
use Rattle.cb_evict.specs.Gathering.{GatherEffect, GatherRule, gathered_order, gathered_reply}
use Rattle.cb_evict.specs.InstallRule.{InstallStep}
use Rattle.cb_swapin.specs.declared.fetching.Fetching.{Fetching}
use Rattle.cb_swapin.specs.declared.fetching.Fetching.TheVariants as fetching
use Rattle.cb_swapin.specs.FetchStep.{FetchStep, fetching_order, fetching_reply}
use Rattle.cb_swapin.specs.LandEffect.{LandEffect}
use Rattle.cb_swapin.specs.LandRule.{LandRule}
use Rattle.cb_core.specs.OrderParts.{DoesWithBy, OrderLacks, OrderParts, RunsOrder, StopsWithBy, landed_order}
use Rattle.cb_core.specs.Parts.{Holding}
use Rattle.cb_core.specs.Turned.{EvictLacks, FindsWhere, WinsRoom, counted, once_counted}

-- some spans begin to leave, with their rows handed out
abbrev pub Gathers : {D : Type 0} → (D → List Access → D → Type 0) → (D → Shown → Type 0)
    → Holding D → Gathered → Holding D → Type 0
Gathers run shows a g b =
    Operates run shows a.desk a.far b.desk b.far
    (GatherRule a.far b.far g) (GatherEffect a.far b.far g)

-- the batch that is leaving gets the parities of the order that a seat keeps
abbrev pub Installs : {D : Type 0} → (D → List Access → D → Type 0) → Option Kept → Holding D
    → Reply → Option Kept → Holding D → Type 0
Installs run order a r keeps b = run a.desk [] b.desk × InstallStep a.far b.far r order keeps

-- the rows of the set in which a far object has its home are handed out
abbrev pub FetchesRows : {D : Type 0} → (D → List Access → D → Type 0) → ℕ → Holding D → Fetching
    → Holding D → Type 0
FetchesRows run h a g b = (home : Home) × (home_at a.far.homes h ≡ Some home) × run a.desk [] b.desk
    × FetchStep home.set home.position a.far b.far g

-- the position of the order that a seat keeps is brought in, with the order's row
abbrev pub Lands : {D : Type 0} → (D → List Access → D → Type 0) → (D → Shown → Type 0)
    → Option Kept → Holding D → Reply → Holding D → Type 0
Lands run shows order a r b = Operates run shows a.desk a.far b.desk b.far
    (LandRule order a.far b.far r) (LandEffect order a.far b.far r)

abbrev pub desk_orders : {D : Type 0} → (D → List Access → D → Type 0) → (D → Shown → Type 0)
    → Config → OrderParts D
desk_orders run shows c = record {
  frames = λ a. c.frames;
  gathers = Gathers run shows;
  installs = λ order. Installs run order;
  finds = λ h. FindsWhere run shows h;
  fetches = λ h. FetchesRows run h;
  lands = λ order. Lands run shows order;
  wins = WinsRoom run shows c;
}

-- what such a job does once the turn is counted
abbrev pub DoesWith : {D : Type 0} → (D → List Access → D → Type 0) → (D → Shown → Type 0) → Config
    → Job → Option Kept → Holding D → Reply → Option Kept → Holding D → Type 0
DoesWith run shows c = DoesWithBy (desk_orders run shows c)

-- A fetch over any desk: an object is looked at, and the rows of one that is far are handed out.
pub data FetchRun {D : Type 0} (run : D → List Access → D → Type 0) (shows : D → Shown → Type 0)
    (h : ℕ) (a : Holding D) (g : Fetching) (b : Holding D) : Type 0 where
  not_far : (r : Reply) → g ≡ fetching.Answer r → FindsWhere run shows h a r b
      → (r ≡ answer.NotHere → ⊥) → FetchRun run shows h a g b
  was_far : (m : Holding D) → FindsWhere run shows h a answer.NotHere m
      → FetchesRows run h m g b → FetchRun run shows h a g b

-- A turn of a seat that kept `order` before it and keeps `keeps` after it: where 2^40 turns were
-- counted it is refused and nothing is done; else it is counted first, and then does its job.
pub data TurnedWith {D : Type 0} (run : D → List Access → D → Type 0) (shows : D → Shown → Type 0)
    (c : Config) (job : Job) (order : Option Kept) (a : Holding D) (r : Reply) (keeps : Option Kept)
    (b : Holding D) : Type 0 where
  worn : a.far.counts.turns ≡ 2 ^ 40 → r ≡ answer.Worn → keeps ≡ order → b.far ≡ a.far
      → run a.desk [] b.desk → TurnedWith run shows c job order a r keeps b
  done : a.far.counts.turns < 2 ^ 40
      → DoesWith run shows c job order (once_counted a job) r keeps b
      → TurnedWith run shows c job order a r keeps b

-- The turn of an install, at the far state alone.
pub data InstallTurn (far : FarState) (r : Reply) (order keeps : Option Kept) (new : FarState)
    : Type 0 where
  worn : far.counts.turns ≡ 2 ^ 40 → r ≡ answer.Worn → keeps ≡ order → new ≡ far
      → InstallTurn far r order keeps new
  done : far.counts.turns < 2 ^ 40 → InstallStep (counted far Install) new r order keeps
      → InstallTurn far r order keeps new

-- ---- running out of memory

-- rows that lack memory, and a landing that does, change nothing
abbrev pub NothingDone : {D : Type 0} → (D → List Access → D → Type 0) → Holding D → Holding D
    → Type 0
NothingDone run a b = run a.desk [] b.desk × (b.far ≡ a.far)

-- a fetch of an object that was far
abbrev pub FetchStops : {D : Type 0} → (D → List Access → D → Type 0) → (D → Shown → Type 0) → ℕ
    → Holding D → Holding D → Type 0
FetchStops {D = D} run shows h a b =
    (m : Holding D) × FindsWhere run shows h a answer.NotHere m × NothingDone run m b

abbrev pub desk_order_lacks : {D : Type 0} → (D → List Access → D → Type 0) → (D → Shown → Type 0)
    → OrderLacks D
desk_order_lacks run shows = record {
  gathers = EvictLacks run shows;
  fetches = λ h. NothingDone run;
  lands = λ order. NothingDone run;
  evicts = EvictLacks run shows;
}

abbrev pub StopsWith : {D : Type 0} → (D → List Access → D → Type 0) → (D → Shown → Type 0) → Config
    → Job → Option Kept → Holding D → Holding D → Type 0
StopsWith run shows c = StopsWithBy (desk_orders run shows c) (desk_order_lacks run shows)

-- such a turn that found no memory is counted
pub record StoppedWith {D : Type 0} (run : D → List Access → D → Type 0)
    (shows : D → Shown → Type 0) (c : Config)
    (job : Job) (order : Option Kept) (a b : Holding D) : Type 0 where
  pub few : a.far.counts.turns < 2 ^ 40
  pub stops : StopsWith run shows c job order (once_counted a job) b

-- Where such a turn stopped of a seat that keeps an order: the order could not be run, and the turn
-- is counted and nothing is done; or its job found no memory.
pub data StopsAt {D : Type 0} (run : D → List Access → D → Type 0) (shows : D → Shown → Type 0)
    (c : Config) (job : Job) (order : Option Kept) (a b : Holding D) : Type 0 where
  in_run : a.far.counts.turns < 2 ^ 40 → RunsOrder job order
      → NothingDone run (once_counted a job) b → StopsAt run shows c job order a b
  in_part : StoppedWith run shows c job order a b → StopsAt run shows c job order a b

-- ---- what a seat keeps after such a turn, by its outcome
-- a turn that found no memory leaves it what it kept
abbrev pub gather_keeps : Option Kept → Result Gathered NoMemory → Option Kept
gather_keeps order (Ok g) = gathered_order order g
gather_keeps order (Err e) = order

abbrev pub gather_answer : Result Gathered NoMemory → Result Reply NoMemory
gather_answer (Ok g) = Ok (gathered_reply g)
gather_answer (Err e) = Err e

abbrev pub fetch_keeps : Option Kept → Result Fetching NoMemory → Option Kept
fetch_keeps order (Ok g) = fetching_order order g
fetch_keeps order (Err e) = order

abbrev pub fetch_answer : Result Fetching NoMemory → Result Reply NoMemory
fetch_answer (Ok g) = Ok (fetching_reply g)
fetch_answer (Err e) = Err e

abbrev pub land_keeps : Option Kept → Result Reply NoMemory → Option Kept
land_keeps order (Ok r) = landed_order order r
land_keeps order (Err e) = order

-- What such a turn comes to, by its outcome.
abbrev pub EndsWith : {D : Type 0} → (D → List Access → D → Type 0) → (D → Shown → Type 0) → Config
    → Job → Option Kept → Holding D → Option Kept → Result Reply NoMemory → Holding D → Type 0
EndsWith run shows c job order a keeps (Ok r) b = TurnedWith run shows c job order a r keeps b
EndsWith run shows c job order a keeps (Err e) b = (keeps ≡ order)
    × StopsAt run shows c job order a b

-- An install, at the far state alone: the order could be run or not.
abbrev pub InstallEnds : FarState → Option Kept → Option Kept → Result Reply NoMemory → FarState
    → Type 0
InstallEnds far order keeps (Ok r) new = InstallTurn far r order keeps new
InstallEnds far order keeps (Err e) new = (keeps ≡ order) × (far.counts.turns < 2 ^ 40)
    × RunsOrder Install order × (new ≡ counted far Install)
