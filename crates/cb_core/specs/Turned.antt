-- A turn over any desk.
use Rattle.std.specs.Prelude.{◌≡◌, ◌⊎◌, ℕ, ◌^◌, ◌<◌, ◌≤◌, true, false, List, [], Option, None, Some, length}
use Rattle.cb_ptr.specs.declared.word.State.TheVariants as state
use Rattle.cb_ptr.specs.Word.{len_of, state_of}
use Rattle.cb_set.specs.SetState.{SetState}
use Rattle.cb_types.specs.declared.config.Config.{Config}
use Rattle.cb_types.specs.declared.job.Job.{Job}
use Rattle.cb_types.specs.declared.job.Job.TheVariants.{Free, Filter, Evict, Begin, Ship, Commit, Abort}
use Rattle.cb_types.specs.declared.reply.Reply.{Reply}
use Rattle.cb_types.specs.declared.reply.Reply.TheVariants as answer
use Rattle.cb_types.specs.Jobs.{job_index}
use Rattle.cb_world.specs.declared.access.Access.{Access}
use Rattle.cb_world.specs.declared.homes.Home.{Home}
use Rattle.cb_world.specs.declared.shown.Shown.{Shown}
use Rattle.cb_world.specs.Desks.{Operates}
use Rattle.cb_world.specs.Counts.{with_turn}
use Rattle.cb_world.specs.FarState.{FarState}
use Rattle.cb_world.specs.Homes.{home_at}
use Rattle.cb_world.specs.Looks.{IsFound, IsTold}
use Rattle.cb_world.specs.Now.{is_gone}
use Rattle.cb_world.specs.Sets.{set_in}
use Rattle.cb_world.specs.Still.{IsStill}
use Rattle.cb_world.specs.Touches.{SettlesLast}
use Rattle.cb_mutate.specs.Answered.{Answered}
use Rattle.cb_mutate.specs.MakeRule.{MakeRule, MakeEffect, NeedsNewSpan}
use Rattle.cb_mutate.specs.ReadRule.{ReadRule, ReadEffect, IsSeenHere}
use Rattle.cb_mutate.specs.WriteRule.{WriteRule, WriteEffect}
use Rattle.cb_mutate.specs.FreeRule.{FreeRule, FreeEffect}
use Rattle.cb_evict.specs.AbortRule.{AbortRule, AbortEffect}
use Rattle.cb_evict.specs.BeginEffect.{BeginEffect}
use Rattle.cb_evict.specs.BeginRule.{BeginRule}
use Rattle.cb_evict.specs.CommitRule.{CommitRule, CommitEffect}
use Rattle.cb_evict.specs.declared.eviction.Eviction.{Eviction}
use Rattle.cb_evict.specs.Eviction.{CountsRule, reply_of}
use Rattle.cb_evict.specs.EvictEffect.{EvictEffect}
use Rattle.cb_evict.specs.EvictRule.{EvictRule}
use Rattle.cb_evict.specs.Evicting.{TouchesSpans}
use Rattle.cb_evict.specs.ShipRule.{ReadsLeaving, ShipRule, ShipEffect}
use Rattle.cb_filter.specs.FilterEffect.{FilterEffect}
use Rattle.cb_filter.specs.FilterRule.{FilterRule, NeedsMemory}
use Rattle.cb_swapin.specs.Fetching.{far_given}
use Rattle.cb_swapin.specs.SwapEffect.{SwapEffect}
use Rattle.cb_swapin.specs.SwapRule.{SwapRule}
use Rattle.cb_core.specs.Declining.{write_refusal}
use Rattle.cb_core.specs.FarJobs.{FarLacks, FarStep}
use Rattle.cb_core.specs.JobParts.{JobParts, PartLacks, DoesBy, StopsBy}
use Rattle.cb_core.specs.OnceHere.{OnceHere, OnceHereStops}
use Rattle.cb_core.specs.Parts.{Holding, WithRoom, most_evictions, refusal_by, BringsIn, RoomStops}

-- the far state with one turn more of the job's kind
abbrev pub counted : FarState → Job → FarState
counted far job = record far { counts = with_turn far.counts (job_index job) }

-- an operation over a desk of any kind, by its rule and by its effect
abbrev pub OperatesBy : {D : Type 0} → (D → List Access → D → Type 0) → (D → Shown → Type 0)
    → (FarState → FarState → Reply → List Access → Type 0)
    → (FarState → FarState → Reply → List Access → Shown → Shown → Type 0)
    → Holding D → Reply → Holding D → Type 0
OperatesBy run shows rule effect a r b = Operates run shows a.desk a.far b.desk b.far
    (rule a.far b.far r) (effect a.far b.far r)

-- the calls on objects in local memory
abbrev pub Makes : {D : Type 0} → (D → List Access → D → Type 0) → (D → Shown → Type 0) → Config
    → List ℕ → Holding D → Reply → Holding D → Type 0
Makes run shows c bytes = OperatesBy run shows (λ far new r. MakeRule c.handles bytes far new r)
    (λ far new r. MakeEffect bytes far new r)

abbrev pub Reads : {D : Type 0} → (D → List Access → D → Type 0) → (D → Shown → Type 0) → ℕ
    → Holding D → Reply → Holding D → Type 0
Reads run shows h = OperatesBy run shows (λ far new r es. (new ≡ far) × ReadRule h r es)
    (λ far new r. ReadEffect h r)

abbrev pub WritesObject : {D : Type 0} → (D → List Access → D → Type 0) → (D → Shown → Type 0) → ℕ
    → ℕ
    → List ℕ → Holding D → Reply → Holding D → Type 0
WritesObject run shows h at bytes =
    OperatesBy run shows (λ far new r es. (new ≡ far) × WriteRule h at bytes r es)
    (λ far new r. WriteEffect h at bytes r)

abbrev pub Frees : {D : Type 0} → (D → List Access → D → Type 0) → (D → Shown → Type 0) → ℕ
    → Holding D → Reply → Holding D → Type 0
Frees run shows h = OperatesBy run shows (λ far new r. FreeRule h far new r)
    (λ far new r. FreeEffect h r)

-- a look at where an object is: Stays where it is here
abbrev pub FindsWhere : {D : Type 0} → (D → List Access → D → Type 0) → (D → Shown → Type 0) → ℕ
    → Holding D → Reply → Holding D → Type 0
FindsWhere run shows h =
    OperatesBy run shows (λ far new r es. (new ≡ far) × Answered (λ w. r ≡ answer.Stays) h es r)
    (λ far new r. IsStill)

-- a far object is looked at before a write of so many bytes: the write is declined by the length of
-- its word, which is that of a far object, and by its version word, which is read before any word
-- is stored
abbrev pub IsDeclined : ℕ → ℕ → ℕ → FarState → Option Reply → List Access → Type 0
IsDeclined h at count far declined es = ((is_gone far h ≡ true) × (declined ≡ None) × (es ≡ []))
    ⊎ ((is_gone far h ≡ false) × ((w v : ℕ) × IsFound h w es × (state_of w ≡ state.Far)
    × IsTold h v es × SettlesLast es × (declined ≡ write_refusal false (len_of w) v at count)))

abbrev pub Declines : {D : Type 0} → (D → List Access → D → Type 0) → (D → Shown → Type 0) → ℕ → ℕ
    → ℕ → Holding D → Option Reply → Holding D → Type 0
Declines run shows h at count a declined b = (b.far ≡ a.far)
    × Operates run shows a.desk a.far b.desk b.far (IsDeclined h at count a.far declined) IsStill

-- an eviction
abbrev pub Evicts : {D : Type 0} → (D → List Access → D → Type 0) → (D → Shown → Type 0) → Config
    → Holding D → Reply → Holding D → Type 0
Evicts run shows c =
    OperatesBy run shows (λ far new r. EvictRule far new r) (λ far new r. EvictEffect far new r)

-- one that makes room, and tells both counts where it is refused
abbrev pub WinsRoom : {D : Type 0} → (D → List Access → D → Type 0) → (D → Shown → Type 0) → Config
    → Holding D → Eviction → Holding D → Type 0
WinsRoom run shows c a e b =
    Operates run shows a.desk a.far b.desk b.far
    (CountsRule a.far b.far e) (EvictEffect a.far b.far (reply_of e))

-- and the answer to whom room is won for: that there is no room, or none yet
abbrev pub TriesRoom : {D : Type 0} → (D → List Access → D → Type 0) → (D → Shown → Type 0) → Config
    → Holding D → Option Reply → Holding D → Type 0
TriesRoom run shows c a refusal b =
    (room : Eviction) × WinsRoom run shows c a room b × (refusal ≡ refusal_by c.frames room)

-- an eviction in steps: some spans begin to leave, their rows are put one by one, and the batch is
-- committed or given up
abbrev pub Begins : {D : Type 0} → (D → List Access → D → Type 0) → (D → Shown → Type 0) → Config
    → Holding D → Reply → Holding D → Type 0
Begins run shows c =
    OperatesBy run shows (λ far new r. BeginRule far new r) (λ far new r. BeginEffect far new r)

abbrev pub Ships : {D : Type 0} → (D → List Access → D → Type 0) → (D → Shown → Type 0)
    → Holding D → Reply → Holding D → Type 0
Ships run shows = OperatesBy run shows (λ far new r. ShipRule far new r)
    (λ far new r. ShipEffect far new r)

abbrev pub Commits : {D : Type 0} → (D → List Access → D → Type 0) → (D → Shown → Type 0)
    → Holding D → Reply → Holding D → Type 0
Commits run shows = OperatesBy run shows (λ far new r. CommitRule far new r)
    (λ far new r. CommitEffect far new r)

abbrev pub Aborts : {D : Type 0} → (D → List Access → D → Type 0) → (D → Shown → Type 0)
    → Holding D → Reply → Holding D → Type 0
Aborts run shows = OperatesBy run shows (λ far new r. AbortRule far new r)
    (λ far new r. AbortEffect far new)

-- a swap-in of the position at which a far object has its home
abbrev pub Swaps : {D : Type 0} → (D → List Access → D → Type 0) → (D → Shown → Type 0) → ℕ
    → Holding D → Reply → Holding D → Type 0
Swaps run shows h a r b = (home : Home) × (home_at a.far.homes h ≡ Some home)
    × OperatesBy run shows (λ far new q. SwapRule home.set home.position far new q)
    (λ far new q. SwapEffect home.set home.position far new q) a r b

-- a far object is brought in, and room is won for it
abbrev pub Brings : {D : Type 0} → (D → List Access → D → Type 0) → (D → Shown → Type 0) → Config
    → ℕ → Holding D → Reply → Holding D → Type 0
Brings run shows c h = WithRoom c.frames (Swaps run shows h) (WinsRoom run shows c) most_evictions

-- a filter of an object in local memory
abbrev pub Filters : {D : Type 0} → (D → List Access → D → Type 0) → (D → Shown → Type 0) → Config
    → ℕ → Holding D → Reply → Holding D → Type 0
Filters run shows c h = OperatesBy run shows (λ far new r. FilterRule c.frames h far new r)
    (λ far new r. FilterEffect h far new r)

-- an operation on the far state alone, at which the desk runs nothing
abbrev pub AtFar : {D : Type 0} → (D → List Access → D → Type 0)
    → (FarState → FarState → Reply → Type 0) → Holding D → Reply → Holding D → Type 0
AtFar run step a r b = run a.desk [] b.desk × step a.far b.far r

-- an object is brought in where it is far; the reply tells where it is: Stays where it is here
abbrev pub ComesIn : {D : Type 0} → (D → List Access → D → Type 0) → (D → Shown → Type 0) → Config
    → ℕ → Holding D → Reply → Holding D → Type 0
ComesIn run shows c h = BringsIn (FindsWhere run shows h) (Brings run shows c h)

-- a job that is one call; every job that has no row works at the far state alone
abbrev pub DoesAlone : {D : Type 0} → (D → List Access → D → Type 0) → (D → Shown → Type 0) → Config
    → Job → Holding D → Reply → Holding D → Type 0
DoesAlone run shows c (Free handle) a r b = Frees run shows handle.n a r b
DoesAlone run shows c (Filter handle) a r b = Filters run shows c handle.n a r b
DoesAlone run shows c Evict a r b = Evicts run shows c a r b
DoesAlone run shows c Begin a r b = Begins run shows c a r b
DoesAlone run shows c Ship a r b = Ships run shows a r b
DoesAlone run shows c Commit a r b = Commits run shows a r b
DoesAlone run shows c Abort a r b = Aborts run shows a r b
DoesAlone run shows c job a r b = AtFar run (FarStep job) a r b

-- the parts of the jobs at a desk
abbrev pub desk_parts : {D : Type 0} → (D → List Access → D → Type 0) → (D → Shown → Type 0)
    → Config → JobParts D
desk_parts run shows c = record {
  frames = λ a. c.frames;
  makes = λ bytes. Makes run shows c bytes;
  writes = λ h at bytes. WritesObject run shows h at bytes;
  finds = λ h. FindsWhere run shows h;
  declines = λ h at count. Declines run shows h at count;
  swaps = λ h. Swaps run shows h;
  wins = WinsRoom run shows c;
  alone = λ job. DoesAlone run shows c job;
}

-- What a job does once the turn is counted. An object that is to be read is first brought in;
-- `reads` says how it is read then.
abbrev pub Does : {D : Type 0} → (D → List Access → D → Type 0) → (D → Shown → Type 0)
    → (ℕ → Holding D → Reply → Holding D → Type 0) → Config → Job
    → Holding D → Reply → Holding D → Type 0
Does run shows reads c =
    DoesBy (desk_parts run shows c) (λ h. OnceHere (ComesIn run shows c h) (reads h))

-- the holding, where one turn more of the job's kind is counted
abbrev pub once_counted : {D : Type 0} → Holding D → Job → Holding D
once_counted a job = record { desk = a.desk; far = counted a.far job }

-- A turn: where 2^40 turns were counted it is refused and nothing is done; else it is counted
-- first, and then does its job.
pub data Turned {D : Type 0} (run : D → List Access → D → Type 0) (shows : D → Shown → Type 0)
    (reads : ℕ → Holding D → Reply → Holding D → Type 0) (c : Config) (job : Job) (a : Holding D)
    (r : Reply) (b : Holding D) : Type 0 where
  worn : a.far.counts.turns ≡ 2 ^ 40 → r ≡ answer.Worn → b.far ≡ a.far → run a.desk [] b.desk
      → Turned run shows reads c job a r b
  done : a.far.counts.turns < 2 ^ 40 → Does run shows reads c job (once_counted a job) r b
      → Turned run shows reads c job a r b

-- ---- running out of memory

-- a make that lacks memory for a new span changes nothing
abbrev pub MakeLacks : {D : Type 0} → (D → List Access → D → Type 0) → Config → List ℕ → Holding D
    → Holding D → Type 0
MakeLacks run c bytes a b =
    run a.desk [] b.desk × (b.far ≡ a.far) × NeedsNewSpan c.handles (length bytes) a.far

-- a read that lacks memory for the bytes has looked at an object that is here, and changes nothing
abbrev pub ReadLacks : {D : Type 0} → (D → List Access → D → Type 0) → (D → Shown → Type 0) → ℕ
    → Holding D → Holding D → Type 0
ReadLacks run shows h a b = (b.far ≡ a.far) × Operates run shows a.desk a.far b.desk b.far
    (IsSeenHere h) IsStill

-- an eviction that lacks memory changes nothing; nor does a begin
abbrev pub EvictLacks : {D : Type 0} → (D → List Access → D → Type 0) → (D → Shown → Type 0)
    → Holding D → Holding D → Type 0
EvictLacks run shows a b = (b.far ≡ a.far) × Operates run shows a.desk a.far b.desk b.far
    (TouchesSpans a.far) IsStill

-- the object has its home in a set, and rows of that set were given out, at most as many as it has
-- data positions
abbrev pub IsGiven : FarState → FarState → ℕ → Type 0
IsGiven far new h = (home : Home) × (set : SetState) × (n : ℕ) × (home_at far.homes h ≡ Some home)
    × (set_in far.sets home.set ≡ Some set) × (n ≤ length set.positions) × (new ≡ far_given far n)

-- a swap-in that lacks memory has given out rows, and nothing else was done
abbrev pub SwapLacks : {D : Type 0} → (D → List Access → D → Type 0) → ℕ → Holding D → Holding D
    → Type 0
SwapLacks run h a b = run a.desk [] b.desk × IsGiven a.far b.far h

abbrev pub BringLacks : {D : Type 0} → (D → List Access → D → Type 0) → (D → Shown → Type 0)
    → Config → ℕ → Holding D → Holding D → Type 0
BringLacks run shows c h = RoomStops (Swaps run shows h) (SwapLacks run h) (WinsRoom run shows c)
    (EvictLacks run shows) most_evictions

-- a filter that lacks memory for a new span changes nothing
abbrev pub FilterLacks : {D : Type 0} → (D → List Access → D → Type 0) → (D → Shown → Type 0) → ℕ
    → Holding D → Holding D → Type 0
FilterLacks run shows h a b = Operates run shows a.desk a.far b.desk b.far
    (NeedsMemory h a.far b.far) IsStill

-- an operation on the far state alone that lacks memory
abbrev pub AtFarLacks : {D : Type 0} → (D → List Access → D → Type 0)
    → (FarState → FarState → Type 0) → Holding D → Holding D → Type 0
AtFarLacks run lacks a b = run a.desk [] b.desk × lacks a.far b.far

-- a ship that lacks memory changes nothing
abbrev pub ShipLacks : {D : Type 0} → (D → List Access → D → Type 0) → (D → Shown → Type 0)
    → Holding D → Holding D → Type 0
ShipLacks run shows a b = (b.far ≡ a.far) × Operates run shows a.desk a.far b.desk b.far
    (ReadsLeaving a.far) IsStill

-- an object that was far was found so, and its bringing in lacked memory
abbrev pub ComeLacks : {D : Type 0} → (D → List Access → D → Type 0) → (D → Shown → Type 0) → Config
    → ℕ → Holding D → Holding D → Type 0
ComeLacks {D = D} run shows c h a b =
    (m : Holding D) × FindsWhere run shows h a answer.NotHere m × BringLacks run shows c h m b

-- a job that is one call; a free, a commit and an abort take no memory
abbrev pub LacksAlone : {D : Type 0} → (D → List Access → D → Type 0) → (D → Shown → Type 0) → Job
    → Holding D → Holding D → Type 0
LacksAlone run shows (Filter handle) a b = FilterLacks run shows handle.n a b
LacksAlone run shows Evict a b = EvictLacks run shows a b
LacksAlone run shows Begin a b = EvictLacks run shows a b
LacksAlone run shows Ship a b = ShipLacks run shows a b
LacksAlone run shows (Free handle) a b = ⊥
LacksAlone run shows Commit a b = ⊥
LacksAlone run shows Abort a b = ⊥
LacksAlone run shows job a b = AtFarLacks run (FarLacks job) a b

-- what the parts leave that find no memory
abbrev pub desk_lacks : {D : Type 0} → (D → List Access → D → Type 0) → (D → Shown → Type 0)
    → Config → PartLacks D
desk_lacks run shows c = record {
  makes = λ bytes. MakeLacks run c bytes;
  swaps = λ h. SwapLacks run h;
  evicts = EvictLacks run shows;
  alone = λ job. LacksAlone run shows job;
}

-- Where a job that found no memory stopped. `lacks` says what a read that lacks it leaves.
abbrev pub Stops : {D : Type 0} → (D → List Access → D → Type 0) → (D → Shown → Type 0)
    → (ℕ → Holding D → Holding D → Type 0) → Config → Job → Holding D → Holding D → Type 0
Stops run shows lacks c = StopsBy (desk_parts run shows c) (desk_lacks run shows c)
    (λ h. OnceHereStops (ComesIn run shows c h) (ComeLacks run shows c h) (lacks h))

-- a turn that found no memory is counted
pub record Stopped {D : Type 0} (run : D → List Access → D → Type 0) (shows : D → Shown → Type 0)
    (lacks : ℕ → Holding D → Holding D → Type 0) (c : Config) (job : Job) (a b : Holding D) : Type 0
  where
    pub few : a.far.counts.turns < 2 ^ 40
    pub stops : Stops run shows lacks c job (once_counted a job) b
