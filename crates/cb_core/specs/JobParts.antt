-- The jobs, one table over the parts that they are made of: over any desk, and over the still desk.
use Rattle.std.specs.Prelude.{ℕ, List, length, Option}
use Rattle.cb_types.specs.declared.job.Job.{Job}
use Rattle.cb_types.specs.declared.job.Job.TheVariants.{Make, Read, Write, Swap}
use Rattle.cb_types.specs.declared.reply.Reply.{Reply}
use Rattle.cb_types.specs.declared.reply.Reply.TheVariants as answer
use Rattle.cb_evict.specs.declared.eviction.Eviction.{Eviction}
use Rattle.cb_core.specs.Parts.{Holding, WithRoom, most_evictions, WhereItIs, BringsIn, RoomStops, CallStops, NeverLacks}

-- The single calls, each as it leads from one holding to another; each job that is no more than one
-- call is told by its name.
pub record JobParts (D : Type 0) : Type 1 where
  pub frames : Holding D → ℕ
  pub makes : List ℕ → Holding D → Reply → Holding D → Type 0
  pub writes : ℕ → ℕ → List ℕ → Holding D → Reply → Holding D → Type 0
  pub finds : ℕ → Holding D → Reply → Holding D → Type 0
  pub declines : ℕ → ℕ → ℕ → Holding D → Option Reply → Holding D → Type 0
  pub swaps : ℕ → Holding D → Reply → Holding D → Type 0
  pub wins : Holding D → Eviction → Holding D → Type 0
  pub alone : Job → Holding D → Reply → Holding D → Type 0

-- a far object is brought in, and room is won for it
abbrev pub BringsBy : {D : Type 0} → JobParts D → ℕ → Holding D → Reply → Holding D → Type 0
BringsBy p h a r b = WithRoom (p.frames a) (p.swaps h) p.wins most_evictions a r b

-- What a job does by these parts, once the turn is counted; `reads` says how an object is read,
-- wherever it is.
abbrev pub DoesBy : {D : Type 0} → JobParts D → (ℕ → Holding D → Reply → Holding D → Type 0) → Job
    → Holding D → Reply → Holding D → Type 0
DoesBy p reads (Make bytes) a r b =
    WithRoom (p.frames a) (p.makes bytes) p.wins most_evictions a r b
DoesBy p reads (Read handle) a r b = reads handle.n a r b
DoesBy p reads (Write handle at bytes) a r b = WhereItIs (p.writes handle.n at bytes)
    (p.declines handle.n at (length bytes)) (BringsBy p handle.n) a r b
DoesBy p reads (Swap handle) a r b = BringsIn (p.finds handle.n) (BringsBy p handle.n) a r b
DoesBy p reads job a r b = p.alone job a r b

-- what the parts leave that find no memory
pub record PartLacks (D : Type 0) : Type 1 where
  pub makes : List ℕ → Holding D → Holding D → Type 0
  pub swaps : ℕ → Holding D → Holding D → Type 0
  pub evicts : Holding D → Holding D → Type 0
  pub alone : Job → Holding D → Holding D → Type 0

abbrev pub BringStopsBy : {D : Type 0} → JobParts D → PartLacks D → ℕ → Holding D → Holding D
    → Type 0
BringStopsBy p l h = RoomStops (p.swaps h) (l.swaps h) p.wins l.evicts most_evictions

-- an object that was far was found so, and its bringing in lacked memory
abbrev pub ComeStopsBy : {D : Type 0} → JobParts D → PartLacks D → ℕ → Holding D → Holding D
    → Type 0
ComeStopsBy {D = D} p l h a b =
    (m : Holding D) × p.finds h a answer.NotHere m × BringStopsBy p l h m b

-- where a job stopped that found no memory; `lacks` says where a read did
abbrev pub StopsBy : {D : Type 0} → JobParts D → PartLacks D → (ℕ → Holding D → Holding D → Type 0)
    → Job → Holding D → Holding D → Type 0
StopsBy p l lacks (Make bytes) a b =
    RoomStops (p.makes bytes) (l.makes bytes) p.wins l.evicts most_evictions a b
StopsBy p l lacks (Read handle) a b = lacks handle.n a b
StopsBy p l lacks (Write handle at bytes) a b = CallStops (p.writes handle.n at bytes) NeverLacks
    (p.declines handle.n at (length bytes)) (BringsBy p handle.n) (BringStopsBy p l handle.n) a b
StopsBy p l lacks (Swap handle) a b = ComeStopsBy p l handle.n a b
StopsBy p l lacks job a b = l.alone job a b
