-- What the answers of a run tell of crashes and joins, of sets that lost too much, of room, and of
-- what is worn; and what its world tells of the workers.
use Rattle.std.specs.Prelude.{◌≡◌, ◌≢◌, ◌⊎◌, ℕ, ◌+◌, ◌^◌, ◌<◌, ◌≤◌, List, [], ◌∷◌, length, Option, None, Some, slice_index}
use Rattle.std.specs.List.{AllByRecursion, Contains, filter_map, range_with_len}
use Rattle.std.specs.List.Sorted.{IsPermutation}
use Rattle.cb_member.specs.declared.names.Loss.{Loss}
use Rattle.cb_types.specs.declared.answer.Answer.{Answer}
use Rattle.cb_types.specs.declared.config.Config.{Config}
use Rattle.cb_types.specs.declared.job.Job.{Job}
use Rattle.cb_types.specs.declared.job.Job.TheVariants as job
use Rattle.cb_types.specs.declared.reply.Reply.{Reply}
use Rattle.cb_types.specs.declared.reply.Reply.TheVariants.{EpochAt, NoNodes, NoRoom, NoSpans, Unavailable, Worn}
use Rattle.cb_types.specs.Jobs.{job_index}
use Rattle.cb_world.specs.FarState.{FarState}
use Rattle.cb_workers.specs.Rules.{visit}
use Rattle.cb_workers.specs.declared.worker.Worker.{Worker}
use Rattle.cb_workers.specs.declared.worker.Worker.TheVariants as worker

-- the epoch that a crash or a join began
abbrev pub epoch_of : Reply → Option ℕ
epoch_of (EpochAt epoch) = Some epoch.n
epoch_of reply = None

abbrev pub epochs_of : List Answer → List ℕ
epochs_of answers = filter_map (λ a. epoch_of a.reply) answers

-- each epoch from 1 to the last began by one crash or join that was answered so, and no other did
abbrev pub AreEpochs : ℕ → List Answer → Type 0
AreEpochs last answers = IsPermutation (epochs_of answers) (range_with_len 1 last)

-- no two of the losses are of one node
abbrev pub AreOfOtherNodes : List Loss → Type 0
AreOfOtherNodes [] = Unit {0}
AreOfOtherNodes (loss ∷ later) =
    AllByRecursion (λ other. loss.node.n ≢ other.node.n) later × AreOfOtherNodes later

-- a set that can't be read has lost more shards than it has parities, no two of one node, and each
-- by one of these crashes
pub record AreTooMany (parities : ℕ) (losses lost : List Loss) : Type 0 where
  pub many : parities < length lost
  pub apart : AreOfOtherNodes lost
  pub among : AllByRecursion (Contains losses) lost

abbrev pub TellsLost : Config → List Loss → Reply → Type 0
TellsLost c losses (Unavailable set lost) = AreTooMany c.r losses lost
TellsLost c losses reply = Unit {0}

-- where there is no room, so many frames there are, and for a set too few spans are loose or too
-- few nodes have room; an eviction tells which of the two it was
abbrev pub TellsRoom : Config → Reply → Type 0
TellsRoom c (NoRoom frames loose nodes) =
    (frames ≡ c.frames) × ((loose < c.k) ⊎ (nodes < c.k + c.r))
TellsRoom c (NoSpans loose) = loose < c.k
TellsRoom c (NoNodes nodes) = nodes < c.k + c.r
TellsRoom c reply = Unit {0}

-- a line is answered Worn only where so many turns were counted: 2^40
abbrev pub TellsWorn : ℕ → Reply → Type 0
TellsWorn turns Worn = 2 ^ 40 ≤ turns
TellsWorn turns reply = Unit {0}

-- how many turns with a job of this kind were counted
abbrev pub counted_as : FarState → Job → ℕ
counted_as far j = slice_index far.counts.by_job (job_index j)

-- how many turns a worker made, by how many there are of each kind of its jobs
abbrev pub turns_by : Worker → (Job → ℕ) → ℕ
turns_by worker.Filter number = number (visit 0)
turns_by worker.Evict number =
    number job.Gather + number job.Install + number job.Ship + number job.Commit + number job.Abort
turns_by worker.Compact number =
    number job.Pair + number job.Patch + number job.Merge + number job.Part
turns_by worker.Rebuild number = number job.Rebuild

-- where fewer than 2^40 turns were counted, so many of each worker are among them, or more
abbrev pub CountsWorkers : ℕ → FarState → Type 0
CountsWorkers turns far =
    far.counts.turns < 2 ^ 40 → (w : Worker) → turns ≤ turns_by w (counted_as far)
