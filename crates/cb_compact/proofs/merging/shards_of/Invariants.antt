use Rattle.std.proofs.Common.{◌≡◌, ◌++◌, drop}
use Rattle.cb_compact.specs.MergeStep.{merged_shards}
use Rattle.cb_compact.proofs.merging.shards_of.Given as goal

-- the shards so far and those that are left are all
abbrev pub invariant-loop-p : goal.invariant-loop-p
invariant-loop-p l =
    l.shards.items ++ merged_shards (drop l.p l.steps) (drop l.p l.olds)
    ≡ merged_shards l.steps l.olds
