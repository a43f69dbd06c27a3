use Rattle.std.proofs.Common.{◌≡◌, drop}
use Rattle.cb_world.specs.Stored.{AreThere, all_dropped}
use Rattle.cb_compact.specs.MergeStep.{replaced_shards}
use Rattle.cb_compact.proofs.merging.drop_replaced.Given as goal

-- what is left to drop drops all
abbrev pub invariant-loop-p : goal.invariant-loop-p
invariant-loop-p l =
    (all_dropped l.nodes (replaced_shards (drop l.p l.steps) (drop l.p l.olds))
    ≡ all_dropped l.initial.nodes (replaced_shards l.steps l.olds))
    × AreThere l.nodes l.olds
