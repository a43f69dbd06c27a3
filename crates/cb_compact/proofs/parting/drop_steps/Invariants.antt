use Rattle.std.proofs.Common.{◌≡◌, drop}
use Rattle.cb_world.specs.Reserved.{put_shards}
use Rattle.cb_world.specs.Stored.{AreThere, all_dropped}
use Rattle.cb_compact.proofs.parting.drop_steps.Given as goal

-- what is left to drop drops all
abbrev pub invariant-loop-step : goal.invariant-loop-step
invariant-loop-step l =
    (all_dropped l.nodes (put_shards (drop l.step-index l.steps))
    ≡ all_dropped l.initial.nodes (put_shards l.steps))
    × AreThere l.nodes (put_shards l.steps)
