use Rattle.std.proofs.Common.{◌≡◌, ◌≤◌, take}
use Rattle.std.specs.Prelude.{nat_eq}
use Rattle.std.specs.Set.{distinct_count}
use Rattle.cb_cli.specs.Lanes.{lanes_of}
use Rattle.cb_cli.proofs.LaneCounts.{FlagsOfNumbers}
use Rattle.cb_cli.proofs.lanes.different_lanes.Given as goal

-- the flags tell which lanes the lines so far have, and the count is how many
abbrev pub invariant-loop-line : goal.invariant-loop-line
invariant-loop-line l =
    let lanes = lanes_of (take l.line-index l.lines) in
    record {
      flags : FlagsOfNumbers l.seen lanes;
      counted : l.count ≡ distinct_count nat_eq lanes;
      few : l.count ≤ l.line-index;
    }
