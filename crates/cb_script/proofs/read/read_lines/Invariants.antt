use Rattle.std.proofs.Common.{◌≡◌, ◌+◌, length}
use Rattle.cb_script.specs.Reading.{HasNames, IsLeastLane}
use Rattle.cb_script.proofs.Front.{FrontIsRead}
use Rattle.cb_script.proofs.read.read_lines.Given as goal

-- the lines that were read are those of the text but for the rest, and what is kept is theirs
abbrev pub invariant-loop-rest : goal.invariant-loop-rest
invariant-loop-rest l = record {
  front : FrontIsRead l.limits.mode l.limits.nodes l.text l.lines l.rest;
  names : HasNames l.names l.lines;
  lane : IsLeastLane l.lines l.least_lane;
  number : l.number ≡ length l.lines + 2;
}

abbrev pub decreases-loop-rest : goal.decreases-loop-rest
decreases-loop-rest l = length l.rest
