use Rattle.std.proofs.Common.{◌≡◌, take, drop, map}
use Rattle.cb_script.specs.Roomy.{IsAtEase}
use Rattle.cb_lanes.specs.Asked.{asked}
use Rattle.cb_lanes.specs.LinesLeft.{AreLeft, lanes_of}
use Rattle.cb_lanes.specs.Lost.{losses_of}
use Rattle.cb_lanes.proofs.Along.{Along}
use Rattle.cb_lanes.proofs.Eases.{Eases}
use Rattle.cb_lanes.proofs.seq.run_lines.Given as goal

-- the lines so far were answered, the plain map is beside the world that they led to, and the lines
-- that are left are counted
abbrev pub invariant-loop-line : goal.invariant-loop-line
invariant-loop-line l =
    record {
      along : Along l.side l.s.config (lanes_of (drop l.line-index l.s.lines)) l.answers l.world
          l.names;
      lines : map asked l.answers ≡ take l.line-index l.s.lines;
      losses : l.losses.items ≡ losses_of l.answers;
      left : AreLeft (lanes_of (drop l.line-index l.s.lines)) l.left;
      ease : IsAtEase l.s → Eases l.s l.answers l.world;
    }
