use Rattle.std.proofs.Common.{arith, get_or, ◌-◌}
use Rattle.cb_lanes.proofs.ScopesKept.{left_less}
use Rattle.cb_lanes.proofs.resting.take_line.Goals as goal

pub returns : goal.returns
returns c = record {
  left = λ later are. rw (c.from.ensures, c.from-2.ensures)
      (left_less later c.args.left.now c.args.lane (get_or c.args.left.now c.args.lane 0 - 1)
      c.requires.lane (let some = c.requires.some in omega (arith, some)) are);
}
