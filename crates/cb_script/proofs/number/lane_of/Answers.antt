use Rattle.std.proofs.Common.{arith}
use Rattle.cb_script.proofs.Decimals.{one_number}
use Rattle.cb_script.proofs.number.lane_of.Goals as goal

pub returns-then-n-from : goal.returns-then-n-from
returns-then-n-from c = λ lane is.
    let same = one_number c.args.word.now lane.n c.in_ok-n.n is.0 c.in_ok-n.ensures in
    grind (arith, same, is.1, is.2, c.then-n-from.either, c.from.ensures)
