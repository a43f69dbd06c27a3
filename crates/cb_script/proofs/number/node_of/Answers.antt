use Rattle.std.proofs.Common.{arith}
use Rattle.cb_script.proofs.Decimals.{one_number}
use Rattle.cb_script.proofs.number.node_of.Goals as goal

pub returns-then-n-from : goal.returns-then-n-from
returns-then-n-from c = λ node is.
    let same = one_number c.args.word.now node.n c.in_ok-n.n is.0 c.in_ok-n.ensures in
    omega (arith, same, is.1, c.if-n-from.true, c.from.ensures)
