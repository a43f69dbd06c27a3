use Rattle.std.proofs.Common.{arith}
use Rattle.cb_script.proofs.Decimals.{one_number}
use Rattle.cb_script.proofs.number.start_of.Goals as goal

pub returns-then-at-gt-LAST_START : goal.returns-then-at-gt-LAST_START
returns-then-at-gt-LAST_START c = λ at is.
    let same = one_number c.args.word.now at c.in_ok-at.at is.0 c.in_ok-at.ensures in
    omega (arith, same, is.1, c.if-at-gt-LAST_START.true)
