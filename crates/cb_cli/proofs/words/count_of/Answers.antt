use Rattle.std.proofs.Common.{◌<◌, arith}
use Rattle.std.proofs.lemmas.Bool.Decides.{nat_tests}
use Rattle.cb_cli.proofs.GivenWords.{same_count}
use Rattle.cb_cli.proofs.words.count_of.Goals as goal

pub returns-then-count-lt1 : goal.returns-then-count-lt1
returns-then-count-lt1 c = λ x is.
    let low : c.in_ok-count.count < 1 = grind (arith, nat_tests, c.if-count-lt1.true) in
    omega (arith, low, is.1, same_count c.args.text.now c.as_bytes.result.now c.in_ok-count.count c.args.most x c.as_bytes.ensures.value c.in_ok-count.ensures is)

pub returns-then-count-most : goal.returns-then-count-most
returns-then-count-most c = λ x is.
    let high : c.args.most < c.in_ok-count.count = grind (arith, nat_tests, c.if-count-most.true) in
    omega (arith, high, is.2, same_count c.args.text.now c.as_bytes.result.now c.in_ok-count.count c.args.most x c.as_bytes.ensures.value c.in_ok-count.ensures is)
