use Rattle.std.proofs.Common.{arith}
use Rattle.cb_script.specs.Spelling.{words_of}
use Rattle.cb_script.proofs.Cuts.{too_many}
use Rattle.cb_script.proofs.cut.words_into.Goals as goal

pub returns-clause-cut : goal.returns-clause-cut
returns-clause-cut c =
    let same = c.loop-i.auto.words in
    omega (arith, same, too_many (words_of c.args.text.now) c.loop-i.words c.loop-i.i c.loop-i.rest.now (omega (arith, same, c.loop-i-test.false)) c.loop-i.invariant)
