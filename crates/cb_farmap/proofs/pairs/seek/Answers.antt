use Rattle.std.proofs.Common.{sym, ◌∙◌, arith}
use Rattle.cb_farmap.proofs.Seeking.{found_first, found_none}
use Rattle.cb_farmap.proofs.pairs.seek.Goals as goal

pub returns-then-number_of-key : goal.returns-then-number_of-key
returns-then-number_of-key c = found_first c.args.bytes.now c.args.few c.requires.few c.loop-i.i c.args.key
    c.loop-i-test.true (sym c.number_of.ensures ∙ c.if-number_of-key.true) c.loop-i.invariant

pub returns : goal.returns
returns c = found_none c.args.bytes.now c.args.few c.requires.few c.args.key
    (λ j less. c.loop-i.invariant j (let e = c.loop-i-test.false in omega (arith, less, e)))
