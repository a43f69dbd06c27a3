use Rattle.std.proofs.Common.{◌≡◌, ◌∙◌, length, arith}
use Rattle.cb_gf256.proofs.RowLemmas.{summed_front_more, summed_front_all}
use Rattle.cb_gf256.proofs.row.xor_row.Goals as goal

pub loop-i-preserved : goal.loop-i-preserved
loop-i-preserved c =
    summed_front_more c.args.dst.now c.args.src.now c.loop-i.dst c.loop-i.i (omega (arith, c.requires)) c.loop-i-test.true c.loop-i.invariant

pub returns : goal.returns
returns c =
    let done : c.loop-i.i ≡ length c.args.src.now = omega arith in
    c.loop-i.invariant ∙ summed_front_all c.args.dst.now c.args.src.now c.loop-i.i (omega arith) (omega arith)
