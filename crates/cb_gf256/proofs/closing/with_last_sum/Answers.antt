use Rattle.std.proofs.Common.{◌∙◌, arith}
use Rattle.cb_gf256.proofs.Closings.{closed_more}
use Rattle.cb_gf256.proofs.closing.with_last_sum.Goals as goal

pub loop-j-preserved : goal.loop-j-preserved
loop-j-preserved g c =
    let more = closed_more c.loop-j.j g.row.M c.args.plain c.args.sums c.loop-j.all c.add_blocks.result (omega arith) (omega (arith, c.loop-j.invariant.0, c.requires.last)) c.loop-j.invariant.1 c.loop-j.invariant.2 c.add_blocks.ensures in
    (more.0 ∙ c.loop-j.invariant.0, more.1, more.2)
