use Rattle.std.proofs.Common.{arith}
use Rattle.cb_gf256.specs.Sum.{sum_over}
use Rattle.cb_gf256.specs.Rows.{byte_at}
use Rattle.cb_gf256.proofs.Closings.{one_more, closed_corner}
use Rattle.cb_gf256.proofs.factors.are_closed.Goals as goal

pub loop-i-preserved : goal.loop-i-preserved
loop-i-preserved c =
    one_more c.loop-i.i (λ m. sum_over c.args.height (λ j. byte_at c.args.products.now j m)) c.sum_of_factors.result c.loop-i.invariant c.sum_of_factors.ensures (omega (arith, c.if-sum_of_factors-ne1.false))

pub returns : goal.returns
returns c t =
    closed_corner c.args.width c.args.height c.args.products.now c.requires (omega (arith, c.if-height-eq0.false))
    (λ i h. c.loop-i.invariant i (omega (arith, c.loop-i-test.false, c.loop-i.auto.i-end)))
