use Rattle.std.proofs.Common.{◌≡◌, get_or, arith, ◌∙◌}
use Rattle.std.proofs.lemmas.List.{length-set}
use Rattle.cb_gf256.proofs.PublicLaws.{below_more_set}
use Rattle.cb_erase.proofs.restoring.set_products.Goals as goal

pub loop-i-preserved : goal.loop-i-preserved
loop-i-preserved c =
    let i = c.loop-i.i in (
      length-set c.loop-i.products i c.of.result ∙ c.loop-i.invariant.0,
      below_more_set (λ m x. x ≡ get_or c.args.row.now m 0) c.loop-i.products i c.of.result 0 (omega arith) c.loop-i.invariant.1 c.of.ensures,
    )
