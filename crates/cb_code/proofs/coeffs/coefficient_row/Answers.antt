use Rattle.std.proofs.Common.{length, get_or, arith, ◌∙◌}
use Rattle.std.proofs.lemmas.List.{length-set}
use Rattle.cb_gf256.specs.Lagrange.{IsLagrangeFactor}
use Rattle.cb_gf256.proofs.PublicLaws.{below_more_set}
use Rattle.cb_code.proofs.coeffs.coefficient_row.Goals as goal

pub loop-i-preserved : goal.loop-i-preserved
loop-i-preserved c =
    let lost = c.args.lost.now in
    let i = c.loop-i.i in (
      length-set c.loop-i.row i c.factor_by.result ∙ c.loop-i.invariant.0,
      below_more_set (λ m x. IsLagrangeFactor (length lost) (λ e. get_or lost e 0) c.args.j m x) c.loop-i.row i c.factor_by.result 0 (omega arith) c.loop-i.invariant.1 c.factor_by.ensures,
    )
