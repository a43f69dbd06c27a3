use Rattle.std.proofs.Common.{length, get_or, arith, ◌∙◌}
use Rattle.std.proofs.lemmas.List.{length-set}
use Rattle.cb_gf256.specs.Lagrange.{IsLagrangeFactor}
use Rattle.cb_erase.proofs.Writes.{placed_more}
use Rattle.cb_erase.proofs.weighing.factor_row.Goals as goal

pub loop-i-preserved : goal.loop-i-preserved
loop-i-preserved c =
    let lost = c.args.lost.now in
    let present = c.args.present.now in
    let i = c.loop-i.i in (
      length-set c.loop-i.row i c.factor_by.result ∙ c.loop-i.invariant.0,
      placed_more (λ m x. IsLagrangeFactor (length lost) (λ y. get_or lost y 0) c.args.e (get_or present m 0) x) (λ m. m) c.loop-i.row i c.factor_by.result 0
          (omega (arith, c.loop-i.invariant.0, c.requires.few)) (λ m k s. omega arith) c.loop-i.invariant.1 c.factor_by.ensures,
    )
