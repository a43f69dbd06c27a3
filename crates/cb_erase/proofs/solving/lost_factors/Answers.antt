use Rattle.std.proofs.Common.{◌≡◌, [], length, get_or, subst, ◌∙◌, arith}
use Rattle.std.proofs.lemmas.List.{length-set}
use Rattle.std.proofs.lemmas.List.Elements.{All-set}
use Rattle.cb_gf256.specs.Rows.{byte_at}
use Rattle.cb_gf256.specs.Lagrange.{IsLagrangeFactor}
use Rattle.cb_gf256.proofs.PublicLaws.{below_more_set}
use Rattle.cb_erase.proofs.Tables.{HasFactors}
use Rattle.cb_erase.proofs.solving.lost_factors.Goals as goal

pub loop-e-preserved : goal.loop-e-preserved
loop-e-preserved c =
    let e = c.loop-e.e in
    let row = c.factor_row.result in (
      length-set c.loop-e.table e row ∙ c.loop-e.invariant.0,
      All-set (λ x. length x ≡ 16) c.loop-e.table e row c.factor_row.ensures.size c.loop-e.invariant.1,
      below_more_set (HasFactors c.args.present.now c.args.lost.now) c.loop-e.table e row [] (omega (arith, c.requires.in_range.parities_most, c.requires.lost)) c.loop-e.invariant.2 c.factor_row.ensures.factors,
    )

pub returns-clause-factors : goal.returns-clause-factors
returns-clause-factors c = record {
  factor = λ e i l m.
      subst (λ n. IsLagrangeFactor n (λ x. get_or c.args.lost.now x 0) e (get_or c.args.present.now i 0) (byte_at c.loop-e.table e i)) c.requires.lost
      (c.loop-e.invariant.2 e (omega (arith, c.requires.lost)) i (omega (arith, c.requires.present)));
}
