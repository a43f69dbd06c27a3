use Rattle.std.proofs.Common.{◌∙◌, get_or, sym, ap, ap₂, arith}
use Rattle.cb_gf256.specs.Sum.{◌⊕◌}
use Rattle.cb_gf256.specs.Product.{◌⊗◌}
use Rattle.cb_gf256.specs.Power.{power}
use Rattle.cb_gf256.specs.Lagrange.{points}
use Rattle.cb_gf256.proofs.PowerLaws.{power-lt}
use Rattle.cb_gf256.proofs.LagrangeLemmas.{differences-more_other, differences-more_own}
use Rattle.cb_gf256.proofs.lagrange.product_of_differences.Goals as goal
use Rattle.cb_gf256.proofs.lagrange.product_of_differences.Goals.{then-m-e, else-m-e}

pub loop-m-preserved : goal.loop-m-preserved
loop-m-preserved c =
    let lost = c.args.lost.now in
    let point = points (λ m. get_or lost m 0) in
    elim c.if-m-e.branch [
      | then-m-e w ↦
          w.product-is
          ∙ w.mul-product.ensures
          ∙ ap₂ ◌⊗◌ c.loop-m.invariant (w.add.ensures ∙ ap (λ v. c.args.x ⊕ v) (w.power_of_two.ensures ∙ ap (power 2) w.from.ensures))
          ∙ sym (differences-more_other c.loop-m.m point c.args.e c.args.x w.if-m-e.true)
      | else-m-e w ↦
          w.product-is
          ∙ c.loop-m.invariant
          ∙ sym (differences-more_own c.loop-m.m point c.args.e c.args.x w.if-m-e.false (omega arith) (λ m _. power-lt 2 (get_or lost m 0) (omega arith)))
    ]
