use Rattle.std.proofs.Common.{ℕ, ◌∙◌, length, get_or, ap, arith}
use Rattle.cb_gf256.specs.Product.{◌⊗◌}
use Rattle.cb_gf256.specs.Power.{power}
use Rattle.cb_gf256.specs.Lagrange.{differences, points}
use Rattle.cb_gf256.proofs.PowerLaws.{power-lt}
use Rattle.cb_gf256.proofs.LagrangeLemmas.{differences-lt, quotient_times}
use Rattle.cb_gf256.proofs.lagrange.factor_by.Goals as goal

pub returns : goal.returns
returns c =
    let lost = c.args.lost.now in
    let point = points (λ m. get_or lost m 0) in
    let at = λ (x : ℕ). differences (length lost) point c.args.e x in
    let two = λ (n : ℕ). power-lt 2 n (omega arith) in
    let own = at (power 2 (get_or lost c.args.e 0)) in
    record {
      byte = c.mul.type_inv;
      quotient =
          ap (λ v. own ⊗ v) c.mul.ensures
          ∙ quotient_times own c.product_of_differences-here.result c.args.own_inverse
          (differences-lt (length lost) point c.args.e (power 2 (get_or lost c.args.e 0)) (two (get_or lost c.args.e 0)) (λ m _. two (get_or lost m 0)))
          c.product_of_differences-here.type_inv (omega arith) c.requires.inverse
          ∙ c.product_of_differences-here.ensures
          ∙ ap at (c.power_of_two.ensures ∙ ap (power 2) c.from.ensures);
    }
