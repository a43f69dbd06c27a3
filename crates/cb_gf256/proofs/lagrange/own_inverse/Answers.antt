use Rattle.std.proofs.Common.{ℕ, ◌<◌, ◌∙◌, length, get_or, sym, ap, subst}
use Rattle.cb_gf256.specs.Product.{◌⊗◌}
use Rattle.cb_gf256.specs.Power.{power}
use Rattle.cb_gf256.specs.Lagrange.{differences, points}
use Rattle.cb_gf256.proofs.LagrangeLemmas.{own_differences}
use Rattle.cb_gf256.proofs.lagrange.own_inverse.Goals as goal

pub inv-requires : goal.inv-requires
inv-requires c =
    let lost = c.args.lost.now in
    let own = λ (x : ℕ). differences (length lost) (points (λ m. get_or lost m 0)) c.args.e x in
    subst (λ v. 0 < v) (sym (c.product_of_differences.ensures ∙ ap own (c.power_of_two.ensures ∙ ap (power 2) c.from.ensures)))
    (own_differences lost c.args.e c.requires.ascending c.requires.below c.requires.within)

pub returns : goal.returns
returns c =
    let lost = c.args.lost.now in
    let own = λ (x : ℕ). differences (length lost) (points (λ m. get_or lost m 0)) c.args.e x in
    ap (λ v. v ⊗ c.inv.result) (sym (c.product_of_differences.ensures ∙ ap own (c.power_of_two.ensures ∙ ap (power 2) c.from.ensures))) ∙ c.inv.ensures
