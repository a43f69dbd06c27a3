use Rattle.std.proofs.Common.{ap, ◌∙◌}
use Rattle.cb_gf256.specs.Product.{◌⊗◌}
use Rattle.cb_gf256.proofs.TableLemmas.{inverse_from_power}
use Rattle.cb_gf256.proofs.field.inv.Goals as goal

pub returns : goal.returns
returns c =
    ap (λ x. c.args.a ⊗ x) c.power_of_two.ensures
    ∙ inverse_from_power c.args.a c.logarithm.result c.logarithm.ensures.least c.logarithm.ensures.power
