use Rattle.std.proofs.Common.{ap, sym, ◌∙◌}
use Rattle.cb_gf256.specs.Product.{◌⊗◌}
use Rattle.cb_gf256.proofs.FieldLaws.{zero-product}
use Rattle.cb_gf256.proofs.field.mul.Goals as goal

pub returns-then-a-eq0 : goal.returns-then-a-eq0
returns-then-a-eq0 c = sym (ap (λ x. x ⊗ c.args.b) c.if-a-eq0.true ∙ zero-product c.args.b)

pub returns : goal.returns
returns c = c.power_of_two_times.ensures ∙ ap (λ x. x ⊗ c.args.b) c.logarithm.ensures.power
