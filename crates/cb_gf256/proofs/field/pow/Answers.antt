use Rattle.std.proofs.Common.{ap, sym, ◌∙◌, ◌*◌, arith}
use Rattle.cb_gf256.specs.Power.{power}
use Rattle.cb_gf256.proofs.PowerLaws.{power-zero, zero-power, power-mul}
use Rattle.cb_gf256.proofs.TableLemmas.{power_two-mod}
use Rattle.cb_gf256.proofs.field.pow.Goals as goal

pub returns-then-n-eq0 : goal.returns-then-n-eq0
returns-then-n-eq0 c = sym (ap (power c.args.a) c.if-n-eq0.true ∙ power-zero c.args.a)

pub returns-then-a-eq0 : goal.returns-then-a-eq0
returns-then-a-eq0 c = sym (ap (λ x. power x c.args.n) c.if-a-eq0.true ∙ zero-power c.args.n (omega arith))

pub returns : goal.returns
returns c =
    c.power_of_two.ensures ∙ sym (power_two-mod (c.logarithm.result * c.args.n))
    ∙ power-mul 2 c.logarithm.result c.args.n (omega arith) ∙ ap (λ x. power x c.args.n) c.logarithm.ensures.power
