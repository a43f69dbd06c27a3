use Rattle.cb_code.proofs.Horner.{powers_listed}
use Rattle.cb_code.proofs.syndromes.powers_of_two.Goals as goal

pub returns-clause-powers : goal.returns-clause-powers
returns-clause-powers c = powers_listed c.of.result c.of-2.result c.of-3.result c.of-4.result c.of.ensures c.of-2.ensures c.of-3.ensures c.of-4.ensures
