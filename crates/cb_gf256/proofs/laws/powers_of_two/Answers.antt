use Rattle.cb_gf256.proofs.PublicLaws.{powers_of_two_repeat, powers_of_two_differ, powers_of_two_generate, powers_of_two_return}
use Rattle.cb_gf256.proofs.laws.powers_of_two.Goals as goal

pub returns-clause-powers_of_two_differ : goal.returns-clause-powers_of_two_differ
returns-clause-powers_of_two_differ c = powers_of_two_differ

pub returns-clause-powers_of_two_generate : goal.returns-clause-powers_of_two_generate
returns-clause-powers_of_two_generate c = powers_of_two_generate

pub returns-clause-powers_of_two_return : goal.returns-clause-powers_of_two_return
returns-clause-powers_of_two_return c = powers_of_two_return

pub returns-clause-powers_of_two_repeat : goal.returns-clause-powers_of_two_repeat
returns-clause-powers_of_two_repeat c = powers_of_two_repeat
