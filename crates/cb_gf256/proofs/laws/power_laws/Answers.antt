use Rattle.cb_gf256.proofs.PublicLaws.{power_of_one, power_of_zero, power_is_byte, power_of_none, power_of_one_more, power_at_sum, power_at_product, power_of_product, power_of_nonzero}
use Rattle.cb_gf256.proofs.laws.power_laws.Goals as goal

pub returns-clause-power_is_byte : goal.returns-clause-power_is_byte
returns-clause-power_is_byte c = power_is_byte

pub returns-clause-power_of_none : goal.returns-clause-power_of_none
returns-clause-power_of_none c = power_of_none

pub returns-clause-power_of_one_more : goal.returns-clause-power_of_one_more
returns-clause-power_of_one_more c = power_of_one_more

pub returns-clause-power_at_sum : goal.returns-clause-power_at_sum
returns-clause-power_at_sum c = power_at_sum

pub returns-clause-power_at_product : goal.returns-clause-power_at_product
returns-clause-power_at_product c = power_at_product

pub returns-clause-power_of_product : goal.returns-clause-power_of_product
returns-clause-power_of_product c = power_of_product

pub returns-clause-power_of_nonzero : goal.returns-clause-power_of_nonzero
returns-clause-power_of_nonzero c = power_of_nonzero

pub returns-clause-power_of_one : goal.returns-clause-power_of_one
returns-clause-power_of_one c = power_of_one

pub returns-clause-power_of_zero : goal.returns-clause-power_of_zero
returns-clause-power_of_zero c = power_of_zero
