use Rattle.cb_gf256.proofs.PublicLaws.{same_from_zero_sum, one_with_product, zero_with_product, product_distributes_right, sum_is_byte, sum_commutes, sum_associates, sum_with_zero, sum_with_itself, product_is_byte, product_commutes, product_associates, product_with_one, product_with_zero, product_distributes, inverse_exists, product_is_nonzero, factor_cancels}
use Rattle.cb_gf256.proofs.laws.field_laws.Goals as goal

pub returns-clause-sum_is_byte : goal.returns-clause-sum_is_byte
returns-clause-sum_is_byte c = sum_is_byte

pub returns-clause-sum_commutes : goal.returns-clause-sum_commutes
returns-clause-sum_commutes c = sum_commutes

pub returns-clause-sum_associates : goal.returns-clause-sum_associates
returns-clause-sum_associates c = sum_associates

pub returns-clause-sum_with_zero : goal.returns-clause-sum_with_zero
returns-clause-sum_with_zero c = sum_with_zero

pub returns-clause-sum_with_itself : goal.returns-clause-sum_with_itself
returns-clause-sum_with_itself c = sum_with_itself

pub returns-clause-product_is_byte : goal.returns-clause-product_is_byte
returns-clause-product_is_byte c = product_is_byte

pub returns-clause-product_commutes : goal.returns-clause-product_commutes
returns-clause-product_commutes c = product_commutes

pub returns-clause-product_associates : goal.returns-clause-product_associates
returns-clause-product_associates c = product_associates

pub returns-clause-product_with_one : goal.returns-clause-product_with_one
returns-clause-product_with_one c = product_with_one

pub returns-clause-product_with_zero : goal.returns-clause-product_with_zero
returns-clause-product_with_zero c = product_with_zero

pub returns-clause-product_distributes : goal.returns-clause-product_distributes
returns-clause-product_distributes c = product_distributes

pub returns-clause-inverse_exists : goal.returns-clause-inverse_exists
returns-clause-inverse_exists c = inverse_exists

pub returns-clause-product_is_nonzero : goal.returns-clause-product_is_nonzero
returns-clause-product_is_nonzero c = product_is_nonzero

pub returns-clause-factor_cancels : goal.returns-clause-factor_cancels
returns-clause-factor_cancels c = factor_cancels

pub returns-clause-same_from_zero_sum : goal.returns-clause-same_from_zero_sum
returns-clause-same_from_zero_sum c = same_from_zero_sum

pub returns-clause-one_with_product : goal.returns-clause-one_with_product
returns-clause-one_with_product c = one_with_product

pub returns-clause-zero_with_product : goal.returns-clause-zero_with_product
returns-clause-zero_with_product c = zero_with_product

pub returns-clause-product_distributes_right : goal.returns-clause-product_distributes_right
returns-clause-product_distributes_right c = product_distributes_right
