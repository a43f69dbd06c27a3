use Rattle.cb_gf256.proofs.PublicLaws.{sum_over_with_product, sum_over_one_term, sum_over_is_byte, sum_over_same, sum_over_zeros, sum_over_sums, sum_over_splits, product_with_sum_over, sum_over_swaps}
use Rattle.cb_gf256.proofs.laws.sum_laws.Goals as goal

pub returns-clause-sum_over_is_byte : goal.returns-clause-sum_over_is_byte
returns-clause-sum_over_is_byte c = sum_over_is_byte

pub returns-clause-sum_over_same : goal.returns-clause-sum_over_same
returns-clause-sum_over_same c = sum_over_same

pub returns-clause-sum_over_zeros : goal.returns-clause-sum_over_zeros
returns-clause-sum_over_zeros c = sum_over_zeros

pub returns-clause-sum_over_sums : goal.returns-clause-sum_over_sums
returns-clause-sum_over_sums c = sum_over_sums

pub returns-clause-sum_over_splits : goal.returns-clause-sum_over_splits
returns-clause-sum_over_splits c = sum_over_splits

pub returns-clause-product_with_sum_over : goal.returns-clause-product_with_sum_over
returns-clause-product_with_sum_over c = product_with_sum_over

pub returns-clause-sum_over_swaps : goal.returns-clause-sum_over_swaps
returns-clause-sum_over_swaps c = sum_over_swaps

pub returns-clause-sum_over_with_product : goal.returns-clause-sum_over_with_product
returns-clause-sum_over_with_product c = sum_over_with_product

pub returns-clause-sum_over_one_term : goal.returns-clause-sum_over_one_term
returns-clause-sum_over_one_term c = sum_over_one_term
