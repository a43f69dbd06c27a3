use Rattle.cb_gf256.proofs.PublicLaws.{row_sum_length, row_sum_by_byte, row_sum_commutes, row_sum_associates, row_sum_with_zeros, row_added_twice_is_gone, rows_sum_in_any_order, scaled_row_length, scaled_row_by_byte, scaled_row_of_sum, written_count, written_row, written_lengths}
use Rattle.cb_gf256.proofs.laws.row_laws.Goals as goal

pub returns-clause-row_sum_length : goal.returns-clause-row_sum_length
returns-clause-row_sum_length c = row_sum_length

pub returns-clause-row_sum_by_byte : goal.returns-clause-row_sum_by_byte
returns-clause-row_sum_by_byte c = row_sum_by_byte

pub returns-clause-row_sum_commutes : goal.returns-clause-row_sum_commutes
returns-clause-row_sum_commutes c = row_sum_commutes

pub returns-clause-row_sum_associates : goal.returns-clause-row_sum_associates
returns-clause-row_sum_associates c = row_sum_associates

pub returns-clause-row_sum_with_zeros : goal.returns-clause-row_sum_with_zeros
returns-clause-row_sum_with_zeros c = row_sum_with_zeros

pub returns-clause-row_added_twice_is_gone : goal.returns-clause-row_added_twice_is_gone
returns-clause-row_added_twice_is_gone c = row_added_twice_is_gone

pub returns-clause-rows_sum_in_any_order : goal.returns-clause-rows_sum_in_any_order
returns-clause-rows_sum_in_any_order c = rows_sum_in_any_order

pub returns-clause-scaled_row_length : goal.returns-clause-scaled_row_length
returns-clause-scaled_row_length c = scaled_row_length

pub returns-clause-scaled_row_by_byte : goal.returns-clause-scaled_row_by_byte
returns-clause-scaled_row_by_byte c = scaled_row_by_byte

pub returns-clause-scaled_row_of_sum : goal.returns-clause-scaled_row_of_sum
returns-clause-scaled_row_of_sum c = scaled_row_of_sum

pub returns-clause-written_count : goal.returns-clause-written_count
returns-clause-written_count c = written_count

pub returns-clause-written_row : goal.returns-clause-written_row
returns-clause-written_row c = written_row

pub returns-clause-written_lengths : goal.returns-clause-written_lengths
returns-clause-written_lengths c = written_lengths
