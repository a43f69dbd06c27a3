-- The laws that other crates cite: each has the name of the clause of a law function that states it.
pub use Rattle.cb_gf256.proofs.FieldLaws.{sum-lt as sum_is_byte, product-lt as product_is_byte, product_comm as product_commutes, product_assoc as product_associates, product-one as product_with_one, product-zero as product_with_zero, zero-product as zero_with_product, same_from_zero_sum}
pub use lib.Bits.{xor_comm as sum_commutes, xor_assoc as sum_associates, xor_zero_r as sum_with_zero, xor_self as sum_with_itself}
pub use Rattle.cb_gf256.proofs.Linear.{product-right as product_distributes, product-left as product_distributes_right, sum_over-same as sum_over_same, sum_over-sum as sum_over_sums}
pub use Rattle.cb_gf256.proofs.TableLemmas.{power_two-mod as powers_of_two_repeat, inverse as inverse_exists, product_nonzero as product_is_nonzero, product_cancel as factor_cancels, powers_differ as powers_of_two_differ, generated as powers_of_two_generate, power_two_255 as powers_of_two_return, power_nonzero as power_of_nonzero}
pub use Rattle.cb_gf256.proofs.PowerLaws.{one-product as one_with_product, one-power as power_of_one, zero-power as power_of_zero, power-lt as power_is_byte, power-zero as power_of_none, power-add-one as power_of_one_more, power-add as power_at_sum, power-mul as power_at_product, power-product as power_of_product}
pub use Rattle.cb_gf256.proofs.SumLaws.{sum_over-product as sum_over_with_product, sum_over-one_term as sum_over_one_term, sum_over-lt as sum_over_is_byte, sum_over-zero as sum_over_zeros, sum_over-add as sum_over_splits, product-sum_over as product_with_sum_over, sum_over-swap as sum_over_swaps}
pub use Rattle.cb_gf256.proofs.RowLemmas.{length-row_sum as row_sum_length, get_or-row_sum as row_sum_by_byte, row_sum_comm as row_sum_commutes, row_sum_assoc as row_sum_associates, row_sum_zero as row_sum_with_zeros, row_sum_twice as row_added_twice_is_gone, length-scaled_row as scaled_row_length, get_or-scaled_row as scaled_row_by_byte, scaled_row-row_sum as scaled_row_of_sum}
pub use Rattle.cb_gf256.proofs.OrderLemmas.{fold-IsPermutation as rows_sum_in_any_order}
pub use Rattle.cb_gf256.proofs.BlockLemmas.{length-cut_rows as cut_count, length-with_row as written_count, with_row-set as written_row, HaveLength-with_row as written_lengths}
pub use Rattle.cb_gf256.proofs.Polynomials.{roots_make_zero}
pub use Rattle.cb_gf256.proofs.Words.{words_agree_on as agreeing_words_are_equal, words_agree as words_that_agree, word_restored as lost_rows_are_sums, word_made as sums_make_a_word, HoldBytes-combinations as sums_are_bytes}
pub use Rattle.cb_gf256.proofs.Splitting.{split_none as split_of_none, split_with_present, split_with_lost, split_same as split_of_same, splits_parities as parities_split, position_at_most as position_is_at_most}
pub use Rattle.cb_gf256.proofs.CornerLemmas.{length-corner as corner_count, row_at-corner as corner_row, row_of_corner as corner_width, byte_at-corner as corner_byte, HaveLength-corner as corner_lengths, HoldBytes-corner as corner_bytes, at_default}
pub use Rattle.cb_gf256.proofs.LagrangeLemmas.{ascending_apart}
pub use Rattle.cb_gf256.proofs.Writes.{below_more_set}
pub use Rattle.cb_gf256.proofs.Summing.{row_at-rows_at as row_at_positions, all_rows}
pub use Rattle.cb_gf256.proofs.Units.{unit_rows, column_rows, length-unit_rows as unit_rows_count, AreRows-unit_rows as unit_rows_are_rows, unit_combinations, HoldBytes-column_rows as column_rows_are_bytes, same_columns}
pub use Rattle.cb_gf256.proofs.LagrangeLemmas.{basis_of, interpolates}
pub use Rattle.cb_gf256.proofs.Placing.{block_placed, kept_lengths, placed_none, placed_same, restored_before, restored_combinations, restored_kept, restored_none, source_rows}
pub use Rattle.cb_gf256.proofs.Words.{HoldBytes-from_byte_at, same_rows}
pub use Rattle.cb_gf256.proofs.WorkedPlacing.{lost, present, splits}

-- what a caller of `row_mut` lists to read the rows that it has written
pub ruleset written_rows = (written_count, written_row)
