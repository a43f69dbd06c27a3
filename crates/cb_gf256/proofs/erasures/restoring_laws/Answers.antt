use Rattle.cb_gf256.proofs.PublicLaws.{lost_rows_are_sums, sums_make_a_word, sums_are_bytes}
use Rattle.cb_gf256.proofs.erasures.restoring_laws.Goals as goal

pub returns-clause-lost_rows_are_sums : goal.returns-clause-lost_rows_are_sums
returns-clause-lost_rows_are_sums c = lost_rows_are_sums

pub returns-clause-sums_make_a_word : goal.returns-clause-sums_make_a_word
returns-clause-sums_make_a_word c = sums_make_a_word

pub returns-clause-sums_are_bytes : goal.returns-clause-sums_are_bytes
returns-clause-sums_are_bytes c = sums_are_bytes
