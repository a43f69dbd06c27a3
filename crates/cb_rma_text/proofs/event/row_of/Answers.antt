use Rattle.std.proofs.lemmas.Bool.{both_ways}
use Rattle.cb_rma_text.proofs.Rows.{row_length, row_read}
use Rattle.cb_rma_text.proofs.event.row_of.Goals as goal

pub returns-then-not-has_row_length : goal.returns-then-not-has_row_length
returns-then-not-has_row_length c = λ row is.
    both_ways c.has_row_length.result c.if-not-has_row_length.true
    (c.has_row_length.ensures.1 (row_length c.args.text.now row is))

pub returns : goal.returns
returns c =
    row_read c.args.text.now c.spelled_bytes.result (c.has_row_length.ensures.0 c.if-not-has_row_length.false)
    c.spelled_bytes.ensures
