use Rattle.std.proofs.Common.{[], length, ap, ◌∙◌, arith}
use Rattle.cb_gf256.proofs.PublicLaws.{written_count, written_row}
use Rattle.cb_scrub_text.proofs.RowTexts.{digits_alone, encoded_length, other_length, row_is_read}
use Rattle.cb_scrub_text.proofs.filling.read_row.Goals as goal

pub returns-then-text-len-clause-read : goal.returns-then-text-len-clause-read
returns-then-text-len-clause-read c = λ len lengths row is.
    other_length len c.row_len-len.result c.args.rows.now c.args.i c.args.text.now row c.requires lengths c.row_len-len.ensures.length (λ same. c.if-text-len.true same) is

pub copy_from_slice-requires : goal.copy_from_slice-requires
copy_from_slice-requires c =
    let spelled = rw c.in-Some.is at c.in_ok-bytes.ensures in
    omega (arith, ap length c.row_mut.ensures.value, c.row_len-len.ensures.length c.args.i [] c.requires, ap length c.as_slice.ensures.items, ap length spelled.1, encoded_length c.in-Some.bytes, c.if-text-len.false)

pub returns-in-Some-clause-count : goal.returns-in-Some-clause-count
returns-in-Some-clause-count c = written_count c.args.rows.now c.args.i c.copy_from_slice.new.self

pub returns-in-Some-clause-read : goal.returns-in-Some-clause-read
returns-in-Some-clause-read c = λ len lengths.
    let spelled = rw c.in-Some.is at c.in_ok-bytes.ensures in
    row_is_read len c.row_len-len.result c.args.rows.now _ c.args.i c.args.text.now c.copy_from_slice.new.self c.in-Some.bytes c.requires lengths c.row_len-len.ensures.length
    (omega (arith, c.if-text-len.false)) (c.copy_from_slice.ensures.after ∙ c.as_slice.ensures.items) spelled.0 spelled.1 (λ sized. written_row c.args.rows.now c.args.i c.copy_from_slice.new.self sized c.requires)

pub returns-in-None-clause-read : goal.returns-in-None-clause-read
returns-in-None-clause-read c = λ len lengths row is. digits_alone len c.args.text.now row is (rw c.in-None.is at c.in_ok-bytes.ensures)
