use Rattle.std.proofs.Common.{◌/◌, length, refl, arith}
use Rattle.cb_script.specs.Spelling.{lines_of}
use Rattle.cb_scrub_text.specs.Reading.BadRows.{NoRow, Stops}
use Rattle.cb_scrub_text.specs.Form.{IsAsked}
use Rattle.cb_scrub_text.proofs.Fronts.{filled_is}
use Rattle.cb_scrub_text.proofs.RowTexts.{no_short_row, no_long_row, text_length}
use Rattle.cb_scrub_text.proofs.reading.rows_behind.Goals as goal

pub returns-then-len-lt1 : goal.returns-then-len-lt1
returns-then-len-lt1 c = NoRow c.first_line.result.0.now (lines_of c.first_line.result.1.now) c.first_line.ensures.lines (no_short_row c.first_line.result.0.now (omega (arith, c.if-len-lt1.true))) refl

pub returns-then-len-gt-LONGEST_ROW : goal.returns-then-len-gt-LONGEST_ROW
returns-then-len-gt-LONGEST_ROW c =
    NoRow c.first_line.result.0.now (lines_of c.first_line.result.1.now) c.first_line.ensures.lines (no_long_row c.first_line.result.0.now (omega (arith, c.if-len-gt-LONGEST_ROW.true))) refl

pub overflow_add-result : goal.overflow_add-result
overflow_add-result c =
    let s = c.args.sizes in
    let stops = rw c.in-Some.is at (filled_is s.k s.r _ c.in-Ok.rows c.fill_rows.new.rows (lines_of c.args.text.now) c.in_ok-row.field-0 c.in-Ok.ensures c.in_ok-row.ensures) in
    omega (arith, stops.few, c.requires.few_data, c.requires.few_parities)

pub returns-in-Some : goal.returns-in-Some
returns-in-Some c =
    let s = c.args.sizes in
    let first = c.first_line.result.0.now in
    let stops = rw c.in-Some.is at (filled_is s.k s.r _ c.in-Ok.rows c.fill_rows.new.rows (lines_of c.args.text.now) c.in_ok-row.field-0 c.in-Ok.ensures c.in_ok-row.ensures) in
    Stops (length first / 2) first (lines_of c.first_line.result.1.now) c.first_line.ensures.lines c.if-len-lt1.false c.if-len-gt-LONGEST_ROW.false (λ n row is. omega (arith, text_length n first row is)) c.in-Some.row stops refl

pub returns-in-None : goal.returns-in-None
returns-in-None c =
    let s = c.args.sizes in
    let rows = rw c.in-None.is at (filled_is s.k s.r _ c.in-Ok.rows c.fill_rows.new.rows (lines_of c.args.text.now) c.in_ok-row.field-0 c.in-Ok.ensures c.in_ok-row.ensures) in
    let form : IsAsked (record { k = s.k; r = s.r; rows = c.fill_rows.new.rows }) =
    record { sizes = c.requires; count = rows.counted; len = length c.first_line.result.0.now / 2; some = c.if-len-lt1.false; most = c.if-len-gt-LONGEST_ROW.false; lengths = rows.lengths; bytes = rows.bytes } in
    (refl, refl, form, rows.are)
