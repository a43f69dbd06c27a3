use Rattle.std.proofs.Common.{ap, rules}
use Rattle.std.proofs.lemmas.List.{nil_from_length}
use Rattle.std.proofs.lemmas.Result.{IfOk-weaker}
use Rattle.cb_script.specs.Spelling.{lines_of}
use Rattle.cb_scrub_text.specs.Reading.{IsReading, AreRowsRead}
use Rattle.cb_scrub_text.proofs.Fronts.{no_header, no_lines, reading_is}
use Rattle.cb_scrub_text.proofs.reading.reading_of.Goals as goal

pub returns-then-is_empty : goal.returns-then-is_empty
returns-then-is_empty c = no_lines c.args.bytes.now (ap lines_of (nil_from_length c.args.bytes.now (search rules))) c.if-bytes-gt-LONGEST_INPUT.false

pub returns-in-Some : goal.returns-in-Some
returns-in-Some c =
    let s = c.in-Some.sizes in
    IfOk-weaker c.rows_behind.result (AreRowsRead s.k s.r (lines_of c.first_line.result.1.now)) (IsReading c.args.bytes.now)
    (λ reading is. reading_is c.args.bytes.now c.first_line.result.0.now c.first_line.result.1.now s.k s.r c.in-Some.ensures.0 c.in-Some.ensures.1 c.first_line.ensures.lines c.if-bytes-gt-LONGEST_INPUT.false reading is)
    c.rows_behind.ensures

pub returns-in-None : goal.returns-in-None
returns-in-None c =
    no_header c.args.bytes.now c.first_line.result.0.now c.first_line.result.1.now c.first_line.ensures.lines c.if-bytes-gt-LONGEST_INPUT.false (λ k r sizes is. c.in-None.ensures (record { k = k; r = r }) (sizes, is))
