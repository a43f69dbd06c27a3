use Rattle.cb_script.specs.Spelling.{lines_of}
use Rattle.cb_map_text.proofs.Front.{header_refuses}
use Rattle.cb_map_text.proofs.read.text_of.Goals as goal

pub returns-in-Err : goal.returns-in-Err
returns-in-Err c =
    header_refuses c.args.bytes.now c.first_line.result.0.now (lines_of c.first_line.result.1.now) c.if-bytes-gt-LONGEST_TEXT.false
    c.first_line.ensures.lines c.in-Err.field-0 c.in-Err.ensures
