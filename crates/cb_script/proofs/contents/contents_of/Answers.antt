use Rattle.std.proofs.Common.{rules}
use Rattle.cb_script.proofs.HexText.{contents_spelled}
use Rattle.cb_script.proofs.contents.contents_of.Goals as goal

pub returns-in-Some : goal.returns-in-Some
returns-in-Some c =
    let spelled = rw c.in-Some.is at c.in_ok-bytes.ensures in
    contents_spelled c.args.text.now c.in-Some.bytes (search rules) (search rules) spelled.0 spelled.1
