use Rattle.std.proofs.Common.{◌≡◌, length, rules}
use Rattle.cb_text.proofs.Fronts.{cut}
use Rattle.cb_text.proofs.line.push_line.Goals as goal

pub returns-then-is_err-clause-error : goal.returns-then-is_err-clause-error
returns-then-is_err-clause-error c =
    let old = c.args.text.now.items in
    let before : c.len-before.result ≡ length old = search rules in
    let parts = c.push_parts-pushed in
    cut parts.result old parts.new.text.items c.truncate.new.self.items c.len-before.result
    parts.ensures.kept before c.truncate.ensures.items
