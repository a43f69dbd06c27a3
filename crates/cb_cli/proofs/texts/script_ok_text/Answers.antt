use Rattle.std.proofs.Common.{length, sym, ap, ◌∙◌}
use Rattle.std.specs.Prelude.{decimal}
use Rattle.cb_cli.proofs.TextParts.{check_parts}
use Rattle.cb_cli.proofs.texts.script_ok_text.Goals as goal

pub returns : goal.returns
returns c =
    let whole = c.from.ensures ∙ ap (λ v. v.items) c.into_bytes.ensures.value ∙ c.in_ok-text.ensures.ok in
    let lanes = decimal c.different_lanes-lanes.result in
    let lines = decimal (length c.args.script.now.lines) in
    rw (← c.as_slice-lines.ensures.items, ← c.different_lanes-lanes.ensures) (whole ∙ sym (check_parts (decimal (length c.as_slice-lines.result.now)) lanes))
