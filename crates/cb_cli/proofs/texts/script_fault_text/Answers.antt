use Rattle.std.proofs.Common.{sym, ap, ◌∙◌}
use Rattle.std.specs.Prelude.{decimal}
use Rattle.cb_cli.proofs.TextParts.{fault_parts}
use Rattle.cb_cli.proofs.texts.script_fault_text.Goals as goal

pub returns : goal.returns
returns c =
    let whole = c.from.ensures ∙ ap (λ v. v.items) c.into_bytes.ensures.value ∙ c.in_ok-text.ensures.ok in
    rw (← c.number-number.ensures, ← c.word-word.ensures) (whole ∙ sym (fault_parts (decimal c.args.line) (decimal c.number-number.result) c.word-word.result.now))
