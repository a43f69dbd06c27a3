use Rattle.std.proofs.Common.{List, ℕ, sym, subst}
use Rattle.std.proofs.lemmas.Result.{IfOk-weaker}
use Rattle.cb_cli.specs.declared.verdict.Verdict.TheVariants.{Done}
use Rattle.cb_cli.specs.declared.words.Command.TheVariants.{Map}
use Rattle.cb_app.specs.Modes.{IsVerdict}
use Rattle.cb_app.proofs.Mapped.{map_done, map_refused}
use Rattle.cb_app.proofs.mapping.map_bytes.Goals as goal

pub returns-in_ok-said-in-Ok-clause-verdict : goal.returns-in_ok-said-in-Ok-clause-verdict
returns-in_ok-said-in-Ok-clause-verdict g c =
    let text = c.in-Ok.text in
    let new = c.answer_commands.new.end in
    subst (λ (t : List ℕ). IsVerdict Map c.args.bytes.now c.args.end.now new (Done t))
    (sym c.one.ensures.text)
    (map_done c.args.bytes.now text.config text.commands c.in-Ok.ensures.found c.args.end.now new
    c.in_ok-said-in-Ok.said c.in_ok-said-in-Ok.ensures.told)

pub returns-in-Err-clause-verdict : goal.returns-in-Err-clause-verdict
returns-in-Err-clause-verdict g c =
    let bytes = c.args.bytes.now in
    let end = c.args.end.now in
    IfOk-weaker c.map_refusal.result _ (IsVerdict Map bytes end end)
    (map_refused bytes end c.in-Err.fault c.in-Err.ensures.bad) c.map_refusal.ensures.told
