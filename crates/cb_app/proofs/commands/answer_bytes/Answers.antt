use Rattle.std.proofs.Common.{List, ℕ, sym, subst}
use Rattle.std.proofs.lemmas.Result.{IfOk-weaker}
use Rattle.cb_cli.specs.declared.verdict.Verdict.TheVariants.{Done}
use Rattle.cb_app.specs.Modes.{IsVerdict, command_of}
use Rattle.cb_app.proofs.Modes.{answered_verdict, fault_verdict}
use Rattle.cb_app.proofs.commands.answer_bytes.Goals as goal

pub returns-in_ok-text-in-Ok-clause-verdict : goal.returns-in_ok-text-in-Ok-clause-verdict
returns-in_ok-text-in-Ok-clause-verdict c =
    let done = c.in_ok-text-in-Ok.ensures.answered in
    let new = c.answer_script.new.end in
    subst (λ (t : List ℕ). IsVerdict (command_of c.args.side) c.args.bytes.now c.args.end.now new (Done t))
    (sym c.one.ensures.text)
    (answered_verdict c.args.side c.args.bytes.now c.args.end.now new c.in_ok-text-in-Ok.text
    (c.in-Ok.script, c.in-Ok.ensures.found, done.0, done.1))

pub returns-in-Err-clause-verdict : goal.returns-in-Err-clause-verdict
returns-in-Err-clause-verdict c =
    IfOk-weaker c.refusal.result _ (IsVerdict (command_of c.args.side) c.args.bytes.now c.args.end.now c.args.end.now)
    (fault_verdict c.args.side c.args.bytes.now c.args.end.now c.in-Err.fault c.in-Err.ensures.bad) c.refusal.ensures.told
