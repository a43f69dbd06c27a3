use Rattle.std.proofs.lemmas.Result.{IfOk-weaker}
use Rattle.cb_cli.specs.declared.words.Command.TheVariants.{Threads}
use Rattle.cb_app.specs.Modes.{IsVerdict}
use Rattle.cb_app.proofs.Modes.{thread_fault_verdict}
use Rattle.cb_app.proofs.commands.thread_bytes.Goals as goal

pub returns-in_ok-thread_script-in-Ok-clause-verdict : goal.returns-in_ok-thread_script-in-Ok-clause-verdict
returns-in_ok-thread_script-in-Ok-clause-verdict g c =
    let done = c.in_ok-thread_script-in-Ok.ensures.answered in
    let found = c.in-Ok.ensures.found in
    ((c.in-Ok.script, found), (c.in-Ok.script, found, done.0, done.1))

pub returns-in-Err-clause-verdict : goal.returns-in-Err-clause-verdict
returns-in-Err-clause-verdict g c =
    IfOk-weaker c.refusal.result _ (IsVerdict Threads c.args.bytes.now c.args.end.now c.args.end.now)
    (thread_fault_verdict c.args.bytes.now c.args.end.now c.in-Err.fault c.in-Err.ensures.bad) c.refusal.ensures.told
