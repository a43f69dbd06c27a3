use Rattle.std.proofs.lemmas.Result.{IfOk-weaker}
use Rattle.cb_cli.specs.declared.words.Command.TheVariants.{Rma, Scrub}
use Rattle.cb_scrub_text.specs.Verdicts as scrubs
use Rattle.cb_app.specs.Modes.{IsVerdict}
use Rattle.cb_app.proofs.Modes.{rma_verdict, scrub_verdict}
use Rattle.cb_app.proofs.commands.obey.Goals as goal

pub returns-in-Rma-clause-verdict : goal.returns-in-Rma-clause-verdict
returns-in-Rma-clause-verdict g c =
    let bytes = c.args.bytes.now in
    let end = c.args.end.now in
    rw c.in-Rma.is (IfOk-weaker c.rma_bytes.result _ (IsVerdict Rma bytes end end) (rma_verdict bytes end) c.rma_bytes.ensures.verdict)

pub returns-in-Scrub-clause-verdict : goal.returns-in-Scrub-clause-verdict
returns-in-Scrub-clause-verdict g c =
    let bytes = c.args.bytes.now in
    let end = c.args.end.now in
    rw c.in-Scrub.is (IfOk-weaker c.scrub_bytes.result (scrubs.IsVerdict bytes) (IsVerdict Scrub bytes end end) (scrub_verdict bytes end) c.scrub_bytes.ensures.verdict)
