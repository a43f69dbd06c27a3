use Rattle.std.proofs.Common.{sym, ap, ◌∙◌}
use Rattle.cb_text.specs.Line.{text_of}
use Rattle.cb_app.specs.declared.ending.Ending.{Ending}
use Rattle.cb_app.proofs.Modes.{threaded_told}
use Rattle.cb_app.proofs.commands.thread_script.Goals as goal

pub returns-clause-answered : goal.returns-clause-answered
returns-clause-answered g c =
    let made = c.threaded-ended.ensures in
    let told = c.in_ok-told.ensures in
    threaded_told c.args.script c.in_ok-told.told c.threaded-ended.result.0 c.set.new.self made.ending told.run
    c.threaded-ended.result.1
    (c.set.ensures, made.text ∙ told.text ∙ sym (ap (λ (e : Ending). text_of e.answers) made.ending))
