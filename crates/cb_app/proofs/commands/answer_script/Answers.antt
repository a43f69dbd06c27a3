use Rattle.std.proofs.lemmas.Result.{IfOk-weaker}
use Rattle.cb_app.proofs.Modes.{answered_told}
use Rattle.cb_app.proofs.commands.answer_script.Goals as goal

pub leave_ending-requires : goal.leave_ending-requires
leave_ending-requires c = c.in_ok-ended.ensures.replies

pub returns-clause-answered : goal.returns-clause-answered
returns-clause-answered c =
    IfOk-weaker c.leave_ending.result _ _
    (answered_told c.args.side c.args.script c.in_ok-ended.ended c.leave_ending.new.end c.in_ok-ended.ensures) c.leave_ending.ensures.told
