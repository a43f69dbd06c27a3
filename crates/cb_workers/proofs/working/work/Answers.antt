use Rattle.std.proofs.lemmas.Result.{IfOk-weaker, on_err_weaker}
use Rattle.cb_workers.proofs.Steps.{all_stopped, all_worked}
use Rattle.cb_workers.proofs.working.work.Goals as goal

pub returns-clause-works : goal.returns-clause-works
returns-clause-works g c = IfOk-weaker c.make_turns-made.result _ _ (λ u made. (
  c.end_work.ensures.of,
  all_worked c.args.shared.now.config c.args.worker c.args.turns
      c.make_turns-made.new.due _ _ _ made c.end_work.ensures.ends,
)) c.make_turns-made.ensures.made

pub returns-clause-stopped : goal.returns-clause-stopped
returns-clause-stopped g c = on_err_weaker c.make_turns-made.result (λ cut. (
  c.end_work.ensures.of,
  all_stopped c.args.shared.now.config c.args.worker c.args.turns
      c.make_turns-made.new.due _ _ _ cut c.end_work.ensures.ends,
)) c.make_turns-made.ensures.cut
