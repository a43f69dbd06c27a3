use Rattle.cb_workers.proofs.Steps.{any_err, due_owed, due_own, first_order, none_made, one_lacked}
use Rattle.cb_workers.proofs.Steps.{one_made, some_handles}
use Rattle.cb_workers.proofs.working.make_turns.Goals as goal

pub step-requires-clause-owed : goal.step-requires-clause-owed
step-requires-clause-owed g c = due_owed c.args.shared.now.config c.args.worker
    c.loop-number.number c.loop-number.due _ _
    (some_handles c.args.shared.now c.args.pass.now c.requires.of) c.loop-number.invariant.1

pub step-requires-clause-own : goal.step-requires-clause-own
step-requires-clause-own g c = due_own c.args.shared.now.config c.args.worker
    c.loop-number.number c.loop-number.due _ _ c.loop-number.invariant.1

pub step-requires-clause-order : goal.step-requires-clause-order
step-requires-clause-order g c = c.loop-number.invariant.2

pub returns-in_err-step-clause-cut : goal.returns-in_err-step-clause-cut
returns-in_err-step-clause-cut g c = any_err c.from_residual.result _ (one_lacked
    c.args.shared.now.config c.args.worker c.loop-number.number c.args.turns
    c.loop-number.due c.step.new.due _ _ _ c.loop-number-test.true c.loop-number.invariant.1
    c.in_err-step.ensures.lacks)

pub loop-number-init : goal.loop-number-init
loop-number-init g c = (
  c.requires.of,
  none_made c.args.shared.now.config c.args.worker c.args.due.now _ c.requires.first,
  first_order c.args.worker c.args.due.now _ _ c.requires.first,
)

pub loop-number-preserved : goal.loop-number-preserved
loop-number-preserved g c = (
  c.in_ok-step.ensures.of,
  one_made c.args.shared.now.config
      c.args.worker c.loop-number.number c.loop-number.due c.step.new.due _ _ _
      c.loop-number.invariant.1 c.in_ok-step.ensures.steps,
  c.in_ok-step.ensures.order,
)
