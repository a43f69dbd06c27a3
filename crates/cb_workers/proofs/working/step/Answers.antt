use Rattle.std.proofs.Common.{subst, sym}
use Rattle.cb_types.specs.declared.job.Job.{Job}
use Rattle.cb_workers.specs.Bodies.{HasOrder}
use Rattle.cb_workers.proofs.Steps.{next_order}
use Rattle.cb_workers.proofs.working.step.Goals as goal

pub returns-clause-order : goal.returns-clause-order
returns-clause-order g c = subst (λ (j : Job). HasOrder j c.due_turn.new.order
    c.due_turn.new.pass.seat.me.0) (sym c.next.ensures.job)
    (next_order _ c.args.worker c.args.due.now c.in_ok-reply.reply c.due_turn.new.order
    c.due_turn.new.pass.seat.me.0 c.requires.own c.in_ok-reply.ensures.hands)
