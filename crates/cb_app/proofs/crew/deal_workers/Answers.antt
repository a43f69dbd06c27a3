use Rattle.std.proofs.Common.{◌≤◌}
use Rattle.std.proofs.lemmas.Result.{IfOk-weaker}
use Rattle.cb_rule.specs.Lists.{total}
use Rattle.cb_workers.specs.declared.worker.Worker.{Worker}
use Rattle.cb_app.specs.Crew.{turns_due}
use Rattle.cb_app.specs.CrewTurns.{IsCrew, bodies_of}
use Rattle.cb_app.proofs.CrewTaken.{crew_of}
use Rattle.cb_app.proofs.WorkDone.{all_due}
use Rattle.cb_app.proofs.crew.deal_workers.Goals as goal

pub returns : goal.returns
returns c = record {
  dealt = λ lines v d.
      let one = c.in_ok-deal_worker.ensures.dealt lines 15 15 v d in
      let two = c.in_ok-deal_worker-2.ensures.dealt lines 15 16 v one in
      let three = c.in_ok-deal_worker-3.ensures.dealt lines 15 17 v two in
      c.deal_worker-4.ensures.dealt lines 15 18 v three;
  work =
      let turns = c.args.shared.now.config.turns in
      IfOk-weaker c.deal_worker-4.result _ (λ x. (w : Worker) → turns
      ≤ total (turns_due w) c.deal_worker-4.new.tasks.items)
      (λ x four w. all_due w turns _ _ _ _ _ (c.in_ok-deal_worker.ensures.work w)
      (c.in_ok-deal_worker-2.ensures.work w) (c.in_ok-deal_worker-3.ensures.work w) (four w))
      c.deal_worker-4.ensures.work;
  crew = λ lanes.
      let turns = c.args.shared.now.config.turns in
      IfOk-weaker c.deal_worker-4.result _
      (λ x. IsCrew turns (bodies_of c.deal_worker-4.new.tasks.items))
      (λ x four. crew_of turns (bodies_of c.args.tasks.now.items) _ _ _ _ lanes
      c.in_ok-deal_worker.ensures.crew c.in_ok-deal_worker-2.ensures.crew
      c.in_ok-deal_worker-3.ensures.crew four) c.deal_worker-4.ensures.crew;
}
