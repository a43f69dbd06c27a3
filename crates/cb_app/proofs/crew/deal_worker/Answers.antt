use Rattle.std.proofs.Common.{◌≡◌, ◌+◌, ◌++◌, ◌∷◌, [], ◌∙◌, ap}
use Rattle.std.proofs.lemmas.Result.{IfOk-weaker}
use Rattle.cb_types.specs.declared.config.Config.{Config}
use Rattle.cb_rule.specs.Lists.{total}
use Rattle.cb_workers.specs.declared.worker.Worker.{Worker}
use Rattle.cb_app.specs.Crew.{IsDealt, if_same, turns_due}
use Rattle.cb_app.specs.CrewTurns.{bodies_of}
use Rattle.cb_app.specs.declared.crew.Body.TheVariants as bodies
use Rattle.cb_app.proofs.CrewTaken.{bodies_more}
use Rattle.cb_app.proofs.Crews.{dealt_worker}
use Rattle.cb_app.proofs.WorkDone.{one_due}
use Rattle.cb_app.proofs.crew.deal_worker.Goals as goal

pub returns-clause-dealt : goal.returns-clause-dealt
returns-clause-dealt c = λ lines n m v d.
    let s = c.args.shared.now in
    IfOk-weaker c.deal_one.result _ (λ x. IsDealt s lines n (m + 1) v c.deal_one.new.tasks.items c.deal_one.new.pass)
    (λ x one. dealt_worker s lines n m v c.args.tasks.now.items c.deal_one.new.tasks.items c.args.pass.now
    c.deal_one.new.pass _ _ d one c.deal_one.ensures.of c.deal_one.ensures.left c.requires.share)
    c.deal_one.ensures.task

pub returns-clause-work : goal.returns-clause-work
returns-clause-work c =
    let s = c.args.shared.now in
    let old = c.args.tasks.now.items in
    let new = c.deal_one.new.tasks.items in
    IfOk-weaker c.deal_one.result _ (λ x. (w : Worker) → total (turns_due w) new
    ≡ total (turns_due w) old + if_same c.args.worker w s.config.turns)
    (λ x one w. one_due s _ _ old new one w
    ∙ ap (λ (g : Config). total (turns_due w) old + if_same c.args.worker w g.turns) c.config-turns.ensures)
    c.deal_one.ensures.task

pub returns-clause-crew : goal.returns-clause-crew
returns-clause-crew c =
    let s = c.args.shared.now in
    let old = c.args.tasks.now.items in
    let new = c.deal_one.new.tasks.items in
    IfOk-weaker c.deal_one.result _ (λ x. bodies_of new
    ≡ bodies_of old ++ bodies.Worker c.args.worker s.config.turns ∷ [])
    (λ x one. bodies_more s _ _ old new one
    ∙ ap (λ (g : Config). bodies_of old ++ bodies.Worker c.args.worker g.turns ∷ [])
    c.config-turns.ensures) c.deal_one.ensures.task
