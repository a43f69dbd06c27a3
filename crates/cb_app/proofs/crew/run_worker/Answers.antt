use Rattle.cb_shared.specs.Passes.{record_of}
use Rattle.cb_app.proofs.CrewTaken.{worker_leaves}
use Rattle.cb_app.proofs.Records.{worker_told}
use Rattle.cb_app.proofs.WorkDone.{worker_is_made, worker_made}
use Rattle.cb_app.proofs.crew.run_worker.Goals as goal

pub returns-in-Ok-clause-ended : goal.returns-in-Ok-clause-ended
returns-in-Ok-clause-ended g c = λ given.
    worker_told c.args.shared.now c.args.worker c.args.turns c.args.pass c.in-Ok.pass given c.new-answers.result
    c.requires.fresh c.in-Ok.ensures.works c.new-answers.ensures.empty

pub returns-in-Ok-clause-made : goal.returns-in-Ok-clause-made
returns-in-Ok-clause-made g c = λ w.
    worker_is_made w c.args.worker c.args.turns (record_of c.in-Ok.pass)
    (worker_made c.args.shared.now c.args.worker c.args.turns c.args.pass c.in-Ok.pass c.requires.fresh
    c.in-Ok.ensures.works)

pub returns-in-Ok-clause-work : goal.returns-in-Ok-clause-work
returns-in-Ok-clause-work g c = worker_leaves c.args.shared.now c.args.worker c.args.turns c.args.pass
    c.in-Ok.pass c.requires.fresh c.in-Ok.ensures.works
