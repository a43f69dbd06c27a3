use Rattle.cb_workers.proofs.Batches.{begins_none}
use Rattle.cb_workers.proofs.Quiet.{adds_turn, takes_no_memory}
use Rattle.cb_workers.proofs.working.one_turn.Goals as goal

pub returns-clause-adds : goal.returns-clause-adds
returns-clause-adds g c = adds_turn c.args.shared.now.config c.args.job.now c.turn_within.result _ _
    c.requires.owed c.turn_within.ensures.turn

pub returns-clause-begins : goal.returns-clause-begins
returns-clause-begins g c = begins_none c.args.shared.now.config c.args.job.now c.turn_within.result
    _ _ c.requires.alone c.turn_within.ensures.turn

pub returns-clause-memory : goal.returns-clause-memory
returns-clause-memory g c = λ is. takes_no_memory c.args.shared.now.config c.args.job.now
    c.turn_within.result _ _ is c.turn_within.ensures.turn
