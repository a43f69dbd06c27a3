use Rattle.cb_shared.specs.Passes.{record_of}
use Rattle.cb_shared.proofs.Resting.{known_below}
use Rattle.cb_shared.proofs.runtime.Shared.free.Goals as goal

pub turn_until-requires-clause-job : goal.turn_until-requires-clause-job
turn_until-requires-clause-job g c = known_below c.args.self.now.config c.args.h.n
    (record_of c.args.pass.now) c.requires.of.rest c.requires.knows

pub returns-clause-free : goal.returns-clause-free
returns-clause-free g c = c.turn_until.ensures.turn

pub returns-clause-error : goal.returns-clause-error
returns-clause-error g c = c.turn_until.ensures.error
