use Rattle.cb_script.specs.Reading.{line_place}
use Rattle.cb_script.proofs.Requests.{facing_fault}
use Rattle.cb_script.proofs.request.facing_of.Goals as goal

pub returns-in-None-clause-request : goal.returns-in-None-clause-request
returns-in-None-clause-request c = λ lane before. facing_fault (line_place c.args.limits before) lane c.args.verb c.args.node.now (λ n is. c.in-None.ensures (record { n = n }) is)
