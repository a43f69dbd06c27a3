use Rattle.cb_script.proofs.Requests.{naming_stands}
use Rattle.cb_script.proofs.request.named_of.Goals as goal

pub returns-clause-request : goal.returns-clause-request
returns-clause-request c = λ place has.
    let ok = c.in_ok-accept_known.ensures place.before has in
    rw (c.naming.ensures, c.in_ok-name.ensures.items) (naming_stands place c.args.lane.n c.args.verb c.args.name.now ok.0 ok.1)
