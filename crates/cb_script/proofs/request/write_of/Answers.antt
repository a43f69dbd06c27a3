use Rattle.std.proofs.lemmas.Result.{err_from_is_err_and}
use Rattle.cb_script.proofs.Requests.{writing_start_fault, writing_refused, writing_stands}
use Rattle.cb_script.proofs.request.write_of.Goals as goal

pub returns-in_default-clause-request : goal.returns-in_default-clause-request
returns-in_default-clause-request c = λ place has.
    let ok = c.in_ok-accept_known.ensures place.before has in
    writing_start_fault place c.args.lane.n c.args.name.now c.args.at.now c.args.hex.now ok.0 ok.1 c.in_default.ensures

pub returns-in_err-bytes-clause-request : goal.returns-in_err-bytes-clause-request
returns-in_err-bytes-clause-request c = λ place has.
    let ok = c.in_ok-accept_known.ensures place.before has in
    let e = err_from_is_err_and c.from_residual-in_err-bytes.result c.from_residual-in_err-bytes.ensures.1 in
    rw (e.1, e.2) (writing_refused place c.args.lane.n c.args.name.now c.args.at.now c.args.hex.now c.in_err-bytes.field-0.0 c.in-Some.at ok.0 ok.1 c.in-Some.ensures c.in_err-bytes.ensures)

pub returns-clause-request : goal.returns-clause-request
returns-clause-request c = λ place has.
    let ok = c.in_ok-accept_known.ensures place.before has in
    let change = c.in_ok-bytes.ensures in
    let start = c.in-Some.ensures in
    rw c.in_ok-name.ensures.items (writing_stands place c.args.lane.n c.args.name.now c.args.at.now c.args.hex.now c.in-Some.at c.in_ok-bytes.bytes ok.0 ok.1 start change)
