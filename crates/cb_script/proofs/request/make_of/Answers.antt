use Rattle.std.proofs.Common.{refl}
use Rattle.std.proofs.lemmas.Result.{IfOk-from_err, err_from_is_err_and}
use Rattle.cb_types.specs.declared.request.Request.TheVariants.{Make}
use Rattle.cb_script.proofs.Requests.{making_name_refused, making_hex_refused, making_stands}
use Rattle.cb_script.proofs.request.make_of.Goals as goal

pub returns-in_err-accept_new-clause-request : goal.returns-in_err-accept_new-clause-request
returns-in_err-accept_new-clause-request c = λ place has.
    let e = err_from_is_err_and c.from_residual.result c.from_residual.ensures.1 in
    rw (e.1, e.2) (making_name_refused place c.args.lane.n c.args.name.now c.args.hex.now c.in_err-accept_new.field-0.0 (c.in_err-accept_new.ensures.rule place.before has))

pub returns-in_err-accept_new-clause-names : goal.returns-in_err-accept_new-clause-names
returns-in_err-accept_new-clause-names c = λ before has.
    IfOk-from_err c.from_residual.result _ c.from_residual.ensures.0

pub returns-in_err-bytes-clause-request : goal.returns-in_err-bytes-clause-request
returns-in_err-bytes-clause-request c = λ place has.
    let ok = c.in_ok-accept_new.ensures.rule place.before has in
    let e = err_from_is_err_and c.from_residual-in_err-bytes.result c.from_residual-in_err-bytes.ensures.1 in
    rw (e.1, e.2) (making_hex_refused place c.args.lane.n c.args.name.now c.args.hex.now c.in_err-bytes.field-0.0 ok.0 ok.1 c.in_err-bytes.ensures)

pub returns-in_err-bytes-clause-names : goal.returns-in_err-bytes-clause-names
returns-in_err-bytes-clause-names c = λ before has.
    IfOk-from_err c.from_residual-in_err-bytes.result _ c.from_residual-in_err-bytes.ensures.0

pub returns-in_err-name-clause-request : goal.returns-in_err-name-clause-request
returns-in_err-name-clause-request c = λ place has.
    let e = err_from_is_err_and c.from_residual-in_err-name.result c.from_residual-in_err-name.ensures.1 in
    rw (e.1, e.2) tt

pub returns-in_err-name-clause-names : goal.returns-in_err-name-clause-names
returns-in_err-name-clause-names c = λ before has.
    IfOk-from_err c.from_residual-in_err-name.result _ c.from_residual-in_err-name.ensures.0

pub returns-clause-request : goal.returns-clause-request
returns-clause-request c = λ place has.
    let ok = c.in_ok-accept_new.ensures.rule place.before has in
    rw c.in_ok-name.ensures.items (making_stands place c.args.lane.n c.args.name.now c.args.hex.now c.in_ok-bytes.bytes ok.0 ok.1 c.in_ok-bytes.ensures)

pub returns-clause-names : goal.returns-clause-names
returns-clause-names c = λ before has line.
    c.in_ok-accept_new.ensures.kept before (record { lane = c.args.lane; line = line; request = Make c.in_ok-name.name c.in_ok-bytes.bytes }) has refl c.in_ok-name.ensures.items
