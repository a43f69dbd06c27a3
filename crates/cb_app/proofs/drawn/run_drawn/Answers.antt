use Rattle.std.proofs.lemmas.Result.{err_from_is_err_and}
use Rattle.cb_app.proofs.Runs.{drawn_cut, ends_drawn}
use Rattle.cb_app.proofs.drawn.run_drawn.Goals as goal

pub returns-clause-ends : goal.returns-clause-ends
returns-clause-ends g c = λ words asks source.
    let held = g.K.Sink.held in
    let put = rw c.as_slice.ensures.items at c.in_ok-put_all.ensures.ok in
    ends_drawn c.args.plan c.args.end.now c.draw_script.new.end c.in_ok-text.text c.in_ok-text.ensures.summed (held c.args.sink.now) (held c.put_all.new.sink) put words asks source

pub returns-in_err-put_all-clause-ends : goal.returns-in_err-put_all-clause-ends
returns-in_err-put_all-clause-ends g c = λ words asks source.
    let held = g.K.Sink.held in
    let failed = c.from_residual-in_err-put_all in
    let p = err_from_is_err_and failed.result failed.ensures.1 in
    let front = rw c.as_slice.ensures.items at c.in_err-put_all.ensures.front in
    rw (p.1, p.2) (drawn_cut c.args.plan c.args.end.now c.draw_script.new.end c.in_ok-text.text c.in_ok-text.ensures.summed (held c.args.sink.now) (held c.put_all.new.sink) front words asks source)
