use Rattle.std.proofs.lemmas.Result.{err_from_is_err_and}
use Rattle.cb_app.proofs.Runs.{ends_done, ends_refused, done_cut, refused_cut, decided_done, decided_refused}
use Rattle.cb_app.proofs.run.run_command.Goals as goal

pub returns-in_ok-put_pieces-in-Done-clause-ends : goal.returns-in_ok-put_pieces-in-Done-clause-ends
returns-in_ok-put_pieces-in-Done-clause-ends g c = λ words named.
    let left = g.S.Source.left in
    let held = g.K.Sink.held in
    let judged = rw c.in-Done.is at c.in_ok-text.ensures.verdict in
    let put = c.in_ok-put_pieces-in-Done.ensures.ok in
    ends_done c.args.command (left c.args.source.now) (left c.judge.new.source) c.args.end.now c.judge.new.end c.in-Done.text (held c.args.sink.now) (held c.put_pieces.new.sink) judged put words named

pub returns-in_ok-put_pieces-in-Done-clause-decided : goal.returns-in_ok-put_pieces-in-Done-clause-decided
returns-in_ok-put_pieces-in-Done-clause-decided g c =
    let left = g.S.Source.left in
    let judged = rw c.in-Done.is at c.in_ok-text.ensures.verdict in
    decided_done c.args.command (left c.args.source.now) (left c.judge.new.source) c.args.end.now c.judge.new.end c.in-Done.text judged

pub returns-in_err-put_pieces-in-Done-clause-ends : goal.returns-in_err-put_pieces-in-Done-clause-ends
returns-in_err-put_pieces-in-Done-clause-ends g c = λ words named.
    let left = g.S.Source.left in
    let held = g.K.Sink.held in
    let failed = c.from_residual-in_err-put_pieces-in-Done in
    let p = err_from_is_err_and failed.result failed.ensures.1 in
    let judged = rw c.in-Done.is at c.in_ok-text.ensures.verdict in
    let front = c.in_err-put_pieces-in-Done.ensures.front in
    rw (p.1, p.2) (done_cut c.args.command (left c.args.source.now) (left c.judge.new.source) c.args.end.now c.judge.new.end c.in-Done.text (held c.args.sink.now) (held c.put_pieces.new.sink) judged front words named)

pub returns-in_ok-put_all-in-Refused-clause-ends : goal.returns-in_ok-put_all-in-Refused-clause-ends
returns-in_ok-put_all-in-Refused-clause-ends g c = λ words named.
    let left = g.S.Source.left in
    let held = g.K.Sink.held in
    let judged = rw c.in-Refused.is at c.in_ok-text.ensures.verdict in
    let put = rw c.as_slice.ensures.items at c.in_ok-put_all-in-Refused.ensures.ok in
    ends_refused c.args.command (left c.args.source.now) (left c.judge.new.source) c.args.end.now c.judge.new.end c.in-Refused.text (held c.args.sink.now) (held c.put_all.new.sink) judged put words named

pub returns-in_ok-put_all-in-Refused-clause-decided : goal.returns-in_ok-put_all-in-Refused-clause-decided
returns-in_ok-put_all-in-Refused-clause-decided g c =
    let left = g.S.Source.left in
    let judged = rw c.in-Refused.is at c.in_ok-text.ensures.verdict in
    decided_refused c.args.command (left c.args.source.now) (left c.judge.new.source) c.args.end.now c.judge.new.end c.in-Refused.text judged

pub returns-in_err-put_all-in-Refused-clause-ends : goal.returns-in_err-put_all-in-Refused-clause-ends
returns-in_err-put_all-in-Refused-clause-ends g c = λ words named.
    let left = g.S.Source.left in
    let held = g.K.Sink.held in
    let failed = c.from_residual-in_err-put_all-in-Refused in
    let p = err_from_is_err_and failed.result failed.ensures.1 in
    let judged = rw c.in-Refused.is at c.in_ok-text.ensures.verdict in
    let front = rw c.as_slice.ensures.items at c.in_err-put_all-in-Refused.ensures.front in
    rw (p.1, p.2) (refused_cut c.args.command (left c.args.source.now) (left c.judge.new.source) c.args.end.now c.judge.new.end c.in-Refused.text (held c.args.sink.now) (held c.put_all.new.sink) judged front words named)
