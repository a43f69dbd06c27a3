use Rattle.std.proofs.lemmas.Result.{on_err_weaker, on_ok_weaker}
use Rattle.cb_local.proofs.Finishing.{put_none, put_stops, stopped_first}
use Rattle.cb_local.proofs.PutStep.{on_error}
use Rattle.cb_local.proofs.compacting.take_steps.Goals as goal

pub run_pair-requires-clause-given : goal.run_pair-requires-clause-given
run_pair-requires-clause-given c = c.requires.begun.4.rows

pub run_pair-requires-clause-ready : goal.run_pair-requires-clause-ready
run_pair-requires-clause-ready c =
    let q = c.requires.begun in
    (q.0, q.1, q.2, q.3, record { sound = q.4.sound.away; fresh = q.4.fresh; ascend = q.4.ascend })

pub put_rows-requires : goal.put_rows-requires
put_rows-requires c =
    let q = c.requires.begun in record {
      put = (
        q.0,
        c.args.far.now,
        q.1,
        q.2,
        q.3,
        put_none c.in_ok-done.done q.0 c.args.far.now q.1 q.2 q.3 c.run_pair.new.far q.4 q.5
            (c.in_ok-done.ensures.made q.1 q.2 q.3 q.4.fresh)
            (c.in_ok-done.ensures.far q.1 q.2 q.3 q.4.fresh),
      );
    }

pub returns-in_err-done-clause-error : goal.returns-in_err-done-clause-error
returns-in_err-done-clause-error c =
    let q = c.requires.begun in
    on_error _ c.from_residual.result
    (stopped_first q.0 c.args.far.now c.run_pair.new.far q.1 q.2 q.3 q.4
    c.in_err-done.ensures.error)

pub returns-clause-put : goal.returns-clause-put
returns-clause-put c =
    on_ok_weaker c.put_rows.result (λ puts s pair a b is rooms. (
      c.in_ok-done.done,
      puts s c.args.far.now pair a b (put_none c.in_ok-done.done s c.args.far.now pair a b
          c.run_pair.new.far is rooms (c.in_ok-done.ensures.made pair a b is.fresh)
          (c.in_ok-done.ensures.far pair a b is.fresh)),
    )) c.put_rows.ensures.put

pub returns-clause-error : goal.returns-clause-error
returns-clause-error c =
    let q = c.requires.begun in
    on_err_weaker c.put_rows.result (λ back.
    let x = back q.0 c.args.far.now q.1 q.2 q.3 (put_none c.in_ok-done.done q.0 c.args.far.now q.1
    q.2 q.3 c.run_pair.new.far q.4 q.5 (c.in_ok-done.ensures.made q.1 q.2 q.3 q.4.fresh)
    (c.in_ok-done.ensures.far q.1 q.2 q.3 q.4.fresh)) in
    put_stops c.in_ok-done.done q.0 c.args.far.now q.1 q.2 q.3 c.put_rows.new.far x.0 x.1 q.4.fresh)
    c.put_rows.ensures.error
