use Rattle.std.proofs.Common.{length, subst, sym, arith, inr}
use Rattle.std.proofs.lemmas.Result.{IfOk-weaker, on_err_weaker}
use Rattle.cb_set.specs.SetState.{SetState}
use Rattle.cb_world.specs.Joining.{JoiningState}
use Rattle.cb_compact.proofs.Laws.{as_fresh}
use Rattle.cb_local.specs.LocalGoing.{EndsHere, HasGoneGiving}
use Rattle.cb_local.proofs.Finishing.{put_ends, put_ready, put_sets, put_stops}
use Rattle.cb_local.proofs.compacting.finish.Goals as goal

pub merge-requires-clause-ready : goal.merge-requires-clause-ready
merge-requires-clause-ready c =
    let q = c.requires.begun in
    let x = c.in_ok-take_steps.ensures.put q.0 q.1 q.2 q.3 q.4 q.5 in (
      q.0,
      x.1.taken.pair,
      q.2,
      q.3,
      put_ready x.0 q.0 c.args.far.now q.1 q.2 q.3 c.take_steps.new.far (length q.1.steps) x.1
          (omega arith),
    )

pub merge-requires-clause-sets : goal.merge-requires-clause-sets
merge-requires-clause-sets c =
    let q = c.requires.begun in
    let x = c.in_ok-take_steps.ensures.put q.0 q.1 q.2 q.3 q.4 q.5 in
    let e = put_sets x.0 q.0 c.args.far.now q.1 q.2 q.3 c.take_steps.new.far (length q.1.steps) x.1
    in
    let l = q.4.numbers in omega (arith, e, l)

pub returns-clause-ends : goal.returns-clause-ends
returns-clause-ends c =
    let q = c.requires.begun in let far = c.args.far.now in
    let x = c.in_ok-take_steps.ensures.put q.0 q.1 q.2 q.3 q.4 q.5 in
    IfOk-weaker c.merge.result _ _ (λ reply merged pair a b fresh.
    as_fresh far q.1 pair q.2 q.3 a b (λ (p : JoiningState) (d e : SetState).
    EndsHere far c.merge.new.far p d reply) q.4.fresh fresh
    (inr (put_ends x.0 q.0 far q.1 q.2 q.3 c.take_steps.new.far (length q.1.steps) x.1
    c.merge.new.far reply q.4.fresh.was (omega arith) merged))) c.merge.ensures.merged

pub returns-clause-error : goal.returns-clause-error
returns-clause-error c =
    let q = c.requires.begun in
    let x = c.in_ok-take_steps.ensures.put q.0 q.1 q.2 q.3 q.4 q.5 in
    on_err_weaker c.merge.result (λ same. subst (HasGoneGiving c.args.far.now) (sym same)
    (put_stops x.0 q.0 c.args.far.now q.1 q.2 q.3 c.take_steps.new.far (length q.1.steps) x.1
    q.4.fresh)) c.merge.ensures.error
