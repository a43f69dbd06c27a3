use Rattle.std.proofs.Common.{subst, sym, arith}
use Rattle.cb_world.specs.FarState.{FarState}
use Rattle.cb_local.specs.Putting.{ArePut}
use Rattle.cb_local.proofs.PutStep.{at_few, on_error}
use Rattle.cb_local.proofs.putting.put_rows.Goals as goal

pub step_count-position-end-requires : goal.step_count-position-end-requires
step_count-position-end-requires c =
    let q = c.requires.put in (
      q.5.taken.pair,
      q.5.taken.fresh.was,
      at_few c.args.done.now q.0 q.1 q.2 q.3 q.4 c.args.far.now 0 q.5,
    )

pub loop-position-init : goal.loop-position-init
loop-position-init c s begun first a b x = x

pub put_step-requires : goal.put_step-requires
put_step-requires c =
    let q = c.requires.put in record {
      put = (
        q.0,
        q.1,
        q.2,
        q.3,
        q.4,
        c.loop-position.invariant q.0 q.1 q.2 q.3 q.4 q.5,
        let l = c.loop-position-test.true in
            let e = c.step_count-position-end.ensures q.5.taken.pair q.5.taken.fresh.was in
            let n = q.5.taken.count in omega (arith, l, e, n),
      );
    }

pub returns-in_err-put_step-clause-error : goal.returns-in_err-put_step-clause-error
returns-in_err-put_step-clause-error c =
    on_error _ c.from_residual.result (λ s begun first a b x. (
      c.loop-position.position,
      subst (λ (f : FarState). ArePut c.args.done.now s begun first a b f c.loop-position.position)
          (sym c.in_err-put_step.ensures.error) (c.loop-position.invariant s begun first a b x),
    ))

pub loop-position-preserved : goal.loop-position-preserved
loop-position-preserved c s begun first a b x =
    c.in_ok-put_step.ensures.put s begun first a b (c.loop-position.invariant s begun first a b x)
    (let l = c.loop-position-test.true in
    let e = c.step_count-position-end.ensures x.taken.pair x.taken.fresh.was in
    let n = x.taken.count in omega (arith, l, e, n))

pub returns-clause-put : goal.returns-clause-put
returns-clause-put c s begun first a b x =
    subst (ArePut c.args.done.now s begun first a b c.loop-position.far)
    (let l = c.loop-position-test.false in let m = c.loop-position.auto.position-end in
    let e = c.step_count-position-end.ensures x.taken.pair x.taken.fresh.was in
    let n = x.taken.count in omega (arith, l, m, e, n))
    (c.loop-position.invariant s begun first a b x)
