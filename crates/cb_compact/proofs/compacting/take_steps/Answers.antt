use Rattle.std.proofs.Common.{◌<◌, length, arith, subst}
use Rattle.cb_compact.proofs.NowEnds.{gone_all, gone_sound}
use Rattle.cb_compact.proofs.NowGone.{StepGoesOn, gone_on, none_gone}
use Rattle.cb_compact.proofs.PatchSound.{few_steps}
use Rattle.cb_compact.proofs.compacting.take_steps.Goals as goal

pub step_count-position-end-requires : goal.step_count-position-end-requires
step_count-position-end-requires c =
    let x = c.requires.fresh in let s = c.requires.sound in
    (x.0, x.3.was, few_steps s.0 c.args.far.now x.0 s.1.away x.3.was)

pub loop-position-init : goal.loop-position-init
loop-position-init c = let x = c.requires.fresh in
    none_gone c.args.far.now x.0 x.1 x.2 x.3 x.4

pub try_step-requires-clause-sound : goal.try_step-requires-clause-sound
try_step-requires-clause-sound c =
    let s = c.requires.sound in let n = c.loop-position.position in
    (s.0, gone_sound s.0 c.args.far.now c.loop-position.far n s.1 c.loop-position.invariant)

pub try_step-requires-clause-fresh : goal.try_step-requires-clause-fresh
try_step-requires-clause-fresh c =
    let q = c.requires.fresh in let x = c.loop-position.invariant in (
      x.pair,
      x.a,
      x.b,
      x.fresh,
      let l = c.loop-position-test.true in let e = c.step_count-position-end.ensures q.0 q.3.was in
          let n = x.count q.0 q.3.was in omega (arith, l, e, n),
      x.below,
    )

pub try_step-requires-clause-keys : goal.try_step-requires-clause-keys
try_step-requires-clause-keys c =
    let q = c.requires.fresh in let s = c.requires.sound in
    let few = few_steps s.0 c.args.far.now q.0 s.1.away q.3.was in
    let l = c.loop-position-test.true in let e = c.step_count-position-end.ensures q.0 q.3.was in
    let k = c.loop-position.invariant.keys in let r = c.requires.keys in
    omega (arith, few, l, e, k, r)

pub returns-in-Some-clause-gone : goal.returns-in-Some-clause-gone
returns-in-Some-clause-gone c =
    let q = c.requires.fresh in let s = c.requires.sound in let x = c.loop-position.invariant in
    let begun = c.args.far.now in let far = c.loop-position.far in
    let n = c.loop-position.position in
    let within : n < length x.pair.steps =
    let l = c.loop-position-test.true in let e = c.step_count-position-end.ensures q.0 q.3.was in
    let m = x.count q.0 q.3.was in omega (arith, l, e, m) in
    let y = subst (StepGoesOn begun c.try_step.new.far n) c.in-Some.is
    (gone_on s.0 begun far c.try_step.new.far n c.in_ok-node.field-0
    (gone_sound s.0 begun far n s.1 x) x
    (c.in_ok-node.ensures.step x.pair x.a x.b x.fresh within x.below)) in
    (n, y.0, y.1)

pub loop-position-preserved : goal.loop-position-preserved
loop-position-preserved c =
    let q = c.requires.fresh in let s = c.requires.sound in let x = c.loop-position.invariant in
    let begun = c.args.far.now in let far = c.loop-position.far in
    let n = c.loop-position.position in
    let within : n < length x.pair.steps =
    let l = c.loop-position-test.true in let e = c.step_count-position-end.ensures q.0 q.3.was in
    let m = x.count q.0 q.3.was in omega (arith, l, e, m) in
    subst (StepGoesOn begun c.try_step.new.far n) c.in_default.is
    (gone_on s.0 begun far c.try_step.new.far n c.in_ok-node.field-0
    (gone_sound s.0 begun far n s.1 x) x
    (c.in_ok-node.ensures.step x.pair x.a x.b x.fresh within x.below))

pub returns-clause-gone : goal.returns-clause-gone
returns-clause-gone c =
    let q = c.requires.fresh in
    gone_all c.args.far.now c.loop-position.far c.loop-position.position q.0
    c.loop-position.invariant q.3.was
    (let l = c.loop-position-test.false in let e = c.step_count-position-end.ensures q.0 q.3.was in
    omega (arith, l, e))
