use Rattle.std.proofs.Common.{◌+◌, ◌*◌, ◌<◌, sym, subst, arith}
use Rattle.cb_types.specs.declared.config.Config.{Config}
use Rattle.cb_types.specs.declared.config.Field.TheVariants.{Frames}
use Rattle.cb_world.specs.Shown.{Covers}
use Rattle.cb_mutate.proofs.Loaded.{loads_none, loads_one, loads_all, loaded_agrees}
use Rattle.cb_mutate.proofs.loading.load_into.Goals as goal

pub loop-i-init : goal.loop-i-init
loop-i-init g c =
    loads_none _ _ c.args.place c.args.len _ (g.met.D.Desk.none _) c.requires.room

pub overflow_add-place : goal.overflow_add-place
overflow_add-place g c = omega (
  arith,
  (c.requires.config Frames).1,
  c.loop-i-test.true,
  c.div_ceil-i-end.ensures,
  c.requires.memory,
)

pub load-word-requires : goal.load-word-requires
load-word-requires g c =
    subst (λ (q : Config). c.args.place + c.loop-i.i < 512 * q.frames)
    (sym (g.met.D.Desk.stays _ _ _ c.loop-i.invariant.ran))
    (omega (arith, c.loop-i-test.true, c.div_ceil-i-end.ensures, c.requires.memory))

pub put_word-requires : goal.put_word-requires
put_word-requires g c =
    omega (arith, c.loop-i-test.true, c.div_ceil-i-end.ensures, c.loop-i.invariant.sized)

pub loop-i-preserved : goal.loop-i-preserved
loop-i-preserved g c = let l = c.loop-i.invariant in
    let p = c.args.place + c.loop-i.i in let x = c.load-word.result in
    let ran = g.met.D.Desk.more _ _ _ _ _ l.ran c.load-word.ensures in
    let put = c.put_word.ensures in
    let here : Covers c.args.place c.args.len p =
    (omega arith, omega (arith, c.loop-i-test.true, c.div_ceil-i-end.ensures)) in
    loads_one _ _ _ c.args.place c.args.len c.loop-i.i x _ _ l here ran
    (record { inside = put.inside; outside = put.outside; sized = put.sized })
    (λ s o. loaded_agrees l.events s p x l.loads
    (g.met.D.Desk.follows _ _ _ s ran o.0).0
    (o.1 p here))

pub returns : goal.returns
returns g c = loads_all _ _ c.args.place c.args.len c.loop-i.i _
    (omega (arith, c.loop-i-test.false, c.div_ceil-i-end.ensures, c.loop-i.auto.i-end))
    c.loop-i.invariant
