use Rattle.std.proofs.Common.{ℕ, ◌+◌, ◌<◌, [], Option, length, refl, sym, ap, ◌∙◌, subst, arith}
use Rattle.cb_types.specs.declared.config.Config.{Config}
use Rattle.cb_types.specs.declared.config.Field.TheVariants.{Frames}
use Rattle.cb_span.specs.declared.temp.Temp.TheVariants.{Hot}
use Rattle.cb_world.specs.declared.shown.Shown.{Shown}
use Rattle.cb_world.specs.FarState.{FarState}
use Rattle.cb_world.specs.Sound.{Sound}
use Rattle.cb_world.specs.Placed.{Places, place_in, with_object}
use Rattle.cb_mutate.specs.MakeRule.{make_events}
use Rattle.cb_mutate.specs.MakeEnds.{IsNewAt}
use Rattle.cb_mutate.proofs.NewObject.{made_first}
use Rattle.cb_mutate.proofs.MakeSound.{some_left, new_at, make_done}
use Rattle.cb_mutate.proofs.making.make.Goals as goal

pub returns-then-far-handles-clause-make : goal.returns-then-far-handles-clause-make
returns-then-far-handles-clause-make g c = record {
  events = [];
  ran = g.met.D.Desk.none _;
  looks_first = tt;
  rule = (
    omega (
      arith,
      c.if-far-handles.true,
      ap (λ (q : Config). q.handles) c.config-handles.ensures,
      ap (λ (far : FarState). far.made) c.far.view_is,
    ),
    ap (λ (q : Config). q.handles) c.config-handles.ensures,
    (refl, refl),
  );
  allowed = λ s k. tt;
  sound_after = λ s k. k.1;
  effect = λ s k. record {
    objects = refl;
    hots = refl;
    versions = refl;
    memory = refl;
    nothing = λ old. refl;
  };
}

pub place_object-requires-clause-numbered : goal.place_object-requires-clause-numbered
place_object-requires-clause-numbered g c =
    let had = c.requires.sound in let sized = g.met.D.Desk.sized _ _ had.1 in
    omega (
      arith,
      sized.3,
      had.2.here.placed.memory,
      had.2.here.frames.sized,
      (c.requires.config Frames).1,
    )

pub returns-in_default-clause-make : goal.returns-in_default-clause-make
returns-in_default-clause-make g c =
    let none = subst (λ (o : Option ℕ). Places c.args.far.now c.class_of-class.result Hot
    c.far.inside.made c.place_object.new.far o) c.in_default.is c.in_ok-place.ensures.placed in
    let had = c.requires.sound in
    let below = some_left had.0 c.args.far.now c.far.inside.made _ c.config-handles.result.handles
    had.2 (g.met.D.Desk.sized _ _ had.1).0
    (ap (λ (q : Config). q.handles) c.config-handles.ensures)
    (ap (λ (far : FarState). far.made) c.far.view_is) c.if-far-handles.false in
    record {
      events = [];
      ran = g.met.D.Desk.none _;
      looks_first = tt;
      rule = (
        omega (arith, below, ap (λ (far : FarState). far.made) c.far.view_is),
        (c.class_of-class.result, c.class_of-class.ensures, none.0),
        (none.1, refl),
      );
      allowed = λ s k. tt;
      sound_after = λ s k. subst (Sound s) (sym none.1) k.1;
      effect = λ s k. record {
        objects = refl;
        hots = refl;
        versions = refl;
        memory = refl;
        nothing = λ old. refl;
      };
    }

pub write_new-requires-clause-new : goal.write_new-requires-clause-new
write_new-requires-clause-new g c =
    let had = c.requires.sound in let s = had.0 in
    let sized = g.met.D.Desk.sized _ s had.1 in
    let h = c.far.inside.made in let len = length c.args.bytes.now in
    let placed = subst (λ (o : Option ℕ). Places c.args.far.now c.class_of-class.result Hot h
    c.place_object.new.far o) c.in-Some.is c.in_ok-place.ensures.placed in
    let below = some_left had.0 c.args.far.now h _ c.config-handles.result.handles had.2
    (g.met.D.Desk.sized _ _ had.1).0 (ap (λ (q : Config). q.handles) c.config-handles.ensures)
    (ap (λ (q : FarState). q.made) c.far.view_is) c.if-far-handles.false in (
      s,
      had.1,
      subst (λ (p : ℕ). IsNewAt s h c.far.inside.first p len) (sym placed.place)
          (new_at s c.args.far.now c.class_of-class.result placed.slot h c.far.inside.first len
          (record {
            sound = had.2;
            range = subst (λ (n : ℕ). h < n) (sym sized.0) below;
            stamp = subst (λ (n : ℕ). h < n) (sym sized.2) below;
            memory = omega (arith, sized.3, (c.requires.config Frames).1);
            short = c.requires.fits;
            some_byte = c.requires.some_byte;
            fits = c.class_of-class.ensures;
            chosen = placed.chosen;
            next = ap (λ (far : FarState). far.made) c.far.view_is;
            first = ap (λ (far : FarState). far.first) c.far.view_is;
          })),
    )

pub returns-clause-make : goal.returns-clause-make
returns-clause-make g c =
    let h = c.far.inside.made in let v = c.far.inside.first in
    let bytes = c.args.bytes.now in let len = length bytes in
    let far = c.args.far.now in let class = c.class_of-class.result in
    let had = c.requires.sound in
    let placed = subst (λ (o : Option ℕ). Places far class Hot h c.place_object.new.far o)
    c.in-Some.is c.in_ok-place.ensures.placed in
    let slot = placed.slot in let place = place_in slot in
    let next = ap (λ (q : FarState). q.made) c.far.view_is in
    let below = some_left had.0 c.args.far.now h _ c.config-handles.result.handles had.2
    (g.met.D.Desk.sized _ _ had.1).0 (ap (λ (q : Config). q.handles) c.config-handles.ensures)
    (ap (λ (q : FarState). q.made) c.far.view_is) c.if-far-handles.false in
    let new = ap (λ (q : FarState). let p : FarState = record q { made = q.made + 1 } in p)
    c.far-2.view_is
    ∙ ap (λ (q : FarState). let p : FarState = record q { made = q.made + 1 } in p) placed.left
    ∙ ap (λ (i : ℕ). let p : FarState =
    record (with_object far slot i) { made = far.made + 1 } in p) next in
    let r = c.write_new.ensures in
    let es = make_events h v len place r.words in
    let done = λ (s : Shown) (a : g.D.Desk.shows c.args.desk.now s) (sound : Sound s far).
    let sized = g.met.D.Desk.sized _ s a in
    make_done s far _ class slot h v bytes r.words (record {
      sound = sound;
      range = subst (λ (n : ℕ). h < n) (sym sized.0) below;
      stamp = subst (λ (n : ℕ). h < n) (sym sized.2) below;
      memory = omega (arith, sized.3, (c.requires.config Frames).1);
      short = c.requires.fits;
      some_byte = c.requires.some_byte;
      fits = c.class_of-class.ensures;
      chosen = placed.chosen;
      next = next;
      first = ap (λ (q : FarState). q.first) c.far.view_is;
    }) r.packed new in
    record {
      events = es;
      ran = subst (λ (p : ℕ). g.D.Desk.run c.args.desk.now (make_events h v len p r.words)
          c.write_new.new.desk) placed.place r.ran;
      looks_first = made_first h v len place r.words;
      rule = (
        omega (arith, below, next),
        (done had.0 had.1 had.2).effect.make,
      );
      allowed = λ s k. (done s k.0 k.1).allowed;
      sound_after = λ s k. (done s k.0 k.1).sound;
      effect = λ s k. (done s k.0 k.1).effect;
    }

pub same-far : goal.same-far
same-far g c = refl

pub returns-then-far-handles-clause-error : goal.returns-then-far-handles-clause-error
returns-then-far-handles-clause-error g c = tt

pub overflow_cast-bytes : goal.overflow_cast-bytes
overflow_cast-bytes g c = omega (arith, c.requires.fits)

pub class_of-class-requires-clause-some_byte : goal.class_of-class-requires-clause-some_byte
class_of-class-requires-clause-some_byte g c = c.requires.some_byte

pub class_of-class-requires-clause-fits_largest : goal.class_of-class-requires-clause-fits_largest
class_of-class-requires-clause-fits_largest g c = c.requires.fits

pub same-far-2 : goal.same-far-2
same-far-2 g c = refl

pub place_object-requires-clause-frames : goal.place_object-requires-clause-frames
place_object-requires-clause-frames g c = c.requires.sound.2.here.frames

pub returns-in_default-clause-error : goal.returns-in_default-clause-error
returns-in_default-clause-error g c = tt

pub write_new-requires-clause-some_byte : goal.write_new-requires-clause-some_byte
write_new-requires-clause-some_byte g c = c.requires.some_byte

pub write_new-requires-clause-fits : goal.write_new-requires-clause-fits
write_new-requires-clause-fits g c = c.requires.fits

pub write_new-requires-clause-config : goal.write_new-requires-clause-config
write_new-requires-clause-config g c = c.requires.config

pub returns-clause-error : goal.returns-clause-error
returns-clause-error g c = tt
