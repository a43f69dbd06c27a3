use Rattle.std.proofs.Common.{refl, sym, ap, ◌∙◌, subst, inl, inr}
use Rattle.cb_world.specs.FarState.{FarState}
use Rattle.cb_world.specs.Now.{now}
use Rattle.cb_world.specs.Reserved.{put_shards}
use Rattle.cb_world.specs.Sound.{Sound}
use Rattle.cb_compact.proofs.CompactKeeps.{dropped_given, parted_keeps, steps_there}
use Rattle.cb_compact.proofs.PatchSound.{patch_ends, patch_ends_given, steps_on}
use Rattle.cb_compact.proofs.stepping.compact_step.Goals as goal

pub how_it_stands-requires : goal.how_it_stands-requires
how_it_stands-requires g c =
    record { sound = (c.requires.sound.0, c.requires.sound.2.away.sound) }

pub give_up-requires : goal.give_up-requires
give_up-requires g c =
    let x = c.in-Changed.ensures in
    record {
      there = (
        x.0,
        x.1,
        steps_there c.args.far.now x.0 c.requires.sound.2.away.sound.rows
            x.1,
      );
    }

pub step_on-requires-clause-sound : goal.step_on-requires-clause-sound
step_on-requires-clause-sound g c = (c.requires.sound.0, c.requires.sound.2.away)

pub step_on-requires-clause-fresh : goal.step_on-requires-clause-fresh
step_on-requires-clause-fresh g c = c.in-Fresh.ensures

pub step_on-requires-clause-keys : goal.step_on-requires-clause-keys
step_on-requires-clause-keys g c = c.requires.keys

pub returns-in-NoPair-clause-step : goal.returns-in-NoPair-clause-step
returns-in-NoPair-clause-step g c = inl (record {
  none = c.in-NoPair.ensures;
  reply = refl;
  state
      = refl;
})

pub returns-in-Changed-clause-step : goal.returns-in-Changed-clause-step
returns-in-Changed-clause-step g c = let x = c.in-Changed.ensures in inr (inl (record {
  pair = x.0;
  there = x.1;
  id = c.in-Changed.id;
  changed = x.2;
  reply = refl;
  state = c.give_up.ensures x.0 x.1;
}))

pub returns-in-Changed-clause-sound : goal.returns-in-Changed-clause-sound
returns-in-Changed-clause-sound g c s sound = let x = c.in-Changed.ensures in
    subst (Sound s) (sym (c.give_up.ensures x.0 x.1))
    (parted_keeps s c.args.far.now x.0 sound x.1).sound

pub returns-in-Changed-clause-now : goal.returns-in-Changed-clause-now
returns-in-Changed-clause-now g c s h sound = let x = c.in-Changed.ensures in
    ap (λ (f : FarState). now s f h) (c.give_up.ensures x.0 x.1)
    ∙ (parted_keeps s c.args.far.now x.0 sound x.1).same_now h

pub returns-in-Changed-clause-given : goal.returns-in-Changed-clause-given
returns-in-Changed-clause-given g c = let x = c.in-Changed.ensures in
    ap (λ (f : FarState). f.nodes.given) (c.give_up.ensures x.0 x.1)
    ∙ dropped_given c.args.far.now.nodes (put_shards x.0.steps)

pub returns-in-Fresh-clause-step : goal.returns-in-Fresh-clause-step
returns-in-Fresh-clause-step g c = let x = c.in-Fresh.ensures in
    steps_on c.args.far.now c.step_on.new.far x.0 x.1 x.2 c.step_on.result x.3
    c.step_on.ensures.step

pub returns-in-Fresh-clause-error : goal.returns-in-Fresh-clause-error
returns-in-Fresh-clause-error g c = c.step_on.ensures.error

pub returns-in-Fresh-clause-sound : goal.returns-in-Fresh-clause-sound
returns-in-Fresh-clause-sound g c s sound = let x = c.in-Fresh.ensures in
    (patch_ends s c.args.far.now c.step_on.new.far c.step_on.result sound
    (steps_on c.args.far.now c.step_on.new.far x.0 x.1 x.2 c.step_on.result x.3
    c.step_on.ensures.step)
    c.step_on.ensures.error).sound

pub returns-in-Fresh-clause-now : goal.returns-in-Fresh-clause-now
returns-in-Fresh-clause-now g c s h sound = let x = c.in-Fresh.ensures in
    (patch_ends s c.args.far.now c.step_on.new.far c.step_on.result sound
    (steps_on c.args.far.now c.step_on.new.far x.0 x.1 x.2 c.step_on.result x.3
    c.step_on.ensures.step)
    c.step_on.ensures.error).same_now h

pub returns-in-Fresh-clause-given : goal.returns-in-Fresh-clause-given
returns-in-Fresh-clause-given g c = let x = c.in-Fresh.ensures in
    patch_ends_given c.args.far.now c.step_on.new.far c.step_on.result
    (steps_on c.args.far.now c.step_on.new.far x.0 x.1 x.2 c.step_on.result x.3
    c.step_on.ensures.step)
    c.step_on.ensures.error
