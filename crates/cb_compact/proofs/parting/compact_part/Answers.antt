use Rattle.std.proofs.Common.{◌≡◌, not, is_some, refl, sym, ap, subst, ◌∙◌, inl, inr}
use Rattle.cb_world.specs.FarState.{FarState}
use Rattle.cb_world.specs.Now.{now}
use Rattle.cb_world.specs.Reserved.{put_shards}
use Rattle.cb_world.specs.Sound.{Sound}
use Rattle.cb_compact.proofs.CompactKeeps.{dropped_given, parted_keeps, steps_there}
use Rattle.cb_compact.proofs.Looked.{none_pair, some_pair}
use Rattle.cb_compact.proofs.parting.compact_part.Goals as goal

pub give_up-requires : goal.give_up-requires
give_up-requires g c =
    let far = c.args.far.now in
    let x = some_pair far.joining (ap (λ (f : FarState). is_some f.joining) (sym c.far.view_is)
    ∙ c.is_none.ensures ∙ ap not c.if-is_none.false) in
    record { there = (x.0, x.1, steps_there far x.0 c.requires.sound.2.away.sound.rows x.1) }

pub returns-clause-step : goal.returns-clause-step
returns-clause-step g c =
    let far = c.args.far.now in
    let x = some_pair far.joining (ap (λ (f : FarState). is_some f.joining) (sym c.far.view_is)
    ∙ c.is_none.ensures ∙ ap not c.if-is_none.false) in
    inr (record { pair = x.0; there = x.1; reply = refl; state = c.give_up.ensures x.0 x.1 })

pub returns-clause-sound : goal.returns-clause-sound
returns-clause-sound g c s sound =
    let far = c.args.far.now in
    let x = some_pair far.joining (ap (λ (f : FarState). is_some f.joining) (sym c.far.view_is)
    ∙ c.is_none.ensures ∙ ap not c.if-is_none.false) in
    subst (Sound s) (sym (c.give_up.ensures x.0 x.1)) (parted_keeps s far x.0 sound x.1).sound

pub returns-clause-now : goal.returns-clause-now
returns-clause-now g c s h sound =
    let far = c.args.far.now in
    let x = some_pair far.joining (ap (λ (f : FarState). is_some f.joining) (sym c.far.view_is)
    ∙ c.is_none.ensures ∙ ap not c.if-is_none.false) in
    subst (λ (f : FarState). now s f h ≡ now s far h) (sym (c.give_up.ensures x.0 x.1))
    ((parted_keeps s far x.0 sound x.1).same_now h)

pub returns-clause-given : goal.returns-clause-given
returns-clause-given g c =
    let far = c.args.far.now in
    let x = some_pair far.joining (ap (λ (f : FarState). is_some f.joining) (sym c.far.view_is)
    ∙ c.is_none.ensures ∙ ap not c.if-is_none.false) in
    ap (λ (f : FarState). f.nodes.given) (c.give_up.ensures x.0 x.1)
    ∙ dropped_given far.nodes (put_shards x.0.steps)

pub returns-then-is_none-clause-step : goal.returns-then-is_none-clause-step
returns-then-is_none-clause-step g c =
    let far = c.args.far.now in
    inl (record {
      none = none_pair far.joining (ap (λ (f : FarState). is_some f.joining) (sym c.far.view_is)
          ∙ c.is_none.ensures ∙ ap not c.if-is_none.true);
      reply = refl;
      state = refl;
    })
