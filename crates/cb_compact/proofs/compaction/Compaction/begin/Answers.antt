use Rattle.std.proofs.Common.{◌≡◌, ℕ, IfSome, Option, None, Some, refl, sym, ap, subst, ◌∙◌, inr}
use Rattle.cb_set.specs.SetState.{SetState}
use Rattle.cb_world.specs.FarState.{FarState}
use Rattle.cb_world.specs.Joining.{JoiningState}
use Rattle.cb_world.specs.Pairs.{with_no_pair}
use Rattle.cb_world.specs.Sets.{set_in}
use Rattle.cb_world.specs.Sound.{Sound}
use Rattle.cb_world.proofs.Laws.{no_pair_sound}
use Rattle.cb_compact.specs.declared.candidates.Match.{Match}
use Rattle.cb_compact.specs.PairStep.{IsFirstPair, begun_pair, with_pair}
use Rattle.cb_compact.proofs.PairSound.{begun_keeps}
use Rattle.cb_compact.proofs.TableExists.{table_exists}
use Rattle.cb_compact.proofs.compaction.Compaction.begin.Goals as goal

-- a look has changed nothing
still : (far new : FarState) (id : ℕ) (set : SetState) → new ≡ far → set_in far.sets id ≡ Some set
    → set_in new.sets id ≡ Some set
still far new id set same at = ap (λ (f : FarState). set_in f.sets id) same ∙ at

begun_from : (far new : FarState) (x y : ℕ) (a b : SetState) (pair : JoiningState) → new ≡ far
    → set_in far.sets x ≡ Some a → set_in far.sets y ≡ Some b
    → ((c d : SetState) → set_in new.sets x ≡ Some c → set_in new.sets y ≡ Some d
    → pair ≡ begun_pair x y c d) → with_pair new pair ≡ with_pair far (begun_pair x y a b)
begun_from far new x y a b pair same at_a at_b is =
    let pairs = is a b (still far new x a same at_a) (still far new y b same at_b) in
    λ i. with_pair (same i) (pairs i)

none_joins : (c : goal.After-put_pair-arg-1) → c.args.far.now.joining ≡ None
none_joins c = ap (λ (f : FarState). f.joining) (sym c.far.view_is) ∙ c.in_default.is

pub new_pair-requires : goal.new_pair-requires
new_pair-requires c =
    let far = c.args.far.now in
    let x = subst (λ (o : Option Match). IfSome o (λ m. (a : SetState) × (b : SetState)
    × IsFirstPair far m.a.id m.b.id a b)) c.in-Some-2.is c.in_ok-found.ensures.found in
    record {
      there = (
        x.0,
        x.1,
        still c.args.far.now c.look.new.far c.in-Some-2.found.a.id x.0 c.look.ensures.same
            x.2.can.a_there,
        still c.args.far.now c.look.new.far c.in-Some-2.found.b.id x.1 c.look.ensures.same
            x.2.can.b_there,
      );
    }

pub put_pair-requires : goal.put_pair-requires
put_pair-requires c = ap (λ (f : FarState). f.joining) c.look.ensures.same ∙ none_joins c

pub returns-in_default-2-clause-sound : goal.returns-in_default-2-clause-sound
returns-in_default-2-clause-sound c s sound =
    subst (Sound s) (sym (c.note_none.ensures ∙ ap with_no_pair c.look.ensures.same))
    (no_pair_sound s c.args.far.now sound)

pub returns-clause-step : goal.returns-clause-step
returns-clause-step c =
    let far = c.args.far.now in
    let x = subst (λ (o : Option Match). IfSome o (λ m. (a : SetState) × (b : SetState)
    × IsFirstPair far m.a.id m.b.id a b)) c.in-Some-2.is c.in_ok-found.ensures.found in
    inr (inr (record {
      none = ap (λ (f : FarState). f.joining) (sym c.far.view_is) ∙ c.in_default.is;
      x = c.in-Some-2.found.a.id;
      y = c.in-Some-2.found.b.id;
      a = x.0;
      b = x.1;
      first = x.2;
      reply = refl;
      state = c.put_pair.ensures ∙ begun_from far c.look.new.far c.in-Some-2.found.a.id
          c.in-Some-2.found.b.id x.0 x.1 c.in_ok-pair.pair c.look.ensures.same x.2.can.a_there
          x.2.can.b_there c.in_ok-pair.ensures;
    }))

pub returns-clause-sound : goal.returns-clause-sound
returns-clause-sound c s sound =
    let far = c.args.far.now in
    let x = subst (λ (o : Option Match). IfSome o (λ m. (a : SetState) × (b : SetState)
    × IsFirstPair far m.a.id m.b.id a b)) c.in-Some-2.is c.in_ok-found.ensures.found in
    let range = (sound.away.sound.sets.shaped c.in-Some-2.found.a.id x.0 x.2.can.a_there).range in
    let table = table_exists _ _ range in
    subst (Sound s) (sym (c.put_pair.ensures ∙ begun_from far c.look.new.far
    c.in-Some-2.found.a.id c.in-Some-2.found.b.id x.0 x.1 c.in_ok-pair.pair c.look.ensures.same
    x.2.can.a_there x.2.can.b_there c.in_ok-pair.ensures))
    (begun_keeps s far c.in-Some-2.found.a.id c.in-Some-2.found.b.id x.0 x.1 table.0 sound
    (ap (λ (f : FarState). f.joining) (sym c.far.view_is) ∙ c.in_default.is) x.2 table.1).sound
