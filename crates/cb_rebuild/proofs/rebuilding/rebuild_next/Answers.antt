use Rattle.std.proofs.Common.{◌≤◌, ◌<◌, ◌+◌, ◌^◌, ℕ, length, sym, ap, subst, arith, inl}
use Rattle.cb_set.specs.SetState.{SetState}
use Rattle.cb_types.specs.declared.config.Field.TheVariants.{Handles, Nodes}
use Rattle.cb_types.specs.declared.reply.Reply.TheVariants as answer
use Rattle.cb_world.specs.declared.shown.Shown.{Shown}
use Rattle.cb_world.specs.FarState.{FarState}
use Rattle.cb_world.specs.FarSound.{AwaySound}
use Rattle.cb_rebuild.specs.RebuildStep.{FindsNone, IsFirstWeak}
use Rattle.cb_rebuild.proofs.RebuildKeeps.{RestoringEnds, error_first, first_still, found_weak, found_whole, keeps, keeps_first, keeps_none, steps_first}
use Rattle.cb_rebuild.proofs.rebuilding.rebuild_next.Goals as goal

pub find_weak-found-requires-clause-homes : goal.find_weak-found-requires-clause-homes
find_weak-found-requires-clause-homes g c =
    let n = c.requires.configured.homes in let most = (c.requires.config Handles).1 in
    omega (arith, n, most)

pub restore-requires-clause-few : goal.restore-requires-clause-few
restore-requires-clause-few g c =
    let far = c.args.far.now in let x = c.in-Weak.ensures in
    let now = found_weak far c.keep_found.new.far _ c.in-Weak.id c.in-Weak.gone c.keep_found.ensures
    c.in-Weak.is x.1 in
    let n = c.requires.configured.nodes in let most = (c.requires.config Nodes).1 in
    subst (λ (q : FarState). length q.nodes.nodes ≤ 256) (sym now) (omega (arith, n, most))

pub restore-requires-clause-sound : goal.restore-requires-clause-sound
restore-requires-clause-sound g c =
    let far = c.args.far.now in let x = c.in-Weak.ensures in let had = c.requires.sound in
    let now = found_weak far c.keep_found.new.far _ c.in-Weak.id c.in-Weak.gone c.keep_found.ensures
    c.in-Weak.is x.1 in
    subst (λ (q : FarState). (s : Shown) × AwaySound s q) (sym now)
    (had.0, (keeps_first had.0 far c.in-Weak.id x.0.0 had.2 x.0.1).sound.away.sound)

pub restore-requires-clause-first : goal.restore-requires-clause-first
restore-requires-clause-first g c =
    let far = c.args.far.now in let x = c.in-Weak.ensures in let id = c.in-Weak.id in
    let now = found_weak far c.keep_found.new.far _ id c.in-Weak.gone c.keep_found.ensures c.in-Weak.is
    x.1 in
    subst (λ (q : FarState). (set : SetState) × IsFirstWeak q id set) (sym now)
    (x.0.0, first_still far id id x.0.0 x.0.1)

pub restore-requires-clause-given : goal.restore-requires-clause-given
restore-requires-clause-given g c =
    let far = c.args.far.now in let x = c.in-Weak.ensures in
    let now = found_weak far c.keep_found.new.far _ c.in-Weak.id c.in-Weak.gone c.keep_found.ensures
    c.in-Weak.is x.1 in
    subst (λ (q : FarState). q.nodes.given + 16 < 2 ^ 64) (sym now) c.requires.given

pub restore-requires-clause-keys : goal.restore-requires-clause-keys
restore-requires-clause-keys g c =
    let far = c.args.far.now in let x = c.in-Weak.ensures in
    let now = found_weak far c.keep_found.new.far _ c.in-Weak.id c.in-Weak.gone c.keep_found.ensures
    c.in-Weak.is x.1 in
    subst (λ (q : FarState). q.counts.keys < 2 ^ 62) (sym now) c.requires.keys

pub returns-in-Weak-clause-step : goal.returns-in-Weak-clause-step
returns-in-Weak-clause-step g c =
    let far = c.args.far.now in let x = c.in-Weak.ensures in let id = c.in-Weak.id in
    let new = c.restore.new.far in
    let now = found_weak far c.keep_found.new.far _ id c.in-Weak.gone c.keep_found.ensures c.in-Weak.is
    x.1 in
    let ends = subst (λ (q : FarState). RestoringEnds q new id c.restore.result) now
    (record { step = c.restore.ensures.step; error = c.restore.ensures.error }) in
    steps_first far new id c.restore.result x.0 ends

pub returns-in-Weak-clause-error : goal.returns-in-Weak-clause-error
returns-in-Weak-clause-error g c =
    let far = c.args.far.now in let x = c.in-Weak.ensures in let id = c.in-Weak.id in
    let new = c.restore.new.far in
    let now = found_weak far c.keep_found.new.far _ id c.in-Weak.gone c.keep_found.ensures c.in-Weak.is
    x.1 in
    let ends = subst (λ (q : FarState). RestoringEnds q new id c.restore.result) now
    (record { step = c.restore.ensures.step; error = c.restore.ensures.error }) in
    error_first far new id c.restore.result x.0 ends

pub returns-in-Weak-clause-sound : goal.returns-in-Weak-clause-sound
returns-in-Weak-clause-sound g c = λ s sound.
    let far = c.args.far.now in let x = c.in-Weak.ensures in let id = c.in-Weak.id in
    let new = c.restore.new.far in
    let now = found_weak far c.keep_found.new.far _ id c.in-Weak.gone c.keep_found.ensures c.in-Weak.is
    x.1 in
    let ends = subst (λ (q : FarState). RestoringEnds q new id c.restore.result) now
    (record { step = c.restore.ensures.step; error = c.restore.ensures.error }) in
    (keeps s far new id c.restore.result sound x.0 ends).sound

pub returns-in-Weak-clause-now : goal.returns-in-Weak-clause-now
returns-in-Weak-clause-now g c = λ s h sound.
    let far = c.args.far.now in let x = c.in-Weak.ensures in let id = c.in-Weak.id in
    let new = c.restore.new.far in
    let now = found_weak far c.keep_found.new.far _ id c.in-Weak.gone c.keep_found.ensures c.in-Weak.is
    x.1 in
    let ends = subst (λ (q : FarState). RestoringEnds q new id c.restore.result) now
    (record { step = c.restore.ensures.step; error = c.restore.ensures.error }) in
    (keeps s far new id c.restore.result sound x.0 ends).same_now h

pub returns-in-Weak-clause-words : goal.returns-in-Weak-clause-words
returns-in-Weak-clause-words g c = λ s sound.
    let far = c.args.far.now in let x = c.in-Weak.ensures in let id = c.in-Weak.id in
    let new = c.restore.new.far in
    let now = found_weak far c.keep_found.new.far _ id c.in-Weak.gone c.keep_found.ensures c.in-Weak.is
    x.1 in
    let ends = subst (λ (q : FarState). RestoringEnds q new id c.restore.result) now
    (record { step = c.restore.ensures.step; error = c.restore.ensures.error }) in
    (keeps s far new id c.restore.result sound x.0 ends).words

pub returns-in-Whole-clause-step : goal.returns-in-Whole-clause-step
returns-in-Whole-clause-step g c =
    let far = c.args.far.now in let x = c.in-Whole.ensures in
    let now = found_whole far c.keep_found.new.far _ c.in-Whole.gone c.keep_found.ensures c.in-Whole.is
    x.1 in
    let none : FindsNone far c.keep_found.new.far (answer.Whole c.in-Whole.gone) = record {
      none = x.0;
      reply = ap (λ (n : ℕ). answer.Whole n) x.1;
      state = now;
    } in
    inl none

pub returns-in-Whole-clause-sound : goal.returns-in-Whole-clause-sound
returns-in-Whole-clause-sound g c = λ s sound.
    let far = c.args.far.now in let x = c.in-Whole.ensures in
    let now = found_whole far c.keep_found.new.far _ c.in-Whole.gone c.keep_found.ensures c.in-Whole.is
    x.1 in
    let none : FindsNone far c.keep_found.new.far (answer.Whole c.in-Whole.gone) = record {
      none = x.0;
      reply = ap (λ (n : ℕ). answer.Whole n) x.1;
      state = now;
    } in
    (keeps_none s far c.keep_found.new.far (answer.Whole c.in-Whole.gone) sound none).sound

pub returns-in-Whole-clause-now : goal.returns-in-Whole-clause-now
returns-in-Whole-clause-now g c = λ s h sound.
    let far = c.args.far.now in let x = c.in-Whole.ensures in
    let now = found_whole far c.keep_found.new.far _ c.in-Whole.gone c.keep_found.ensures c.in-Whole.is
    x.1 in
    let none : FindsNone far c.keep_found.new.far (answer.Whole c.in-Whole.gone) = record {
      none = x.0;
      reply = ap (λ (n : ℕ). answer.Whole n) x.1;
      state = now;
    } in
    (keeps_none s far c.keep_found.new.far (answer.Whole c.in-Whole.gone) sound none).same_now h

pub returns-in-Whole-clause-words : goal.returns-in-Whole-clause-words
returns-in-Whole-clause-words g c = λ s sound.
    let far = c.args.far.now in let x = c.in-Whole.ensures in
    let now = found_whole far c.keep_found.new.far _ c.in-Whole.gone c.keep_found.ensures c.in-Whole.is
    x.1 in
    let none : FindsNone far c.keep_found.new.far (answer.Whole c.in-Whole.gone) = record {
      none = x.0;
      reply = ap (λ (n : ℕ). answer.Whole n) x.1;
      state = now;
    } in
    (keeps_none s far c.keep_found.new.far (answer.Whole c.in-Whole.gone) sound none).words
