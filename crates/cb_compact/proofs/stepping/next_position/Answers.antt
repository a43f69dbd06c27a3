use Rattle.std.proofs.Common.{◌≤◌, ℕ, IfNone, IfSome, length, sym, ap, ◌∙◌, subst}
use Rattle.cb_set.specs.SetState.{SetState}
use Rattle.cb_world.specs.FarState.{FarState}
use Rattle.cb_world.specs.Joining.{JoiningState}
use Rattle.cb_compact.specs.PatchStep.{AreDone, IsNext}
use Rattle.cb_compact.proofs.Ready.{unwrapped}
use Rattle.cb_compact.proofs.stepping.next_position.Goals as goal

pub next_step-requires : goal.next_step-requires
next_step-requires c =
    let x = c.requires.fresh in
    subst (λ (q : JoiningState). length q.steps ≤ 20)
    (unwrapped c.as_ref.result c.unwrap-pair.result c.far.inside.joining x.0
    c.as_ref.ensures.value
    c.unwrap-pair.ensures (ap (λ (f : FarState). f.joining) c.far.view_is ∙ x.3.was)) x.4

pub returns-clause-next : goal.returns-clause-next
returns-clause-next c pair a b fresh =
    let e = unwrapped c.as_ref.result c.unwrap-pair.result c.far.inside.joining pair
    c.as_ref.ensures.value c.unwrap-pair.ensures
    (ap (λ (f : FarState). f.joining) c.far.view_is ∙ fresh.was) in
    subst (λ (q : JoiningState). IfSome c.next_step.result (IsNext q (length a.positions))) (sym
    e)
    (subst (λ (k : ℕ). IfSome c.next_step.result (IsNext c.unwrap-pair.result.now k))
    (c.k.ensures.count ∙ ap (λ (s : SetState). length s.positions)
    (c.first_set.ensures pair a b fresh)) c.next_step.ensures.next)

pub returns-clause-none : goal.returns-clause-none
returns-clause-none c pair a b fresh =
    let e = unwrapped c.as_ref.result c.unwrap-pair.result c.far.inside.joining pair
    c.as_ref.ensures.value c.unwrap-pair.ensures
    (ap (λ (f : FarState). f.joining) c.far.view_is ∙ fresh.was) in
    subst (λ (q : JoiningState). IfNone c.next_step.result (AreDone q (length a.positions))) (sym
    e)
    (subst (λ (k : ℕ). IfNone c.next_step.result (AreDone c.unwrap-pair.result.now k))
    (c.k.ensures.count ∙ ap (λ (s : SetState). length s.positions)
    (c.first_set.ensures pair a b fresh)) c.next_step.ensures.none)
