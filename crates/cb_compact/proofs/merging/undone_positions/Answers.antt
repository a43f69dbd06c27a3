use Rattle.std.proofs.Common.{◌≤◌, length, sym, ap, ap₂, ◌∙◌, subst}
use Rattle.cb_set.specs.SetState.{SetState}
use Rattle.cb_world.specs.FarState.{FarState}
use Rattle.cb_world.specs.Joining.{JoiningState}
use Rattle.cb_compact.specs.PatchStep.{undone}
use Rattle.cb_compact.proofs.Ready.{unwrapped}
use Rattle.cb_compact.proofs.merging.undone_positions.Goals as goal

pub undone_steps-requires : goal.undone_steps-requires
undone_steps-requires c =
    let x = c.requires.fresh in
    subst (λ (q : JoiningState). length q.steps ≤ 20)
    (unwrapped c.as_ref.result c.unwrap-pair.result c.far.inside.joining x.0 c.as_ref.ensures.value
    c.unwrap-pair.ensures (ap (λ (f : FarState). f.joining) c.far.view_is ∙ x.3.was)) x.4

pub returns : goal.returns
returns c pair a b fresh =
    let e = unwrapped c.as_ref.result c.unwrap-pair.result c.far.inside.joining pair
    c.as_ref.ensures.value c.unwrap-pair.ensures
    (ap (λ (f : FarState). f.joining) c.far.view_is ∙ fresh.was) in
    c.undone_steps.ensures ∙ ap₂ undone (sym e)
    (c.k.ensures.count ∙ ap (λ (s : SetState). length s.positions)
    (c.first_set.ensures pair a b fresh))
