use Rattle.std.proofs.Common.{sym, ap, ◌∙◌, refl}
use Rattle.std.specs.Option.{option_map}
use Rattle.cb_world.specs.FarState.{FarState}
use Rattle.cb_evict.proofs.Composed.{any_err}
use Rattle.cb_evict.proofs.BeginParts.{number_of, none_leaving, begins_not}
use Rattle.cb_evict.proofs.beginning.begin_with.Goals as goal

pub returns-in-Some-clause-begun : goal.returns-in-Some-clause-begun
returns-in-Some-clause-begun g c = begins_not c.args.far.now c.args.made _
    c.in-Some.set (λ es. g.D.Desk.run c.args.desk.now es c.args.desk.now)
    (λ s. g.D.Desk.shows c.args.desk.now s)
    (sym (sym c.in-Some.is ∙ c.leaving_set.ensures
    ∙ ap (λ (far : FarState). option_map number_of far.leaving) c.far.view_is))
    refl (g.met.D.Desk.none _)

pub begin_new-requires-clause-none : goal.begin_new-requires-clause-none
begin_new-requires-clause-none g c = none_leaving c.args.far.now.leaving
    (sym (sym c.in-None.is ∙ c.leaving_set.ensures
    ∙ ap (λ (far : FarState). option_map number_of far.leaving) c.far.view_is))

pub returns-in-None-clause-none : goal.returns-in-None-clause-none
returns-in-None-clause-none g c = any_err _ _ (none_leaving c.args.far.now.leaving
    (sym (sym c.in-None.is ∙ c.leaving_set.ensures
    ∙ ap (λ (far : FarState). option_map number_of far.leaving) c.far.view_is)))
