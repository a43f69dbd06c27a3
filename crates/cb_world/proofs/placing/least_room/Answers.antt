use Rattle.std.proofs.Common.{ℕ, ◌<◌, List, IfSome, IfNone, subst}
use Rattle.cb_world.specs.FarState.{FarState}
use Rattle.cb_world.specs.OpenSpans.{MayTake}
use Rattle.cb_world.specs.Placed.{HasRoom}
use Rattle.cb_world.proofs.placing.least_room.Goals as goal

pub returns-clause-least : goal.returns-clause-least
returns-clause-least c = subst (λ (far : FarState). IfSome c.least_open.result
    (λ f. (g : ℕ) → g < f → ¬ (HasRoom far c.args.class c.args.temp g))) c.far.view_is
    (subst (λ (except : List ℕ). IfSome c.least_open.result
    (λ f. (g : ℕ) → g < f → ¬ (MayTake c.far.inside.spans c.args.class c.args.temp except g)))
    c.leaving_frames.ensures c.least_open.ensures.least)

pub returns-clause-none : goal.returns-clause-none
returns-clause-none c = subst (λ (far : FarState). IfNone c.least_open.result
    ((f : ℕ) → ¬ (HasRoom far c.args.class c.args.temp f))) c.far.view_is
    (subst (λ (except : List ℕ). IfNone c.least_open.result
    ((f : ℕ) → ¬ (MayTake c.far.inside.spans c.args.class c.args.temp except f)))
    c.leaving_frames.ensures c.least_open.ensures.none)
