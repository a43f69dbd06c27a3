use Rattle.std.proofs.Common.{List, sym, subst}
use Rattle.std.specs.List.{AllByRecursion}
use Rattle.cb_types.specs.declared.config.Config.{Config}
use Rattle.cb_core.specs.declared.event.Event.{Event}
use Rattle.cb_core.specs.Events.{IsEvent}
use Rattle.cb_world.specs.World.{WorldState}
use Rattle.cb_world_tests.proofs.seats.are_told_in_a_run.Goals as goal

pub run-requires-clause-events : goal.run-requires-clause-events
run-requires-clause-events c =
    let events = subst (λ (all : List Event). AllByRecursion (IsEvent c.config-config.result) all)
    (sym c.as_slice.ensures.value) c.in_ok-events.ensures in
    subst (λ (w : WorldState). AllByRecursion (IsEvent w.desk.settings) c.as_slice.result.now)
    c.world.view_is
    (subst (λ (s : Config). AllByRecursion (IsEvent s) c.as_slice.result.now)
    c.config-config.ensures events)
