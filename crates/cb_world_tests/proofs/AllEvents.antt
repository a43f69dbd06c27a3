-- Events that may all come, and one more.
use Rattle.std.proofs.Common.{List, [], ◌∷◌, ◌++◌}
use Rattle.std.specs.List.{AllByRecursion}
use Rattle.cb_types.specs.declared.config.Config.{Config}
use Rattle.cb_core.specs.declared.event.Event.{Event}
use Rattle.cb_core.specs.Events.{IsEvent}

pub all_push : (c : Config) (events : List Event) (e : Event) → AllByRecursion (IsEvent c) events
    → IsEvent c e → AllByRecursion (IsEvent c) (events ++ e ∷ [])
all_push c [] e all is = (is, tt)
all_push c (x ∷ events) e all is = (all.0, all_push c events e all.1 is)
