use Rattle.std.specs.List.{AllByRecursion}
use Rattle.cb_core.specs.Events.{IsEvent}
use Rattle.cb_world_tests.proofs.seats.events_of.Given as goal

-- the events so far may come
abbrev pub invariant-loop-row : goal.invariant-loop-row
invariant-loop-row l = AllByRecursion (IsEvent l.config) l.events.items
