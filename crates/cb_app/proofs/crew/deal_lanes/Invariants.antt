use Rattle.cb_shared.specs.Passes.{record_of}
use Rattle.std.specs.List.{AllByRecursion}
use Rattle.cb_app.specs.Crew.{IsDealt}
use Rattle.cb_app.specs.CrewTurns.{IsLane, bodies_of}
use Rattle.cb_app.proofs.crew.deal_lanes.Given as goal

-- the tasks of the lanes so far
abbrev pub invariant-loop-before : goal.invariant-loop-before
invariant-loop-before l = record {
  dealt : IsDealt l.fn.shared l.fn.lines l.before l.before (record_of l.fn.pass) l.tasks.items l.pass;
  lanes : AllByRecursion IsLane (bodies_of l.tasks.items);
}
