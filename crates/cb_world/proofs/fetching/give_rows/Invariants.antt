use Rattle.cb_world.proofs.Gathering.{Given}
use Rattle.cb_world.proofs.fetching.give_rows.Given as goal

abbrev pub invariant-loop-position : goal.invariant-loop-position
invariant-loop-position l =
    Given l.set.pages l.initial.nodes l.nodes l.set.shards l.positions l.initial.table l.table l.position-index
