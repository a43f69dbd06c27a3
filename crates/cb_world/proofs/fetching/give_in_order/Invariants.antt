use Rattle.cb_world.proofs.FetchedRows.{InOrder}
use Rattle.cb_world.proofs.fetching.give_in_order.Given as goal

abbrev pub invariant-loop-i : goal.invariant-loop-i
invariant-loop-i l =
    InOrder l.set.pages l.initial.nodes l.nodes l.set.shards l.positions l.initial.table l.table l.i
