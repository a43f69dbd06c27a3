use Rattle.cb_local.proofs.Gathering.{AreGiven}
use Rattle.cb_local.proofs.fetching.give_rows.Given as goal

abbrev pub invariant-loop-i : goal.invariant-loop-i
invariant-loop-i l = AreGiven l.initial.nodes l.nodes l.shards l.positions l.initial.table l.table
    l.i
