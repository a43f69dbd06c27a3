use Rattle.cb_gf256.specs.Rows.{row_at}
use Rattle.cb_compact.proofs.Adding.{AreAdded}
use Rattle.cb_compact.proofs.deltas.add_deltas.Given as goal

abbrev pub invariant-loop-position : goal.invariant-loop-position
invariant-loop-position l =
    AreAdded l.fn.nodes l.nodes l.to (row_at l.table l.parity) l.a l.b l.taken l.position-index
