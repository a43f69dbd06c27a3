use Rattle.std.proofs.Common.{ℕ, ◌≤◌, List}
use Rattle.cb_gf256.specs.Block.{cut_rows}
use Rattle.cb_gf256.specs.Rows.{rows_at}
use Rattle.cb_gf256.specs.Placing.{Combined}
use Rattle.cb_gf256.proofs.sums.set_rest.Given as goal

abbrev pub invariant-loop-column : goal.invariant-loop-column
invariant-loop-column l =
    (l.from ≤ l.column)
    × ((before : List (List ℕ)) → Combined l.factors (rows_at l.rows l.sources) l.targets before (cut_rows l.count l.len l.initial.out) 0 l.from
    → Combined l.factors (rows_at l.rows l.sources) l.targets before (cut_rows l.count l.len l.out) 0 l.column)
