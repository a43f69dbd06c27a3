use Rattle.std.proofs.Common.{◌≡◌, ℕ, ◌<◌, ◌≤◌, get_or}
use Rattle.cb_gf256.specs.Row.{row_sum, scaled_row}
use Rattle.cb_node.proofs.row.add_change.Given as goal

abbrev pub invariant-loop-i : goal.invariant-loop-i
invariant-loop-i l = record {
  changed : (k : ℕ) → k < l.i
      → get_or l.row k 0 ≡ get_or
      (row_sum l.initial.row (scaled_row l.c (row_sum l.initial.row l.other))) k 0;
  untouched : (k : ℕ) → l.i ≤ k → get_or l.row k 0 ≡ get_or l.initial.row k 0;
}
