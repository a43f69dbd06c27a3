use Rattle.std.proofs.Common.{◌≡◌, length}
use Rattle.cb_bench.proofs.varied_rows.Given as goal

abbrev pub invariant-loop-i : goal.invariant-loop-i
invariant-loop-i l = length l.rows ≡ l.count
