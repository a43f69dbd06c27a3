use Rattle.std.proofs.Common.{◌≡◌, length}
use Rattle.cb_gf256.specs.Rows.{HaveLength}
use Rattle.cb_low_tests.proofs.codes.column_of.Given as goal

abbrev pub invariant-loop-i : goal.invariant-loop-i
invariant-loop-i l = (length l.rows ≡ length l.bytes) × HaveLength 64 l.rows
