use Rattle.std.proofs.Common.{◌≡◌, length}
use Rattle.cb_gf256.specs.Rows.{HaveLength}
use Rattle.cb_low_tests.proofs.codes.present_rows.Given as goal

abbrev pub invariant-loop-p : goal.invariant-loop-p
invariant-loop-p g l = (length l.rows ≡ length l.word) × HaveLength 94 l.rows
