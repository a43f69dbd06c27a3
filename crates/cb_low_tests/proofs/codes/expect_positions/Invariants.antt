use Rattle.std.proofs.Common.{ℕ, ◌+◌, ◌<◌, slice_index}
use Rattle.cb_low_tests.proofs.codes.expect_positions.Given as goal

abbrev pub invariant-loop-i : goal.invariant-loop-i
invariant-loop-i g l = ((m : ℕ) → m < l.i → slice_index l.positions m < l.n) × ((m : ℕ) → m + 1 < l.i → slice_index l.positions m < slice_index l.positions (m + 1))
