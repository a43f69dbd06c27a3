use Rattle.std.proofs.Common.{◌≡◌, ℕ, ◌+◌, ◌<◌, length, slice_index}
use Rattle.cb_local.proofs.fetching.parity_positions.Given as goal

abbrev pub invariant-loop-e : goal.invariant-loop-e
invariant-loop-e l = (length l.positions ≡ 4)
    × ((m : ℕ) → m < l.e → slice_index l.positions m ≡ l.k + m)
