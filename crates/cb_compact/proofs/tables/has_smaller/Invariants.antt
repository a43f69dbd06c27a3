use Rattle.std.proofs.Common.{◌≡◌, ℕ, ◌-◌, ◌^◌, ◌<◌, false}
use Rattle.std.specs.Prelude.{slice_index_or}
use Rattle.std.specs.Int.{bit_at}
use Rattle.cb_compact.proofs.tables.has_smaller.Given as goal

abbrev pub invariant-loop-place : goal.invariant-loop-place
invariant-loop-place l = (bit : ℕ) → bit < l.place → bit_at l.mask bit ≡ 1
    → slice_index_or l.marks (l.mask - 2 ^ bit) false ≡ false
