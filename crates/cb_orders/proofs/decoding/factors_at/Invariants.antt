use Rattle.std.proofs.Common.{◌≡◌, ℕ, ◌<◌, length, slice_index}
use Rattle.cb_gf256.specs.Rows.{byte_at}
use Rattle.cb_orders.proofs.decoding.factors_at.Given as goal

abbrev pub invariant-loop-i : goal.invariant-loop-i
invariant-loop-i l = (length l.factors ≡ 16)
    × ((m : ℕ) → m < l.i → slice_index l.factors m ≡ byte_at l.weights l.position m)
