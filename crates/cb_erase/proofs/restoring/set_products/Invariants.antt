use Rattle.std.proofs.Common.{◌≡◌, ℕ, ◌<◌, length, slice_index}
use Rattle.cb_erase.proofs.restoring.set_products.Given as goal

abbrev pub invariant-loop-i : goal.invariant-loop-i
invariant-loop-i l = (length l.products ≡ 16) × ((m : ℕ) → m < l.i → slice_index l.products m ≡ slice_index l.row m)
