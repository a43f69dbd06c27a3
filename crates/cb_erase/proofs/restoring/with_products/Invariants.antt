use Rattle.std.proofs.Common.{◌≡◌, ℕ, ◌<◌, ◌≤◌, length, slice_index}
use Rattle.cb_gf256.specs.Sum.{◌⊕◌}
use Rattle.cb_gf256.specs.Product.{◌⊗◌}
use Rattle.cb_gf256.specs.Rows.{row_at, byte_at}
use Rattle.cb_gf256.specs.Lanes.{HasLanes}
use Rattle.cb_erase.proofs.restoring.with_products.Given as goal

abbrev pub invariant-loop-j : goal.invariant-loop-j
invariant-loop-j g l =
    (length l.more ≡ g.row.M)
    × ((m : ℕ) → m < l.j → HasLanes (row_at l.more m) (λ x. byte_at l.fn.sums m x ⊕ (byte_at l.products m l.i ⊗ slice_index l.block x)))
    × ((m : ℕ) → l.j ≤ m → row_at l.more m ≡ row_at l.fn.sums m)
