use Rattle.std.proofs.Common.{◌≡◌, ℕ, ◌<◌, length, get_or}
use Rattle.cb_gf256.specs.Sum.{◌⊕◌, sum_over}
use Rattle.cb_gf256.specs.Rows.{row_at, byte_at}
use Rattle.cb_gf256.specs.Lanes.{HasLanes}
use Rattle.cb_gf256.proofs.closing.with_last_sum.Given as goal

abbrev pub invariant-loop-j : goal.invariant-loop-j
invariant-loop-j g l =
    (length l.all ≡ g.row.R) × ((m : ℕ) → m < l.j → row_at l.all m ≡ row_at l.fn.sums m)
    × HasLanes (row_at l.all g.row.M) (λ x. get_or l.fn.plain x 0 ⊕ sum_over l.j (λ m. byte_at l.fn.sums m x))
