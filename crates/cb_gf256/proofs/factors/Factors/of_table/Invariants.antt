use Rattle.std.proofs.Common.{◌≡◌, ℕ, ◌<◌, length}
use Rattle.cb_gf256.specs.Rows.{byte_at, HaveLength}
use Rattle.cb_gf256.proofs.factors.Factors.of_table.Given as goal

abbrev pub invariant-loop-j : goal.invariant-loop-j
invariant-loop-j l =
    (length l.products ≡ 4) × HaveLength 16 l.products
    × ((m i : ℕ) → m < l.j → i < l.width → byte_at l.products m i ≡ byte_at l.table m i)
