use Rattle.std.proofs.Common.{◌≡◌, ℕ, ◌<◌, length}
use Rattle.cb_gf256.specs.Rows.{byte_at, HaveLength}
use Rattle.cb_erase.proofs.restoring.restore_whole.Given as goal

abbrev pub invariant-loop-j : goal.invariant-loop-j
invariant-loop-j l =
    (length l.products ≡ 3) × HaveLength 16 l.products
    × ((m i : ℕ) → m < l.j → i < length l.sources → byte_at l.products m i ≡ byte_at l.table m i)
