use Rattle.std.proofs.Common.{◌≡◌, ℕ, ◌<◌, length}
use Rattle.cb_gf256.specs.Rows.{row_at, HaveLength}
use Rattle.cb_erase.proofs.Tables.{HasFactors}
use Rattle.cb_erase.proofs.solving.lost_factors.Given as goal

abbrev pub invariant-loop-e : goal.invariant-loop-e
invariant-loop-e l = (length l.table ≡ 4) × HaveLength 16 l.table × ((m : ℕ) → m < l.e → HasFactors l.present l.lost m (row_at l.table m))
