use Rattle.std.proofs.Common.{◌≡◌, ◌<◌, ℕ, length}
use Rattle.cb_gf256.specs.Rows.{row_at, HaveLength}
use Rattle.cb_world.proofs.leaving.copy_rows.Given as goal

-- the earlier rows were copied
abbrev pub invariant-loop-at : goal.invariant-loop-at
invariant-loop-at l = (length l.into ≡ length l.from)
    × ((len : ℕ) → HaveLength len l.initial.into → HaveLength len l.into)
    × ((i : ℕ) → i < l.at → row_at l.into i ≡ row_at l.from i)
