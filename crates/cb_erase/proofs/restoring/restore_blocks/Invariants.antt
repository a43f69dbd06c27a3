use Rattle.std.proofs.Common.{◌≡◌, ℕ, ◌*◌, ◌/◌, List, length}
use Rattle.cb_gf256.specs.Rows.{rows_at, HaveLength}
use Rattle.cb_gf256.specs.Placing.{Restored}
use Rattle.cb_erase.specs.Closing.{Closes}
use Rattle.cb_erase.proofs.restoring.restore_blocks.Given as goal

abbrev pub invariant-loop-block : goal.invariant-loop-block
invariant-loop-block g l =
    (length l.out ≡ length l.initial.out)
    × HaveLength l.len l.out
    × ((whole : List (List ℕ)) → Closes g.row.M (length l.sources) l.len l.products (rows_at l.rows l.sources) whole
    → Restored whole (rows_at l.rows l.sources) l.targets l.sources l.initial.out l.out (l.block * 64) (l.len / 64 * 64))
