use Rattle.std.proofs.Common.{◌≡◌, ◌*◌, ◌<◌, ℕ, List, Some, length}
use Rattle.std.specs.List.{slice_get}
use Rattle.cb_gf256.specs.Rows.{row_at, HaveLength}
use Rattle.cb_world.specs.declared.access.Access.{Access}
use Rattle.cb_evict.specs.Loading.{LiesInRuns, OnlyLoads, IsRowOfRun}
use Rattle.cb_evict.proofs.loading.load_spans.Given as goal

-- the earlier spans were read
abbrev pub invariant-loop-p : goal.invariant-loop-p
invariant-loop-p g l = (es : List Access) × g.D.Desk.run l.fn.desk es l.desk
    × OnlyLoads (LiesInRuns l.pages l.frames) es × (length l.rows ≡ length l.fn.rows) × HaveLength (4096 * l.pages) l.rows
    × ((q f : ℕ) → q < l.p → slice_get l.frames q ≡ Some f
    → IsRowOfRun (λ s. g.D.Desk.shows l.fn.desk s) f l.pages (row_at l.rows q))
