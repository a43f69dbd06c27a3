use Rattle.std.proofs.Common.{ℕ, ◌*◌, List, length}
use Rattle.cb_world.specs.Write.{IsWriteBelow}
use Rattle.cb_rule.specs.declared.view.Held.{Held}
use Rattle.cb_shared.specs.Claims.{HoldsOnly, IsWithin, with_memory, with_only}
use Rattle.cb_shared.specs.Seats.{IsOf, Moves, record_at}
use Rattle.cb_shared.proofs.writing.overwrite_own.Given as goal

abbrev pub invariant-loop-i : goal.invariant-loop-i
invariant-loop-i l = IsOf l.top.table_id l.top.key l.config l.seat
    × ((x : Held) → HoldsOnly x x.handle l.fn.seat
    → IsWithin l.config x l.place l.at (length l.bytes) → (new : List ℕ)
    × IsWriteBelow (8 * l.i) x.memory l.at l.bytes new
    × Moves l.fn.seat l.seat (with_only (with_memory new x) (record_at l.fn.seat)))
