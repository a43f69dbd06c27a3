use Rattle.std.proofs.Common.{◌≡◌, length}
use Rattle.cb_rule.specs.declared.view.Stand.{Stand}
use Rattle.cb_shared.specs.Reading.{IsUnderPin}
use Rattle.cb_shared.specs.Seats.{IsOf, Moves, record_at}
use Rattle.cb_mutate.proofs.Laws.{AreBytesFilled}
use Rattle.cb_shared.proofs.reading.load_into.Given as goal

abbrev pub invariant-loop-i : goal.invariant-loop-i
invariant-loop-i l = IsOf l.top.table_id l.top.key l.config l.seat
    × Moves l.fn.seat l.seat (record_at l.fn.seat)
    × (length l.room ≡ length l.fn.room)
    × ((p : Stand) → IsUnderPin p l.place (length l.fn.room) l.fn.seat
    → AreBytesFilled p.words l.i l.room)
