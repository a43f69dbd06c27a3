use Rattle.std.proofs.Common.{◌*◌, take}
use Rattle.cb_world.specs.FrameWords.{OwnsWords, stores_from}
use Rattle.cb_shared.specs.SeatLaws.{Runs}
use Rattle.cb_shared.specs.Seats.{HoldsLock, record_at}
use Rattle.cb_shared.proofs.frames.store_row.Given as goal

abbrev pub invariant-loop-i : goal.invariant-loop-i
invariant-loop-i l = HoldsLock l.top.table_id l.top.key l.config l.seat
    × Runs l.fn.seat (stores_from (512 * l.frame) (take l.i l.words)) l.seat
    × OwnsWords (record_at l.seat).known l.frame
