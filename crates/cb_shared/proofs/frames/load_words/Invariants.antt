use Rattle.std.proofs.Common.{◌≡◌, ◌*◌, ◌^◌, ◌<◌, All, length, take}
use Rattle.cb_world.specs.FrameWords.{loads_from}
use Rattle.cb_shared.specs.SeatLaws.{Runs}
use Rattle.cb_shared.specs.Seats.{HoldsLock}
use Rattle.cb_shared.proofs.frames.load_words.Given as goal

abbrev pub invariant-loop-i : goal.invariant-loop-i
invariant-loop-i l = HoldsLock l.top.table_id l.top.key l.config l.seat
    × Runs l.fn.seat (loads_from (512 * l.frame) (take l.i l.words)) l.seat
    × (length l.words ≡ 512)
    × All (λ w. w < 2 ^ 64) l.words
