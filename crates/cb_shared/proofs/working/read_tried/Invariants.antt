use Rattle.cb_record.specs.Parts.{Part, grown}
use Rattle.cb_shared.specs.Seats.{Moves, record_at}
use Rattle.cb_shared.specs.Turning.{AreLooksAt}
use Rattle.cb_shared.proofs.working.read_tried.Given as goal

abbrev pub invariant-loop : goal.invariant-loop
invariant-loop g l = (d : Part) × AreLooksAt l.h d × Moves l.fn.seat l.seat
    (grown d (record_at l.fn.seat))
