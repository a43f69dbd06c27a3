use Rattle.cb_shared.specs.Ordering.{job_of, keeps_of, told}
use Rattle.cb_shared.specs.Seats.{record_at}
use Rattle.cb_shared.specs.Turning.{answer_of}
use Rattle.cb_shared.proofs.handing.locked_order.Given as goal

abbrev pub ghosts-give_far : goal.ghosts-give_far
ghosts-give_far g a = record {
  job = job_of a.told.0.now;
  reply = answer_of (told a.told.1.now);
  keeps = keeps_of a.told.1.now (record_at a.seat.now).order;
}
