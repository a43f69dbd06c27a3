use Rattle.cb_shared.specs.Seats.{record_at}
use Rattle.cb_shared.specs.Turning.{answer_of}
use Rattle.cb_shared.proofs.turning.locked_turn.Given as goal

abbrev pub ghosts-give_far : goal.ghosts-give_far
ghosts-give_far g a = record {
  job = a.told.0.now;
  reply = answer_of a.told.1.now;
  keeps = (record_at a.seat.now).order;
}
