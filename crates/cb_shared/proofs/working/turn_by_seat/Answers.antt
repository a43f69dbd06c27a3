use Rattle.std.proofs.Common.{rules, ℕ, ◌≡◌, ◌≤◌, Option, refl, sym, subst}
use Rattle.cb_shared.specs.Rights.{rights}
use Rattle.cb_shared.specs.Seats.{record_at}
use Rattle.cb_shared.specs.UnderLock.{TurnAtSeat}
use Rattle.cb_shared.proofs.Turns.{turn_at, turn_ran}
use Rattle.cb_shared.proofs.Rights.{begins_with}
use Rattle.cb_shared.proofs.working.turn_by_seat.Goals as goal

pub invariant_of-desk : goal.invariant_of-desk
invariant_of-desk g c = let h = c.requires.holds in let v = record_at c.args.seat.now in record {
  table = h.of.table;
  counts = h.of.words;
  key = h.of.key;
  same = h.of.config;
  live = h.of.live;
  may = subst (λ (x : Option ℕ). 1 ≤ rights x v.known v) (sym c.object_written-allowed.ensures)
      (begins_with c.args.job.now c.args.far.now v c.requires.stood.sound c.requires.knows);
  holder = h.holds;
  objects = h.sized.objects;
  hots = h.sized.hots;
  versions = h.sized.versions;
  memory = h.sized.memory;
}

pub turn-reply-requires : goal.turn-reply-requires
turn-reply-requires g c = record {
  config = c.requires.config;
  configured = c.requires.stood.configured;
  job = c.requires.job;
  order = c.requires.alone;
  counted = c.requires.stood.counted;
  sound = ((record_at c.args.seat.now).known, refl, c.requires.stood.sound);
}

pub returns-clause-turn : goal.returns-clause-turn
returns-clause-turn g c =
    let same = turn_ran (λ d. d.seat.now) _ _ (λ d e es x. x.0) (λ d s x. x) c.args.config.now
    (record { desk = _; far = c.args.far.now })
    (record { desk = c.turn-reply.new.desk; far = c.turn-reply.new.far })
    c.requires.idle c.requires.fresh c.requires.stood
    (λ d. d.seat.ghost_name ≡ _) (λ d es x. x.3) _
    c.turn-reply.ensures.leaves in
    let turned : TurnAtSeat c.args.config.now c.args.job.now c.turn-reply.result
    (record_at c.args.seat.now).order c.args.far.now c.turn-reply.new.far c.args.seat.now c.turn-reply.new.desk.seat.now =
    turn_at (λ d. d.seat.now) _ _ (λ d e es x. x.0) (λ d s x. x) c.args.config.now
    (record { desk = _; far = c.args.far.now })
    (record { desk = c.turn-reply.new.desk; far = c.turn-reply.new.far })
    c.requires.idle c.requires.fresh c.requires.stood c.args.job.now c.requires.other c.requires.kept
    c.turn-reply.result c.turn-reply.ensures.turned c.turn-reply.ensures.error
    c.turn-reply.ensures.leaves in
    search (rules, same, turned)
