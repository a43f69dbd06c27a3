use Rattle.std.proofs.Common.{rules, ◌≡◌, ◌≤◌, refl, arith}
use Rattle.cb_shared.specs.Seats.{record_at}
use Rattle.cb_shared.specs.UnderLock.{BringAt}
use Rattle.cb_shared.proofs.Turns.{bring_at, turn_ran}
use Rattle.cb_shared.proofs.working.bring_by_seat.Goals as goal

pub invariant_of-desk : goal.invariant_of-desk
invariant_of-desk g c = let h = c.requires.holds in record {
  table = h.of.table;
  counts = h.of.words;
  key = h.of.key;
  same = h.of.config;
  live = h.of.live;
  may = (let z : 1 ≤ 1 = omega arith in z);
  holder = h.holds;
  objects = h.sized.objects;
  hots = h.sized.hots;
  versions = h.sized.versions;
  memory = h.sized.memory;
}

pub bring_to_read-reply-requires : goal.bring_to_read-reply-requires
bring_to_read-reply-requires g c = record {
  config = c.requires.config;
  configured = c.requires.stood.configured;
  handle = c.requires.handle;
  counted = c.requires.stood.counted;
  sound = ((record_at c.args.seat.now).known, refl, c.requires.stood.sound);
}

pub returns-clause-bring : goal.returns-clause-bring
returns-clause-bring g c =
    let same = turn_ran (λ d. d.seat.now) _ _ (λ d e es x. x.0) (λ d s x. x) c.args.config.now
    (record { desk = _; far = c.args.far.now })
    (record { desk = c.bring_to_read-reply.new.desk; far = c.bring_to_read-reply.new.far })
    c.requires.idle c.requires.fresh c.requires.stood
    (λ d. d.seat.ghost_name ≡ _) (λ d es x. x.3) _
    c.bring_to_read-reply.ensures.leaves in
    let brought : BringAt c.args.config.now c.args.h c.bring_to_read-reply.result c.args.far.now
    c.bring_to_read-reply.new.far c.args.seat.now c.bring_to_read-reply.new.desk.seat.now =
    bring_at (λ d. d.seat.now) _ _ (λ d e es x. x.0) (λ d s x. x) c.args.config.now
    (record { desk = _; far = c.args.far.now })
    (record { desk = c.bring_to_read-reply.new.desk; far = c.bring_to_read-reply.new.far })
    c.requires.idle c.requires.fresh c.requires.stood c.args.h c.bring_to_read-reply.result
    c.bring_to_read-reply.ensures.brought c.bring_to_read-reply.ensures.error
    c.bring_to_read-reply.ensures.leaves in
    search (rules, same, brought)
