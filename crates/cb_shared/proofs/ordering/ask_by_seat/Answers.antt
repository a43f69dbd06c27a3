use Rattle.std.proofs.Common.{rules, ◌≡◌, ◌≤◌, refl, sym, subst, arith}
use Rattle.cb_world.specs.declared.shown.Shown.{Shown}
use Rattle.cb_world.specs.Orders.{KeepsOrder}
use Rattle.cb_shared.specs.Ordering.{job_of, keeps_of, order_run, told}
use Rattle.cb_shared.specs.Seats.{record_at}
use Rattle.cb_shared.specs.UnderLock.{WorkBy}
use Rattle.cb_shared.proofs.AfterTurn.{holds_begun}
use Rattle.cb_shared.proofs.Asks.{asks_below, asks_no_pins, asks_no_read, kept_runs, run_kept}
use Rattle.cb_shared.proofs.ReadTurns.{work_with}
use Rattle.cb_shared.proofs.Turns.{asked_at, turn_ran}
use Rattle.cb_shared.proofs.ordering.ask_by_seat.Goals as goal

pub invariant_of-desk : goal.invariant_of-desk
invariant_of-desk g c = let h = holds_begun c.args.top.now.table_id c.args.top.now.key
    c.args.config.now c.args.far.now c.args.seat.now c.requires.of c.requires.begins in record {
      table = h.of.table;
      counts = h.of.words;
      key = h.of.key;
      same = h.of.config;
      live = h.of.live;
      may = (let z : 1 ≤ 1 = omega arith in z);
      holder = h.holds;
      objects = h.sized.objects;
      hots = h.sized.hots;
      versions = h.sized.versions;
      memory = h.sized.memory;
    }

pub ask-outcome-requires : goal.ask-outcome-requires
ask-outcome-requires g c = let v = record_at c.args.seat.now in record {
  config = c.requires.config;
  configured = c.requires.begins.stood.configured;
  counted = c.requires.begins.stood.counted;
  below = asks_below c.args.config.now v.order c.args.asked.now c.requires.may;
  sound = (v.known, refl, c.requires.begins.stood.sound);
  kept = λ s shown sound.
      subst (λ (z : Shown). KeepsOrder z c.args.far.now (order_run c.args.asked.now)) (sym shown)
      (run_kept v.known c.args.far.now c.args.config.now v.order c.args.asked.now c.requires.may
      c.requires.begins.kept);
}

pub returns-clause-work : goal.returns-clause-work
returns-clause-work g c = let b = c.requires.begins in let k = c.args.asked.now in
    let v = record_at c.args.seat.now in let o = c.ask-outcome.result in
    let same = turn_ran (λ d. d.seat.now) _ _ (λ d e es x. x.0) (λ d s x. x) c.args.config.now
    (record { desk = _; far = c.args.far.now })
    (record { desk = c.ask-outcome.new.desk; far = c.ask-outcome.new.far }) b.idle b.fresh b.stood
    (λ d. d.seat.ghost_name ≡ _) (λ d es x. x.3) _ c.ask-outcome.ensures.leaves.leaves in
    let worked : WorkBy c.args.config.now (job_of k) (told o) (keeps_of o v.order) c.args.far.now
    c.ask-outcome.new.far c.args.seat.now c.ask-outcome.new.desk.seat.now =
    work_with c.args.config.now (job_of k) (told o) (keeps_of o v.order) c.args.far.now
    c.ask-outcome.new.far c.args.seat.now c.ask-outcome.new.desk.seat.now (asks_no_read k) b.fresh
    (asks_no_pins k (told o) v)
    (asked_at (λ d. d.seat.now) _ _ (λ d e es x. x.0) (λ d s x. x) c.args.config.now
    (record { desk = _; far = c.args.far.now })
    (record { desk = c.ask-outcome.new.desk; far = c.ask-outcome.new.far }) b.idle b.fresh b.stood
    k c.requires.may b.kept o c.ask-outcome.ensures) in
    search (rules, same, worked)

pub returns-clause-kind : goal.returns-clause-kind
returns-clause-kind g c = c.ask-outcome.ensures.kind

pub returns-clause-runs : goal.returns-clause-runs
returns-clause-runs g c = kept_runs _ _ _ (c.ask-outcome.ensures.leaves.kept
    (record_at c.args.seat.now).known refl c.requires.begins.stood.sound)

pub returns-clause-tells : goal.returns-clause-tells
returns-clause-tells g c =
    c.ask-outcome.ensures.tells (record_at c.args.seat.now).order c.requires.may
