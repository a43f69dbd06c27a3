use Rattle.std.proofs.Common.{◌≡◌, refl, sym, subst}
use Rattle.std.specs.Prelude.{IfOk}
use Rattle.cb_types.specs.declared.handle.Handle.{Handle}
use Rattle.cb_types.specs.declared.job.Job.{Job}
use Rattle.cb_types.specs.declared.job.Job.TheVariants as jobs
use Rattle.cb_core.specs.Jobs.{IsJob}
use Rattle.cb_core.specs.Unavailable.{TurnTells}
use Rattle.cb_shared.specs.Seats.{record_at}
use Rattle.cb_shared.specs.Turning.{KnowsOf}
use Rattle.cb_shared.specs.UnderLock.{IsNoRead, WorkBy}
use Rattle.cb_shared.proofs.AfterTurn.{holds_begun}
use Rattle.cb_shared.proofs.ReadTurns.{work_done}
use Rattle.cb_shared.proofs.working.work.Goals as goal

no_read : (job : Job) → ((h : Handle) → job ≡ jobs.Read h → ⊥) → IsNoRead job
no_read (jobs.Read h) not = not h refl
no_read job not = tt

pub read_by_seat-requires-clause-handle : goal.read_by_seat-requires-clause-handle
read_by_seat-requires-clause-handle g c = subst (IsJob c.args.config.now)
    c.in-Read.is c.requires.job

pub read_by_seat-requires-clause-knows : goal.read_by_seat-requires-clause-knows
read_by_seat-requires-clause-knows g c = subst (λ (j : Job). KnowsOf j (record_at c.args.seat.now))
    c.in-Read.is c.requires.knows

pub turn_by_seat-requires : goal.turn_by_seat-requires
turn_by_seat-requires g c = record {
  holds = holds_begun c.args.top.now.table_id c.args.top.now.key c.args.config.now c.args.far.now
      c.args.seat.now c.requires.of c.requires.begins;
  config = c.requires.config;
  job = c.requires.job;
  other = no_read c.args.job.now c.in_default.not-Read;
  alone = c.requires.alone;
  knows = c.requires.knows;
  stood = c.requires.begins.stood;
  idle = c.requires.begins.idle;
  fresh = c.requires.begins.fresh;
  kept = c.requires.begins.kept;
}

pub returns-in-Read-clause-work : goal.returns-in-Read-clause-work
returns-in-Read-clause-work g c = subst (λ (j : Job). WorkBy c.args.config.now j
    c.read_by_seat.result (record_at c.args.seat.now).order c.args.far.now c.read_by_seat.new.far c.args.seat.now
    c.read_by_seat.new.seat) (sym c.in-Read.is)
    c.read_by_seat.ensures.work

pub returns-in-Read-clause-unavailable : goal.returns-in-Read-clause-unavailable
returns-in-Read-clause-unavailable g c = subst (λ (j : Job).
    IfOk c.read_by_seat.result (λ reply. TurnTells j c.args.far.now reply))
    (sym c.in-Read.is) c.read_by_seat.ensures.unavailable

pub returns-in_default : goal.returns-in_default
returns-in_default g c = record {
  work = work_done c.args.config.now c.args.job.now c.turn_by_seat.result c.args.far.now
      c.turn_by_seat.new.far c.args.seat.now c.turn_by_seat.new.seat
      (no_read c.args.job.now c.in_default.not-Read) c.requires.alone c.requires.begins.fresh
      c.turn_by_seat.ensures.turn;
  no_frame = c.turn_by_seat.ensures.no_frame;
  unavailable = c.turn_by_seat.ensures.unavailable;
}
