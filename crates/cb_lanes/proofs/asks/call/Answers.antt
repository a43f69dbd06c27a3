use Rattle.std.proofs.Common.{ℕ, List, sym, ap, ◌∙◌, subst}
use Rattle.cb_types.specs.declared.job.Job.{Job}
use Rattle.cb_types.specs.declared.job.Job.TheVariants as jobs
use Rattle.cb_core.specs.Jobs.{IsJob}
use Rattle.cb_shared.specs.Calls.{AtNone, AtThis, IsReadJob, IsWriteJob, OfThis}
use Rattle.cb_shared.specs.Turning.{KnowsOf}
use Rattle.cb_lanes.proofs.Stopping.{call_stops, other_stops}
use Rattle.cb_lanes.proofs.Trying.{call_is, call_leaves, other_call, turn_leaves}
use Rattle.cb_lanes.proofs.asks.call.Goals as goal

pub make-requires-clause-size : goal.make-requires-clause-size
make-requires-clause-size g c = subst (λ (j : Job). IsJob c.args.shared.now.config j)
    (c.in-Make.is ∙ ap jobs.Make (sym c.as_slice.ensures.items)) c.requires.job

pub read-requires-clause-knows : goal.read-requires-clause-knows
read-requires-clause-knows g c =
    subst (λ (j : Job). KnowsOf j c.args.pass.now.seat.me.0) c.in-Read.is c.requires.knows

pub write-requires-clause-knows : goal.write-requires-clause-knows
write-requires-clause-knows g c =
    subst (λ (j : Job). KnowsOf j c.args.pass.now.seat.me.0) c.in-Write.is c.requires.knows

pub free-requires-clause-knows : goal.free-requires-clause-knows
free-requires-clause-knows g c =
    subst (λ (j : Job). KnowsOf j c.args.pass.now.seat.me.0) c.in-Free.is c.requires.knows

pub returns-in-Make-clause-call : goal.returns-in-Make-clause-call
returns-in-Make-clause-call g c = call_is c.args.shared.now.config c.args.job.now
    (jobs.Make c.as_slice.result.now) c.args.pass.now.seat.me.0 c.make.new.pass.seat.me.0
    c.make.result (c.in-Make.is ∙ ap jobs.Make (sym c.as_slice.ensures.items)) c.make.ensures.make

pub returns-in-Make-clause-pins : goal.returns-in-Make-clause-pins
returns-in-Make-clause-pins g c = call_leaves c.args.shared.now.config
    (jobs.Make c.as_slice.result.now) AtNone (OfThis (jobs.Make c.as_slice.result.now))
    c.args.pass.now.seat.me.0 c.make.new.pass.seat.me.0 c.make.result c.make.ensures.make
    c.make.ensures.error

pub returns-in-Make-clause-error : goal.returns-in-Make-clause-error
returns-in-Make-clause-error g c = call_stops c.args.shared.now.config c.args.job.now
    (jobs.Make c.as_slice.result.now) c.args.pass.now.seat.me.0 c.make.new.pass.seat.me.0
    c.make.result (c.in-Make.is ∙ ap jobs.Make (sym c.as_slice.ensures.items)) c.make.ensures.error

pub returns-in-Read-clause-error : goal.returns-in-Read-clause-error
returns-in-Read-clause-error g c = call_stops c.args.shared.now.config c.args.job.now
    (jobs.Read c.in-Read.handle) c.args.pass.now.seat.me.0 c.read.new.pass.seat.me.0
    c.read.result c.in-Read.is c.read.ensures.error

pub returns-in-Write-clause-error : goal.returns-in-Write-clause-error
returns-in-Write-clause-error g c = call_stops c.args.shared.now.config c.args.job.now
    (jobs.Write c.in-Write.handle c.in-Write.at c.as_slice-in-Write.result.now)
    c.args.pass.now.seat.me.0 c.write.new.pass.seat.me.0 c.write.result
    (c.in-Write.is ∙ ap (λ (l : List ℕ). jobs.Write c.in-Write.handle c.in-Write.at l)
    (sym c.as_slice-in-Write.ensures.items)) c.write.ensures.error

pub returns-in-Free-clause-error : goal.returns-in-Free-clause-error
returns-in-Free-clause-error g c = call_stops c.args.shared.now.config c.args.job.now
    (jobs.Free c.in-Free.handle) c.args.pass.now.seat.me.0 c.free.new.pass.seat.me.0
    c.free.result c.in-Free.is c.free.ensures.error

pub returns-in-Read-clause-call : goal.returns-in-Read-clause-call
returns-in-Read-clause-call g c = call_is c.args.shared.now.config c.args.job.now
    (jobs.Read c.in-Read.handle) c.args.pass.now.seat.me.0 c.read.new.pass.seat.me.0
    c.read.result c.in-Read.is c.read.ensures.read

pub returns-in-Read-clause-pins : goal.returns-in-Read-clause-pins
returns-in-Read-clause-pins g c = call_leaves c.args.shared.now.config
    (jobs.Read c.in-Read.handle) (AtThis c.in-Read.handle.n)
    (IsReadJob c.in-Read.handle.n) c.args.pass.now.seat.me.0 c.read.new.pass.seat.me.0
    c.read.result c.read.ensures.read c.read.ensures.error

pub returns-in-Write-clause-call : goal.returns-in-Write-clause-call
returns-in-Write-clause-call g c = call_is c.args.shared.now.config c.args.job.now
    (jobs.Write c.in-Write.handle c.in-Write.at c.as_slice-in-Write.result.now)
    c.args.pass.now.seat.me.0 c.write.new.pass.seat.me.0 c.write.result
    (c.in-Write.is ∙ ap (λ (l : List ℕ). jobs.Write c.in-Write.handle c.in-Write.at l)
    (sym c.as_slice-in-Write.ensures.items)) c.write.ensures.write

pub returns-in-Write-clause-pins : goal.returns-in-Write-clause-pins
returns-in-Write-clause-pins g c = call_leaves c.args.shared.now.config
    (jobs.Write c.in-Write.handle c.in-Write.at c.as_slice-in-Write.result.now)
    (AtThis c.in-Write.handle.n)
    (IsWriteJob c.in-Write.handle.n c.in-Write.at c.as_slice-in-Write.result.now)
    c.args.pass.now.seat.me.0 c.write.new.pass.seat.me.0
    c.write.result c.write.ensures.write c.write.ensures.error

pub returns-in-Free-clause-call : goal.returns-in-Free-clause-call
returns-in-Free-clause-call g c = call_is c.args.shared.now.config c.args.job.now
    (jobs.Free c.in-Free.handle) c.args.pass.now.seat.me.0 c.free.new.pass.seat.me.0
    c.free.result c.in-Free.is c.free.ensures.free

pub returns-in-Free-clause-pins : goal.returns-in-Free-clause-pins
returns-in-Free-clause-pins g c = call_leaves c.args.shared.now.config
    (jobs.Free c.in-Free.handle) AtNone (OfThis (jobs.Free c.in-Free.handle))
    c.args.pass.now.seat.me.0 c.free.new.pass.seat.me.0 c.free.result c.free.ensures.free
    c.free.ensures.error

pub make-requires-clause-of : goal.make-requires-clause-of
make-requires-clause-of g c = c.requires.of

pub read-requires-clause-of : goal.read-requires-clause-of
read-requires-clause-of g c = c.requires.of

pub write-requires-clause-of : goal.write-requires-clause-of
write-requires-clause-of g c = c.requires.of

pub free-requires-clause-of : goal.free-requires-clause-of
free-requires-clause-of g c = c.requires.of

pub returns-in-Make-clause-of : goal.returns-in-Make-clause-of
returns-in-Make-clause-of g c = c.make.ensures.of

pub returns-in-Read-clause-of : goal.returns-in-Read-clause-of
returns-in-Read-clause-of g c = c.read.ensures.of

pub returns-in-Write-clause-of : goal.returns-in-Write-clause-of
returns-in-Write-clause-of g c = c.write.ensures.of

pub returns-in-Free-clause-of : goal.returns-in-Free-clause-of
returns-in-Free-clause-of g c = c.free.ensures.of

pub as_slice-requires : goal.as_slice-requires
as_slice-requires g c = tt

pub as_slice-requires-in-Write : goal.as_slice-requires-in-Write
as_slice-requires-in-Write g c = tt

pub turn_within-requires : goal.turn_within-requires
turn_within-requires g c = c.requires

pub returns-in_default : goal.returns-in_default
returns-in_default g c = record {
  of = c.turn_within.ensures.of;
  pins = turn_leaves c.args.shared.now.config c.args.job.now c.args.pass.now.seat.me.0
      c.turn_within.new.pass.seat.me.0 c.turn_within.result c.turn_within.ensures.turn;
  call = other_call c.args.shared.now.config c.args.job.now c.args.pass.now.seat.me.0
      c.turn_within.new.pass.seat.me.0 c.turn_within.result c.in_default.not-Make
      c.in_default.not-Read
      c.in_default.not-Write c.in_default.not-Free c.turn_within.ensures.turn;
  error = other_stops c.args.shared.now.config c.args.job.now c.args.pass.now.seat.me.0
      c.turn_within.new.pass.seat.me.0 c.turn_within.result c.in_default.not-Make
      c.in_default.not-Read
      c.in_default.not-Write c.in_default.not-Free c.turn_within.ensures.turn;
}
