use Rattle.std.proofs.Common.{Some}
use Rattle.std.proofs.lemmas.Result.{IfOk-from_err}
use Rattle.cb_shared.specs.Calls.{AtThis, IsUnanswered, IsWriteJob}
use Rattle.cb_shared.specs.Passes.{record_of}
use Rattle.cb_shared.proofs.CallSteps.{err_always, known_still, so_far, stops_then}
use Rattle.cb_shared.proofs.WriteParts.{write_again, write_at_last}
use Rattle.cb_shared.proofs.WriteTurns.{writes_on, writes_so_far, writes_then}
use Rattle.cb_shared.proofs.runtime.Shared.write.Goals as goal

pub loop-init : goal.loop-init
loop-init g c = (
  c.requires.of,
  so_far (AtThis c.args.h.n) (IsUnanswered
      (IsWriteJob c.args.h.n c.args.at c.args.bytes.now))
      (record_of c.args.pass.now),
  writes_so_far c.args.h.n c.args.at c.args.bytes.now (record_of c.args.pass.now),
)

pub try_write-requires-clause-of : goal.try_write-requires-clause-of
try_write-requires-clause-of g c = c.loop.invariant.0

pub try_write-requires-clause-knows : goal.try_write-requires-clause-knows
try_write-requires-clause-knows g c = known_still (AtThis c.args.h.n)
    (IsUnanswered
    (IsWriteJob c.args.h.n c.args.at c.args.bytes.now)) (Some c.args.h.n)
    (record_of c.args.pass.now) (record_of c.loop.pass) c.requires.knows
    c.loop.invariant.1

pub returns-in_err-reply-clause-error : goal.returns-in_err-reply-clause-error
returns-in_err-reply-clause-error g c = err_always c.from_residual.result _
    (stops_then c.args.self.now.config (AtThis c.args.h.n)
    (IsWriteJob c.args.h.n c.args.at c.args.bytes.now) (record_of c.args.pass.now) (record_of c.loop.pass) (record_of c.try_write.new.pass)
    c.loop.invariant.1 c.in_err-reply.ensures.error)

pub returns-in-Some-2-clause-write : goal.returns-in-Some-2-clause-write
returns-in-Some-2-clause-write g c = write_at_last c.args.self.now.config c.args.h.n c.args.at
    c.args.bytes.now c.in_ok-reply.field-0 c.in-Some-2.reply (record_of c.args.pass.now)
    (record_of c.loop.pass) (record_of c.try_write.new.pass) c.in-Some-2.is c.loop.invariant.1
    c.in_ok-reply.ensures.write

pub loop-preserved : goal.loop-preserved
loop-preserved g c = (
  c.in_ok-reply.ensures.of,
  write_again c.args.self.now.config c.args.h.n c.args.at c.args.bytes.now c.in_ok-reply.field-0
      (record_of c.args.pass.now) (record_of c.loop.pass) (record_of c.try_write.new.pass)
      c.in_default.is c.loop.invariant.1 c.in_ok-reply.ensures.write,
  writes_on c.args.h.n c.args.at c.args.bytes.now (record_of c.args.pass.now)
      (record_of c.loop.pass) (record_of c.try_write.new.pass) c.loop.invariant.2
      (c.in_ok-reply.ensures.on c.in_default.is),
)

pub returns-in_err-reply-clause-jobs : goal.returns-in_err-reply-clause-jobs
returns-in_err-reply-clause-jobs g c = writes_then c.args.h.n c.args.at c.args.bytes.now
    (record_of c.args.pass.now) (record_of c.loop.pass) (record_of c.try_write.new.pass)
    c.loop.invariant.2 c.in_err-reply.ensures.jobs

pub returns-in-Some-2-clause-jobs : goal.returns-in-Some-2-clause-jobs
returns-in-Some-2-clause-jobs g c = writes_then c.args.h.n c.args.at c.args.bytes.now
    (record_of c.args.pass.now) (record_of c.loop.pass) (record_of c.try_write.new.pass)
    c.loop.invariant.2 c.in_ok-reply.ensures.jobs

pub returns-in_err-reply-clause-of : goal.returns-in_err-reply-clause-of
returns-in_err-reply-clause-of g c = c.in_err-reply.ensures.of

pub returns-in_err-reply-clause-write : goal.returns-in_err-reply-clause-write
returns-in_err-reply-clause-write g c = IfOk-from_err _ _ c.from_residual.ensures.0

pub returns-in-Some-2-clause-of : goal.returns-in-Some-2-clause-of
returns-in-Some-2-clause-of g c = c.in_ok-reply.ensures.of
