use Rattle.std.proofs.Common.{Some, false, refl}
use Rattle.std.proofs.lemmas.Result.{IfOk-from_err}
use Rattle.cb_shared.specs.Calls.{AtThis, IsReadJob, IsUnanswered}
use Rattle.cb_shared.specs.Passes.{record_of}
use Rattle.cb_shared.proofs.CallSteps.{err_always, known_still, read_again, read_at_last, so_far}
use Rattle.cb_shared.proofs.CallSteps.{stops_then}
use Rattle.cb_shared.proofs.Fetches.{fetches_none, fetches_on, fetches_then}
use Rattle.cb_shared.proofs.runtime.Shared.read.Goals as goal

pub loop-init : goal.loop-init
loop-init g c = (
  c.requires.of,
  so_far (AtThis c.args.h.n) (IsUnanswered (IsReadJob c.args.h.n))
      (record_of c.args.pass.now),
  fetches_none c.args.h.n false c.new-patience.result.brought (record_of c.args.pass.now)
      (record_of c.args.pass.now) refl c.new-patience.ensures.brought,
)

pub try_read-requires-clause-of : goal.try_read-requires-clause-of
try_read-requires-clause-of g c = c.loop.invariant.0

pub try_read-requires-clause-knows : goal.try_read-requires-clause-knows
try_read-requires-clause-knows g c = known_still (AtThis c.args.h.n)
    (IsUnanswered (IsReadJob c.args.h.n)) (Some c.args.h.n) (record_of c.args.pass.now)
    (record_of c.loop.pass) c.requires.knows c.loop.invariant.1

pub returns-in_err-reply-clause-error : goal.returns-in_err-reply-clause-error
returns-in_err-reply-clause-error g c = err_always c.from_residual.result _
    (stops_then c.args.self.now.config (AtThis c.args.h.n) (IsReadJob c.args.h.n)
    (record_of c.args.pass.now) (record_of c.loop.pass)
    (record_of c.try_read.new.pass) c.loop.invariant.1 c.in_err-reply.ensures.error)

pub returns-in-Some-2-clause-read : goal.returns-in-Some-2-clause-read
returns-in-Some-2-clause-read g c = read_at_last c.args.self.now.config c.args.h.n
    c.in_ok-reply.field-0 c.in-Some-2.reply (record_of c.args.pass.now) (record_of c.loop.pass)
    (record_of c.try_read.new.pass) c.in-Some-2.is c.loop.invariant.1 c.in_ok-reply.ensures.read

pub loop-preserved : goal.loop-preserved
loop-preserved g c = (
  c.in_ok-reply.ensures.of,
  read_again c.args.self.now.config c.args.h.n c.in_ok-reply.field-0 (record_of c.args.pass.now)
      (record_of c.loop.pass) (record_of c.try_read.new.pass) c.in_default.is c.loop.invariant.1
      c.in_ok-reply.ensures.read,
  fetches_on c.args.h.n false c.loop.patience.brought c.try_read.new.patience.brought
      (record_of c.args.pass.now) (record_of c.loop.pass) (record_of c.try_read.new.pass)
      c.loop.invariant.2 (c.in_ok-reply.ensures.brought c.in_default.is),
)

pub returns-in_err-reply-clause-of : goal.returns-in_err-reply-clause-of
returns-in_err-reply-clause-of g c = c.in_err-reply.ensures.of

pub returns-in_err-reply-clause-read : goal.returns-in_err-reply-clause-read
returns-in_err-reply-clause-read g c = IfOk-from_err _ _ c.from_residual.ensures.0

pub returns-in-Some-2-clause-of : goal.returns-in-Some-2-clause-of
returns-in-Some-2-clause-of g c = c.in_ok-reply.ensures.of

pub returns-in_err-reply-clause-jobs : goal.returns-in_err-reply-clause-jobs
returns-in_err-reply-clause-jobs g c = fetches_then c.args.h.n false c.loop.patience.brought
    (record_of c.args.pass.now) (record_of c.loop.pass) (record_of c.try_read.new.pass)
    c.loop.invariant.2 c.in_err-reply.ensures.jobs

pub returns-in-Some-2-clause-jobs : goal.returns-in-Some-2-clause-jobs
returns-in-Some-2-clause-jobs g c = fetches_then c.args.h.n false c.loop.patience.brought
    (record_of c.args.pass.now) (record_of c.loop.pass) (record_of c.try_read.new.pass)
    c.loop.invariant.2 c.in_ok-reply.ensures.jobs
