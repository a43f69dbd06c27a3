use Rattle.std.proofs.lemmas.Result.{IfOk-from_err}
use Rattle.cb_shared.specs.Calls.{IsUnanswered, LooksOf, OfThis}
use Rattle.cb_shared.specs.Passes.{record_of}
use Rattle.cb_shared.specs.Turning.{object_of}
use Rattle.cb_shared.proofs.CallSteps.{err_always, known_still, new_at_last, so_far, stops_then}
use Rattle.cb_shared.proofs.CallSteps.{turn_again, turn_at_last}
use Rattle.cb_shared.proofs.runtime.Shared.turn_until.Goals as goal

pub loop-init : goal.loop-init
loop-init g c = (
  c.requires.of,
  so_far (LooksOf c.args.job.now) (IsUnanswered (OfThis c.args.job.now))
      (record_of c.args.pass.now),
)

pub try_turn-requires-clause-of : goal.try_turn-requires-clause-of
try_turn-requires-clause-of g c = c.loop.invariant.0

pub try_turn-requires-clause-knows : goal.try_turn-requires-clause-knows
try_turn-requires-clause-knows g c = known_still (LooksOf c.args.job.now)
    (IsUnanswered (OfThis c.args.job.now)) (object_of c.args.job.now)
    (record_of c.args.pass.now) (record_of c.loop.pass) c.requires.knows c.loop.invariant.1

pub returns-in_err-reply-clause-error : goal.returns-in_err-reply-clause-error
returns-in_err-reply-clause-error g c = err_always c.from_residual.result _
    (stops_then c.args.self.now.config (LooksOf c.args.job.now) (OfThis c.args.job.now)
    (record_of c.args.pass.now) (record_of c.loop.pass)
    (record_of c.try_turn.new.pass) c.loop.invariant.1 c.in_err-reply.ensures.error)

pub returns-in-Some-2-clause-turn : goal.returns-in-Some-2-clause-turn
returns-in-Some-2-clause-turn g c = turn_at_last c.args.self.now.config c.args.job.now
    c.in_ok-reply.field-0 c.in-Some-2.reply (record_of c.args.pass.now) (record_of c.loop.pass)
    (record_of c.try_turn.new.pass) c.in-Some-2.is c.loop.invariant.1 c.in_ok-reply.ensures.turn

pub loop-preserved : goal.loop-preserved
loop-preserved g c = (
  c.in_ok-reply.ensures.of,
  turn_again c.args.self.now.config c.args.job.now c.in_ok-reply.field-0
      (record_of c.args.pass.now) (record_of c.loop.pass) (record_of c.try_turn.new.pass)
      c.in_default.is c.loop.invariant.1 c.in_ok-reply.ensures.turn,
)

pub returns-in-Some-2-clause-new : goal.returns-in-Some-2-clause-new
returns-in-Some-2-clause-new g c = new_at_last c.args.self.now.board.shared.key.first
    (LooksOf c.args.job.now) (IsUnanswered (OfThis c.args.job.now)) c.args.job.now
    c.in_ok-reply.field-0 c.in-Some-2.reply (record_of c.args.pass.now)
    (record_of c.loop.pass) c.in-Some-2.is c.loop.invariant.1 c.in_ok-reply.ensures.new

pub try_turn-requires-clause-job : goal.try_turn-requires-clause-job
try_turn-requires-clause-job g c = c.requires.job

pub try_turn-requires-clause-called : goal.try_turn-requires-clause-called
try_turn-requires-clause-called g c = c.requires.called

pub try_turn-requires-clause-alone : goal.try_turn-requires-clause-alone
try_turn-requires-clause-alone g c = c.requires.alone

pub returns-in_err-reply-clause-of : goal.returns-in_err-reply-clause-of
returns-in_err-reply-clause-of g c = c.in_err-reply.ensures.of

pub returns-in_err-reply-clause-turn : goal.returns-in_err-reply-clause-turn
returns-in_err-reply-clause-turn g c = IfOk-from_err _ _ c.from_residual.ensures.0

pub returns-in_err-reply-clause-new : goal.returns-in_err-reply-clause-new
returns-in_err-reply-clause-new g c = IfOk-from_err _ _ c.from_residual.ensures.0

pub returns-in-Some-2-clause-of : goal.returns-in-Some-2-clause-of
returns-in-Some-2-clause-of g c = c.in_ok-reply.ensures.of
