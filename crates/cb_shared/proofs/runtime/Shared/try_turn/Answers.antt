use Rattle.std.proofs.Common.{sym}
use Rattle.std.proofs.lemmas.Option.{none-some}
use Rattle.cb_shared.specs.Passes.{record_of}
use Rattle.cb_shared.proofs.CallSteps.{err_always, turn_ends, turn_in_vain, turn_without}
use Rattle.cb_shared.proofs.Fetches.{one_more, one_of}
use Rattle.cb_shared.proofs.runtime.Shared.try_turn.Goals as goal

pub turn_within-requires-clause-alone : goal.turn_within-requires-clause-alone
turn_within-requires-clause-alone g c = c.requires.alone

pub returns-in_err-reply-clause-error : goal.returns-in_err-reply-clause-error
returns-in_err-reply-clause-error g c = err_always c.from_residual.result _
    (turn_without c.args.self.now.config c.args.job.now c.in_err-reply.field-0.0
    (record_of c.args.pass.now) (record_of c.turn_within.new.pass)
    c.in_err-reply.ensures.turn)

pub returns-then-is_answer-clause-turn : goal.returns-then-is_answer-clause-turn
returns-then-is_answer-clause-turn g c = turn_ends c.args.self.now.config c.args.job.now
    c.in_ok-reply.reply c.again.result (record_of c.args.pass.now)
    (record_of c.turn_within.new.pass) c.again.ensures (c.is_answer.ensures.yes c.if-is_answer.true) c.in_ok-reply.ensures.turn

pub returns-else-is_answer-clause-turn : goal.returns-else-is_answer-clause-turn
returns-else-is_answer-clause-turn g c = turn_in_vain c.args.self.now.config c.args.job.now
    c.in_ok-reply.reply c.again.result (record_of c.args.pass.now)
    (record_of c.turn_within.new.pass) c.requires.called c.again.ensures (c.is_answer.ensures.no c.if-is_answer.false) c.in_ok-reply.ensures.turn

pub returns-then-is_answer-clause-new : goal.returns-then-is_answer-clause-new
returns-then-is_answer-clause-new g c = c.in_ok-reply.ensures.new

pub returns-in_err-reply-clause-one : goal.returns-in_err-reply-clause-one
returns-in_err-reply-clause-one g c = one_of c.args.self.now.config c.args.job.now _
    (record_of c.args.pass.now) (record_of c.turn_within.new.pass) c.in_err-reply.ensures.turn

pub returns-then-is_answer-clause-one : goal.returns-then-is_answer-clause-one
returns-then-is_answer-clause-one g c = one_of c.args.self.now.config c.args.job.now _
    (record_of c.args.pass.now) (record_of c.turn_within.new.pass) c.in_ok-reply.ensures.turn

pub returns-then-is_answer-clause-brought : goal.returns-then-is_answer-clause-brought
returns-then-is_answer-clause-brought g c = λ none. absurd (none-some _ (sym none))

pub returns-else-is_answer-clause-one : goal.returns-else-is_answer-clause-one
returns-else-is_answer-clause-one g c = one_of c.args.self.now.config c.args.job.now _
    (record_of c.args.pass.now) (record_of c.turn_within.new.pass) c.in_ok-reply.ensures.turn

pub returns-else-is_answer-clause-brought : goal.returns-else-is_answer-clause-brought
returns-else-is_answer-clause-brought g c = λ none. one_more c.args.self.now.config c.args.job.now
    c.in_ok-reply.reply c.args.patience.now.brought c.wait_behind.new.patience.brought
    (record_of c.args.pass.now) (record_of c.turn_within.new.pass) c.in_ok-reply.ensures.turn
    c.wait_behind.ensures.brought
