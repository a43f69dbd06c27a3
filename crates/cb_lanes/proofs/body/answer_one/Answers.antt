use Rattle.std.proofs.Common.{[], ◌∷◌, ◌++◌, ◌∙◌, refl, inl, inr, arith}
use Rattle.std.proofs.lemmas.Bool.{false≢true}
use Rattle.cb_lanes.specs.Asked.{answer_to}
use Rattle.cb_lanes.specs.Passing.{goes_in}
use Rattle.cb_lanes.specs.declared.passing.Passing.{Passing}
use Rattle.cb_lanes.specs.Names.{request_handle}
use Rattle.cb_lanes.proofs.ByPass.{line_by}
use Rattle.cb_lanes.proofs.Stopping.{err_always, line_stopped}
use Rattle.cb_lanes.proofs.body.answer_one.Goals as goal

pub reply_to-requires-clause-request : goal.reply_to-requires-clause-request
reply_to-requires-clause-request g c = c.requires.request

pub reply_to-requires-clause-ready : goal.reply_to-requires-clause-ready
reply_to-requires-clause-ready g c = c.requires.knows

pub reply_to-requires-clause-well : goal.reply_to-requires-clause-well
reply_to-requires-clause-well g c = (c.requires.of, c.requires.held)

pub returns-clause-of : goal.returns-clause-of
returns-clause-of g c = c.in_ok-reply.ensures.well.0

pub returns-clause-held : goal.returns-clause-held
returns-clause-held g c = c.in_ok-reply.ensures.well.1

pub returns-clause-line : goal.returns-clause-line
returns-clause-line g c = record {
  reply = c.in_ok-reply.reply;
  goes = line_by (goes_in c.args.shared.now.config) (λ (a : Passing). a.pass.seat.me.0)
      (request_handle c.args.kept.now c.args.line.now.request) c.args.line.now.request
      c.args.passing.now
      c.in_ok-reply.reply c.reply_to.new.lane c.in_ok-reply.ensures.line;
  keeps = c.in_ok-reply.ensures.names;
  answer = c.in_ok-push.ensures.items
      ∙ (λ i. c.in_ok-reserve.ensures.items i
      ++ answer_to c.args.line.now (c.in_ok-request.ensures.copy i) c.in_ok-reply.reply ∷ []);
}

pub returns-in_err-reserve-clause-stops : goal.returns-in_err-reserve-clause-stops
returns-in_err-reserve-clause-stops g c = err_always c.from_residual.result _ (inl refl)

pub returns-in_err-request-clause-stops : goal.returns-in_err-request-clause-stops
returns-in_err-request-clause-stops g c =
    err_always c.from_residual-in_err-request.result _ (inl refl)

pub returns-in_err-reply-clause-stops : goal.returns-in_err-reply-clause-stops
returns-in_err-reply-clause-stops g c = err_always c.from_residual-in_err-reply.result _
    (inr (line_stopped c.args.shared.now.config
    (request_handle c.args.kept.now c.args.line.now.request) c.args.line.now.request
    c.args.passing.now c.reply_to.new.lane c.in_err-reply.ensures.error))

pub returns-in_err-push-clause-same : goal.returns-in_err-push-clause-same
returns-in_err-push-clause-same g c = let room = c.in_ok-reserve.ensures.ok in
    absurd (false≢true (c.in_err-push.ensures.succeeds (omega (arith, room))))

pub returns-in_err-push-clause-stops : goal.returns-in_err-push-clause-stops
returns-in_err-push-clause-stops g c = let room = c.in_ok-reserve.ensures.ok in
    absurd (false≢true (c.in_err-push.ensures.succeeds (omega (arith, room))))
