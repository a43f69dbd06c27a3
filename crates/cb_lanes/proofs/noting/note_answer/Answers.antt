use Rattle.std.proofs.Common.{[], ◌∷◌, ◌++◌, ap, ◌∙◌}
use Rattle.cb_types.specs.declared.request.Request.{Request}
use Rattle.cb_lanes.specs.Asked.{answer_to}
use Rattle.cb_lanes.proofs.Along.{losses_push}
use Rattle.cb_lanes.proofs.Shown.{ok_then}
use Rattle.cb_lanes.proofs.noting.note_answer.Goals as goal

pub returns-clause-answer : goal.returns-clause-answer
returns-clause-answer c = ok_then c.push.result (λ done added.
    added ∙ ap (λ (q : Request). c.args.answers.now ++ answer_to c.args.line.now q c.args.reply ∷
    [])
    c.in_ok-copy.ensures.copy) c.push.ensures.ok

pub returns-clause-losses : goal.returns-clause-losses
returns-clause-losses c = λ so_far. ok_then c.push.result (λ done added.
    losses_push c.args.answers.now c.push.new.self
    (answer_to c.args.line.now c.args.line.now.request c.args.reply)
    c.args.losses.now.items c.note_loss.new.losses.items so_far c.in_ok-note_loss.ensures.noted
    (added ∙ ap (λ (q : Request). c.args.answers.now ++ answer_to c.args.line.now q c.args.reply ∷
    [])
    c.in_ok-copy.ensures.copy)) c.push.ensures.ok
