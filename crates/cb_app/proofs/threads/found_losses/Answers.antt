use Rattle.std.proofs.Common.{List, ◌++◌, [], ap, ◌∙◌, rules}
use Rattle.std.specs.List.{cons_option}
use Rattle.cb_member.specs.declared.names.Loss.{Loss}
use Rattle.cb_lanes.specs.Lost.{told_loss}
use Rattle.cb_app.proofs.Records.{losses_more}
use Rattle.cb_app.proofs.threads.found_losses.Goals as goal

pub loop-answer-preserved : goal.loop-answer-preserved
loop-answer-preserved c =
    let answers = c.as_slice-answer-items.result.now in
    let a = c.answer-item.result in
    let more = rw c.as_slice-answer-items.ensures.items at (losses_more answers c.loop-answer.answer-index a a (search rules) c.answer-item.is) in
    c.in_ok-note_loss.ensures.noted
    ∙ ap (λ (l : List Loss). l ++ cons_option (told_loss a.request a.reply) []) c.loop-answer.invariant ∙ more
