use Rattle.cb_text.proofs.Fronts.{both}
use Rattle.cb_text.proofs.reply.push_unavailable.Goals as goal

pub returns-in_err-push_set-clause-kept : goal.returns-in_err-push_set-clause-kept
returns-in_err-push_set-clause-kept c = c.in_err-push_set.ensures.kept

pub returns-in_err-push_word-clause-kept : goal.returns-in_err-push_word-clause-kept
returns-in_err-push_word-clause-kept c =
    both _ _ _ c.in_ok-push_set.ensures.kept c.in_err-push_word.ensures.kept

pub returns-clause-kept : goal.returns-clause-kept
returns-clause-kept c =
    let lost = both _ _ _ c.in_ok-push_set.ensures.kept c.in_ok-push_word.ensures.kept in
    both _ _ _ lost c.push_losses.ensures.kept
