use Rattle.cb_text.proofs.Fronts.{both}
use Rattle.cb_text.proofs.reply.push_listed.Goals as goal

pub returns-in_err-push_word-clause-kept : goal.returns-in_err-push_word-clause-kept
returns-in_err-push_word-clause-kept c = c.in_err-push_word.ensures.kept

pub returns-clause-kept : goal.returns-clause-kept
returns-clause-kept c = both _ _ _ c.in_ok-push_word.ensures.kept c.push_positions.ensures.kept
