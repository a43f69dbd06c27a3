use Rattle.cb_text.proofs.Fronts.{both}
use Rattle.cb_text.proofs.reply.push_plain.Goals as goal

pub returns-in_err-push_word-clause-kept : goal.returns-in_err-push_word-clause-kept
returns-in_err-push_word-clause-kept c = c.in_err-push_word.ensures.kept

pub returns-in-Some-clause-kept : goal.returns-in-Some-clause-kept
returns-in-Some-clause-kept c = both _ _ _ c.in_ok-push_word.ensures.kept c.push_number.ensures.kept

pub returns-in-None-clause-kept : goal.returns-in-None-clause-kept
returns-in-None-clause-kept c = c.in_ok-push_word.ensures.kept
