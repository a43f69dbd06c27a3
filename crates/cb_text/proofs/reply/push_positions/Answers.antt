use Rattle.cb_text.proofs.Fronts.{behind, both}
use Rattle.cb_text.proofs.reply.push_positions.Goals as goal

pub returns-in_err-push_number-clause-kept : goal.returns-in_err-push_number-clause-kept
returns-in_err-push_number-clause-kept c =
    both _ _ _ (behind _ _ _ c.loop-position.invariant) c.in_err-push_number.ensures.kept

pub returns-clause-kept : goal.returns-clause-kept
returns-clause-kept c = behind _ _ _ c.loop-position.invariant
