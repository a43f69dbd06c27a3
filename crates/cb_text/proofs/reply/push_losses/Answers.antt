use Rattle.cb_text.proofs.Fronts.{behind, both}
use Rattle.cb_text.proofs.reply.push_losses.Goals as goal

pub returns-in_err-push_loss-clause-kept : goal.returns-in_err-push_loss-clause-kept
returns-in_err-push_loss-clause-kept c =
    both _ _ _ (behind _ _ _ c.loop-loss.invariant) c.in_err-push_loss.ensures.kept

pub returns-clause-kept : goal.returns-clause-kept
returns-clause-kept c = behind _ _ _ c.loop-loss.invariant
