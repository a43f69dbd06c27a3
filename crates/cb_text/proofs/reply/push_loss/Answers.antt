use Rattle.cb_text.proofs.Fronts.{behind, same, both}
use Rattle.cb_text.proofs.reply.push_loss.Goals as goal

pub returns-in_err-push_number-clause-kept : goal.returns-in_err-push_number-clause-kept
returns-in_err-push_number-clause-kept c = c.in_err-push_number.ensures.kept

pub returns-in_err-push-clause-kept : goal.returns-in_err-push-clause-kept
returns-in_err-push-clause-kept c =
    both _ _ _ c.in_ok-push_number.ensures.kept (same _ _ c.in_err-push.ensures.items)

pub returns-in_err-extend_from_slice-clause-kept : goal.returns-in_err-extend_from_slice-clause-kept
returns-in_err-extend_from_slice-clause-kept c =
    let at = behind _ _ _ c.in_ok-push.ensures.items in
    let node = both _ _ _ c.in_ok-push_number.ensures.kept at in
    both _ _ _ node (same _ _ c.in_err-extend_from_slice.ensures.items)

pub returns-clause-kept : goal.returns-clause-kept
returns-clause-kept c =
    let at = behind _ _ _ c.in_ok-push.ensures.items in
    let node = both _ _ _ c.in_ok-push_number.ensures.kept at in
    both _ _ _ node (behind _ _ _ c.in_ok-extend_from_slice.ensures.items)
