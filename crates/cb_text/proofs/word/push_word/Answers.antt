use Rattle.cb_text.proofs.Fronts.{behind, same, both}
use Rattle.cb_text.proofs.word.push_word.Goals as goal

pub returns-in_err-push-clause-kept : goal.returns-in_err-push-clause-kept
returns-in_err-push-clause-kept c = same _ _ c.in_err-push.ensures.items

pub returns-in_err-extend_from_slice-clause-kept : goal.returns-in_err-extend_from_slice-clause-kept
returns-in_err-extend_from_slice-clause-kept c =
    both _ _ _ (behind _ _ _ c.in_ok-push.ensures.items)
    (same _ _ c.in_err-extend_from_slice.ensures.items)

pub returns-clause-kept : goal.returns-clause-kept
returns-clause-kept c =
    both _ _ _ (behind _ _ _ c.in_ok-push.ensures.items)
    (behind _ _ _ c.in_ok-extend_from_slice.ensures.items)
