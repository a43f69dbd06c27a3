use Rattle.cb_text.proofs.Fronts.{behind, same, both}
use Rattle.cb_text.proofs.word.push_version.Goals as goal

pub returns-in_err-extend_from_slice-clause-kept : goal.returns-in_err-extend_from_slice-clause-kept
returns-in_err-extend_from_slice-clause-kept c = same _ _ c.in_err-extend_from_slice.ensures.items

pub returns-in_err-extend_from_slice-2-clause-kept :
    goal.returns-in_err-extend_from_slice-2-clause-kept
returns-in_err-extend_from_slice-2-clause-kept c =
    both _ _ _ (behind _ _ _ c.in_ok-extend_from_slice.ensures.items)
    (same _ _ c.in_err-extend_from_slice-2.ensures.items)

pub returns-clause-kept : goal.returns-clause-kept
returns-clause-kept c =
    both _ _ _ (behind _ _ _ c.in_ok-extend_from_slice.ensures.items)
    (behind _ _ _ c.in_ok-extend_from_slice-2.ensures.items)
