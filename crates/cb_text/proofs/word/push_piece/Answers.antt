use Rattle.cb_text.proofs.Fronts.{behind, same}
use Rattle.cb_text.proofs.word.push_piece.Goals as goal

pub returns-in_err-extend_from_slice-clause-kept : goal.returns-in_err-extend_from_slice-clause-kept
returns-in_err-extend_from_slice-clause-kept c = same _ _ c.in_err-extend_from_slice.ensures.items

pub returns-clause-kept : goal.returns-clause-kept
returns-clause-kept c = behind _ _ _ c.in_ok-extend_from_slice.ensures.items
