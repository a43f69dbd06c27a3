use Rattle.cb_text.proofs.Fronts.{behind, same, both}
use Rattle.cb_text.proofs.line.push_parts.Goals as goal

pub returns-in_err-extend_from_slice-clause-kept : goal.returns-in_err-extend_from_slice-clause-kept
returns-in_err-extend_from_slice-clause-kept c = same _ _ c.in_err-extend_from_slice.ensures.items

pub returns-in_err-push_word-clause-kept : goal.returns-in_err-push_word-clause-kept
returns-in_err-push_word-clause-kept c =
    both _ _ _ (behind _ _ _ c.in_ok-extend_from_slice.ensures.items)
    c.in_err-push_word.ensures.kept

pub returns-in_err-push_subject-clause-kept : goal.returns-in_err-push_subject-clause-kept
returns-in_err-push_subject-clause-kept c =
    let lane = behind _ _ _ c.in_ok-extend_from_slice.ensures.items in
    let verb = both _ _ _ lane c.in_ok-push_word.ensures.kept in
    both _ _ _ verb c.in_err-push_subject.ensures.kept

pub returns-in_err-push_reply-clause-kept : goal.returns-in_err-push_reply-clause-kept
returns-in_err-push_reply-clause-kept c =
    let lane = behind _ _ _ c.in_ok-extend_from_slice.ensures.items in
    let verb = both _ _ _ lane c.in_ok-push_word.ensures.kept in
    let subject = both _ _ _ verb c.in_ok-push_subject.ensures.kept in
    both _ _ _ subject c.in_err-push_reply.ensures.kept

pub returns-in_err-push-clause-kept : goal.returns-in_err-push-clause-kept
returns-in_err-push-clause-kept c =
    let lane = behind _ _ _ c.in_ok-extend_from_slice.ensures.items in
    let verb = both _ _ _ lane c.in_ok-push_word.ensures.kept in
    let subject = both _ _ _ verb c.in_ok-push_subject.ensures.kept in
    let reply = both _ _ _ subject c.in_ok-push_reply.ensures.kept in
    both _ _ _ reply (same _ _ c.in_err-push.ensures.items)

pub returns-clause-kept : goal.returns-clause-kept
returns-clause-kept c =
    let lane = behind _ _ _ c.in_ok-extend_from_slice.ensures.items in
    let verb = both _ _ _ lane c.in_ok-push_word.ensures.kept in
    let subject = both _ _ _ verb c.in_ok-push_subject.ensures.kept in
    let reply = both _ _ _ subject c.in_ok-push_reply.ensures.kept in
    both _ _ _ reply (behind _ _ _ c.in_ok-push.ensures.items)
