use Rattle.cb_text.proofs.Fronts.{both}
use Rattle.cb_text.proofs.reply.push_reply.Goals as goal

pub returns-in_err-push_version-in-Bytes-clause-kept :
    goal.returns-in_err-push_version-in-Bytes-clause-kept
returns-in_err-push_version-in-Bytes-clause-kept c = c.in_err-push_version-in-Bytes.ensures.kept

pub returns-in_ok-push_version-in-Bytes-clause-kept :
    goal.returns-in_ok-push_version-in-Bytes-clause-kept
returns-in_ok-push_version-in-Bytes-clause-kept c =
    both _ _ _ c.in_ok-push_version-in-Bytes.ensures.kept
    c.push_hexadecimal.ensures.kept
