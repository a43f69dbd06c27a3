use Rattle.std.proofs.Common.{ℕ, ◌++◌, ◌∙◌, ap, length}
use Rattle.std.proofs.lemmas.Result.{on_ok_weaker}
use Rattle.cb_text.specs.Line.{text_of}
use Rattle.cb_gen.specs.Summary.{asked_text, refused_text, requests_text}
use Rattle.cb_gen.proofs.Joined.{joined}
use Rattle.cb_gen.proofs.summary.push_summary.Goals as goal

pub returns : goal.returns
returns c =
    let answers = c.args.answers.now in
    on_ok_weaker c.push_refused.result (λ refused.
    joined c.args.told.now.items (asked_text c.args.seed c.args.lines c.args.lanes)
    (requests_text answers) (refused_text answers
    (length (text_of answers))) c.in_ok-push_asked.ensures c.in_ok-push_requests.ensures
    (refused ∙ ap (λ (n : ℕ). c.push_requests.new.told.items ++ refused_text answers n) c.requires.text))
    c.push_refused.ensures
