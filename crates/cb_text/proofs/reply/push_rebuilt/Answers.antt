use Rattle.std.proofs.Common.{ap, ◌∙◌, ◌++◌, List, ℕ}
use Rattle.std.specs.Prelude.{codes}
use Rattle.cb_text.specs.Line.{spaced, word_and_number}
use Rattle.cb_text.proofs.Digits.{three_parts}
use Rattle.cb_text.proofs.Fronts.{both}
use Rattle.cb_text.proofs.reply.push_rebuilt.Goals as goal

pub returns-clause-text : goal.returns-clause-text
returns-clause-text c =
    let text = c.args.text.now.items in
    let word = spaced (codes "rebuilt") in
    let set = word_and_number (codes "set") c.args.set.n in
    let position = word_and_number (codes "position") c.args.position in
    let node = word_and_number (codes "node") c.args.node.n in
    c.in_ok-push_counted-2.ensures.text
    ∙ ap (λ (l : List ℕ). l ++ node)
    (c.in_ok-push_counted.ensures.text
    ∙ ap (λ (l : List ℕ). l ++ position) c.in_ok-push_set.ensures.text)
    ∙ three_parts text (word ++ set) position node

pub returns-in_err-push_set-clause-kept : goal.returns-in_err-push_set-clause-kept
returns-in_err-push_set-clause-kept c = c.in_err-push_set.ensures.kept

pub returns-in_err-push_counted-clause-kept : goal.returns-in_err-push_counted-clause-kept
returns-in_err-push_counted-clause-kept c =
    both _ _ _ c.in_ok-push_set.ensures.kept c.in_err-push_counted.ensures.kept

pub returns-in_err-push_counted-2-clause-kept : goal.returns-in_err-push_counted-2-clause-kept
returns-in_err-push_counted-2-clause-kept c =
    let position = both _ _ _ c.in_ok-push_set.ensures.kept c.in_ok-push_counted.ensures.kept in
    both _ _ _ position c.in_err-push_counted-2.ensures.kept

pub returns-clause-kept : goal.returns-clause-kept
returns-clause-kept c =
    let position = both _ _ _ c.in_ok-push_set.ensures.kept c.in_ok-push_counted.ensures.kept in
    both _ _ _ position c.in_ok-push_counted-2.ensures.kept
