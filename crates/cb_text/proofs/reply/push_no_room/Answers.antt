use Rattle.std.proofs.Common.{ap, ◌∙◌, ◌++◌, List, ℕ}
use Rattle.std.specs.Prelude.{codes}
use Rattle.cb_text.specs.Line.{spaced, word_and_number}
use Rattle.cb_text.proofs.Digits.{four_parts}
use Rattle.cb_text.proofs.Fronts.{both}
use Rattle.cb_text.proofs.reply.push_no_room.Goals as goal

pub returns-clause-text : goal.returns-clause-text
returns-clause-text c =
    let text = c.args.text.now.items in
    let word = spaced (codes "noroom") in
    let frames = word_and_number (codes "frames") c.args.frames in
    let loose = word_and_number (codes "loose") c.args.loose in
    let nodes = word_and_number (codes "nodes") c.args.nodes in
    c.in_ok-push_counted-3.ensures.text
    ∙ ap (λ (l : List ℕ). l ++ nodes)
    (c.in_ok-push_counted-2.ensures.text
    ∙ ap (λ (l : List ℕ). l ++ loose)
    (c.in_ok-push_counted.ensures.text
    ∙ ap (λ (l : List ℕ). l ++ frames) c.in_ok-push_word.ensures.text))
    ∙ four_parts text word frames loose nodes

pub returns-in_err-push_word-clause-kept : goal.returns-in_err-push_word-clause-kept
returns-in_err-push_word-clause-kept c = c.in_err-push_word.ensures.kept

pub returns-in_err-push_counted-clause-kept : goal.returns-in_err-push_counted-clause-kept
returns-in_err-push_counted-clause-kept c =
    both _ _ _ c.in_ok-push_word.ensures.kept c.in_err-push_counted.ensures.kept

pub returns-in_err-push_counted-2-clause-kept : goal.returns-in_err-push_counted-2-clause-kept
returns-in_err-push_counted-2-clause-kept c =
    let frames = both _ _ _ c.in_ok-push_word.ensures.kept c.in_ok-push_counted.ensures.kept in
    both _ _ _ frames c.in_err-push_counted-2.ensures.kept

pub returns-in_err-push_counted-3-clause-kept : goal.returns-in_err-push_counted-3-clause-kept
returns-in_err-push_counted-3-clause-kept c =
    let frames = both _ _ _ c.in_ok-push_word.ensures.kept c.in_ok-push_counted.ensures.kept in
    let loose = both _ _ _ frames c.in_ok-push_counted-2.ensures.kept in
    both _ _ _ loose c.in_err-push_counted-3.ensures.kept

pub returns-clause-kept : goal.returns-clause-kept
returns-clause-kept c =
    let frames = both _ _ _ c.in_ok-push_word.ensures.kept c.in_ok-push_counted.ensures.kept in
    let loose = both _ _ _ frames c.in_ok-push_counted-2.ensures.kept in
    both _ _ _ loose c.in_ok-push_counted-3.ensures.kept
