use Rattle.std.proofs.Common.{◌≡◌, ◌++◌, refl, sym, ap₂, ◌∙◌, rules}
use Rattle.std.proofs.lemmas.List.{take-append-drop, nil_from_length}
use Rattle.cb_text.proofs.Digits.{one_piece, none_left}
use Rattle.cb_text.proofs.Fronts.{same, both}
use Rattle.cb_text.proofs.word.push_digits.Goals as goal

pub loop-rest-init : goal.loop-rest-init
loop-rest-init c = (refl, same _ _ refl)

pub loop-rest-preserved : goal.loop-rest-preserved
loop-rest-preserved c =
    let rest = c.loop-rest.rest.now in
    let n = c.min.result in
    let piece = c.split_at.result.0.now in
    let behind = c.split_at.result.1.now in
    let parts : piece ++ behind ≡ rest =
    ap₂ ◌++◌ c.split_at.ensures.front c.split_at.ensures.back ∙ take-append-drop n rest in
    let text =
    one_piece c.loop-rest.text.items c.push_piece.new.text.items rest piece behind
    c.in_ok-push_piece.ensures.text parts
    ∙ c.loop-rest.invariant.0 in
    (text, both _ _ _ c.loop-rest.invariant.1 c.in_ok-push_piece.ensures.kept)

pub returns-in_err-push_piece-clause-kept : goal.returns-in_err-push_piece-clause-kept
returns-in_err-push_piece-clause-kept c =
    both _ _ _ c.loop-rest.invariant.1 c.in_err-push_piece.ensures.kept

pub returns-clause-text : goal.returns-clause-text
returns-clause-text c =
    let rest = c.loop-rest.rest.now in
    sym (none_left c.loop-rest.text.items rest (nil_from_length rest (search rules))) ∙ c.loop-rest.invariant.0

pub returns-clause-kept : goal.returns-clause-kept
returns-clause-kept c = c.loop-rest.invariant.1
