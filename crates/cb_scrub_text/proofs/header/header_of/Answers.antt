use Rattle.std.proofs.Common.{◌≡◌, ℕ, List, length, ap, ◌∙◌, arith}
use Rattle.cb_script.specs.Spelling.{words_of}
use Rattle.cb_scrub_text.proofs.HeaderText.{header_splits, text_from_words}
use Rattle.cb_scrub_text.proofs.header.header_of.Goals as goal

pub returns-in_err-count : goal.returns-in_err-count
returns-in_err-count c = rw c.from_residual.ensures (λ s is.
    let four : length (words_of c.args.text.now) ≡ 4 = ap (λ (text : List ℕ). length (words_of text)) is.1 ∙ ap (λ (words : List (List ℕ)). length words) (header_splits s.k s.r is.0) in
    omega (arith, four, c.in_err-count.ensures.cut))

pub returns : goal.returns
returns c = text_from_words c.args.text.now _ c.sizes_of.result c.in_ok-count.ensures.cut c.sizes_of.ensures
