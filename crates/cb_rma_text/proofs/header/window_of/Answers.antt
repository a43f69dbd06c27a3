use Rattle.std.proofs.Common.{◌≡◌, length, ap, ◌∙◌, arith}
use Rattle.cb_script.specs.Spelling.{words_of}
use Rattle.cb_rma_text.specs.Spelling.{window_words}
use Rattle.cb_rma_text.proofs.Windows.{window_of_words, window_splits}
use Rattle.cb_rma_text.proofs.header.window_of.Goals as goal

pub returns-in_err-count : goal.returns-in_err-count
returns-in_err-count c =
    rw c.from_residual.ensures (λ window is.
    let words : words_of c.args.text.now ≡ window_words window = ap words_of is.1 ∙ window_splits window is.0 in
    omega (arith, c.in_err-count.ensures.cut, ap length words))

pub returns : goal.returns
returns c = window_of_words c.args.text.now _ c.window_of_words.result c.in_ok-count.ensures.cut c.window_of_words.ensures
