use Rattle.std.proofs.Common.{◌≡◌, length, ap, ◌∙◌, arith}
use Rattle.cb_script.specs.Spelling.{words_of}
use Rattle.cb_map_text.specs.Spelling.{command_words}
use Rattle.cb_map_text.proofs.Commands.{command_splits, few_words, read_of_words}
use Rattle.cb_map_text.proofs.line.command_of.Goals as goal

pub returns-in_err-count : goal.returns-in_err-count
returns-in_err-count c =
    rw c.from_residual.ensures (λ command is.
    let words : words_of c.args.text.now ≡ command_words command = ap words_of is.1 ∙ command_splits command is.0 in
    omega (arith, c.in_err-count.ensures.cut, ap length words, few_words command))

pub returns : goal.returns
returns c = read_of_words c.args.text.now _ c.command_of_words.result c.in_ok-count.ensures.cut c.command_of_words.ensures
