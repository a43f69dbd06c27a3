use Rattle.cb_map_text.proofs.Commands.{of_three_words}
use Rattle.cb_map_text.proofs.line.with_numbers.Goals as goal

pub returns-in_err-verb : goal.returns-in_err-verb
returns-in_err-verb c =
    rw c.from_residual.ensures (λ command is.
    let words = of_three_words c.args.verb.now c.args.first.now c.args.second.now command is in
    (rw c.in_err-verb.was at c.pair_verb_of.ensures) words.0 words.3)
