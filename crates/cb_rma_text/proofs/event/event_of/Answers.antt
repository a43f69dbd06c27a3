use Rattle.std.proofs.Common.{◌≡◌, length, ap, ◌∙◌, arith}
use Rattle.cb_script.specs.Spelling.{words_of}
use Rattle.cb_rma_text.specs.Spelling.{step_words}
use Rattle.cb_rma_text.proofs.Events.{few_words, read_of_words, step_splits}
use Rattle.cb_rma_text.proofs.event.event_of.Goals as goal

pub returns-in-Some : goal.returns-in-Some
returns-in-Some c =
    read_of_words c.args.text.now _ c.event_of_words.result c.in-Some.ensures.cut c.event_of_words.ensures

pub returns-in-None : goal.returns-in-None
returns-in-None c = λ event is.
    let words : words_of c.args.text.now ≡ step_words event = ap words_of is.1 ∙ step_splits event is.0 in
    omega (arith, c.in-None.ensures.cut, ap length words, few_words event)
