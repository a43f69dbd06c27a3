use Rattle.std.proofs.Common.{◌∙◌, ap, rules}
use Rattle.std.proofs.lemmas.List.{take_all}
use Rattle.cb_rma_text.specs.Texts.{said_text}
use Rattle.cb_rma_text.proofs.said.saids_text.Goals as goal

pub returns : goal.returns
returns c =
    c.from.ensures ∙ c.loop-said.invariant
    ∙ ap said_text (take_all c.loop-said.said-index c.args.saids.now (search rules))
