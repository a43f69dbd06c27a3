use Rattle.std.proofs.Common.{ap, ◌∙◌, codes}
use Rattle.std.proofs.lemmas.Result.{IfOk-weaker}
use Rattle.clap.specs.Simple.{App, with_rule}
use Rattle.cb_cli.specs.Reader.{option_rule}
use Rattle.cb_cli.proofs.words.reader.Goals as goal

pub returns : goal.returns
returns c =
    IfOk-weaker c.with_option-3.result _ _ (λ made is.
    is ∙ ap (λ (a : App). with_rule a (option_rule (codes "lanes"))) (c.in_ok-lines.ensures
    ∙ ap (λ (a : App). with_rule a (option_rule (codes "lines"))) (c.in_ok-seed.ensures
    ∙ ap (λ (a : App). with_rule a (option_rule (codes "seed"))) c.in_ok-word.ensures))) c.with_option-3.ensures
