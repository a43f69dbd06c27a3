use Rattle.std.proofs.Common.{◌∙◌, rules, tests}
use Rattle.std.proofs.lemmas.Iterator.{YieldsList-from_slice}
use Rattle.std.proofs.lemmas.Iterator.Consumers.{YieldsList-from_filter, count_from_yields_List}
use Rattle.std.proofs.lemmas.List.Sums.{length-filter}
use Rattle.cb_gen.specs.Summary.{is_of}
use Rattle.cb_gen.proofs.summary.count.Goals as goal

pub returns : goal.returns
returns c =
    let answers = c.args.answers.now in
    count_from_yields_List c.filter.result _ c.count.ensures.ran
    (YieldsList-from_filter _ (is_of c.args.kind.now)
    (YieldsList-from_slice answers cc) c.filter.ensures.closure (λ x b q k. search
    (rules, tests)))
    ∙ length-filter (is_of c.args.kind.now) answers
