use Rattle.std.proofs.Common.{◌+◌}
use Rattle.std.proofs.lemmas.Result.{IfOk-weaker}
use Rattle.cb_compact.specs.Candidates.{AreFirsts, AreWholeBut, IsAdded}
use Rattle.cb_compact.proofs.Choosing.{firsts_added}
use Rattle.cb_compact.proofs.Learned.{others_whole}
use Rattle.cb_compact.proofs.candidates.add_first.Goals as goal

pub returns-clause-found : goal.returns-clause-found
returns-clause-found c =
    let x = c.in-Some.ensures.found in let far = c.args.far.now in
    let old = c.args.firsts.now.found.items in let new = c.add_new.new.found.items in
    IfOk-weaker c.add_new.result (λ _. IsAdded old c.in-Some.candidate new)
    (λ _. AreFirsts far (c.args.id + 1) new)
    (λ _ added. firsts_added far c.args.id old new c.in-Some.candidate x.1 c.requires.found x.0 x.2
    added) c.add_new.ensures.added

pub returns-clause-others : goal.returns-clause-others
returns-clause-others c =
    let x = c.in-Some.ensures.found in let far = c.args.far.now in
    let others = c.args.firsts.now.others.items in
    IfOk-weaker c.add_new.result
    (λ _. IsAdded c.args.firsts.now.found.items c.in-Some.candidate c.add_new.new.found.items)
    (λ _. AreWholeBut far (c.args.id + 1) others)
    (λ _ added. others_whole far c.args.id others c.in-Some.candidate x.1 c.requires.others x.0 x.2)
    c.add_new.ensures.added
