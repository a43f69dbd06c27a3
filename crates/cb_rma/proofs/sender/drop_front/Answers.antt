use Rattle.std.proofs.Common.{drop, ap, ◌∙◌}
use Rattle.cb_rma.proofs.Lists.{drop_one_more}
use Rattle.cb_rma.proofs.sender.drop_front.Goals as goal

pub loop-preserved : goal.loop-preserved
loop-preserved c =
    c.pop_front.ensures.rest ∙ ap (λ items. drop 1 items) c.loop.invariant
    ∙ drop_one_more _ c.loop.counter
