use Rattle.std.proofs.Common.{◌∷◌, ◌++◌, [], List, Option, None, ap, ◌∙◌, rules}
use Rattle.std.proofs.lemmas.List.{replicate_more}
use Rattle.cb_span.specs.Contents.{Contents}
use Rattle.cb_world.proofs.OpenSpans.{index_begun}
use Rattle.cb_world.proofs.spans.Spans.new.Goals as goal

pub loop-preserved : goal.loop-preserved
loop-preserved c =
    c.in_ok-push.ensures.items
    ∙ ap (λ (spans : List (Option Contents)). spans ++ None ∷ []) c.loop.invariant
    ∙ replicate_more c.loop.counter None

pub invariant_of-result : goal.invariant_of-result
invariant_of-result c =
    index_begun c.loop.frames.items c.in_ok-new.field-0 c.args.count (search rules)
    (c.in_ok-new.ensures)
