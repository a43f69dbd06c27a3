use Rattle.std.proofs.Common.{◌∷◌, ◌++◌, [], List, Option, None, ap, ◌∙◌}
use Rattle.std.proofs.lemmas.List.{replicate_more}
use Rattle.cb_world.specs.declared.homes.Home.{Home}
use Rattle.cb_world.proofs.homes.Homes.new.Goals as goal

pub loop-preserved : goal.loop-preserved
loop-preserved c =
    c.in_ok-push.ensures.items
    ∙ ap (λ (homes : List (Option Home)). homes ++ None ∷ []) c.loop.invariant
    ∙ replicate_more c.loop.counter None
