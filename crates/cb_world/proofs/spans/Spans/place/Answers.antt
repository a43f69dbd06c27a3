use Rattle.std.proofs.Common.{rules, Some}
use Rattle.cb_world.proofs.OpenSpans.{index_written}
use Rattle.cb_world.proofs.spans.Spans.place.Goals as goal

pub invariant_of-self-2 : goal.invariant_of-self-2
invariant_of-self-2 c =
    index_written c.self.inside.frames.items c.self.inside.index c.retell.new.self c.args.frame
    (Some c.place-placed.new.self) c.index.result.now c.index-2.result.now c.open_kind-before.result
    c.open_kind.result
    c.self.invariant (search rules) (search rules) (search rules) c.open_kind-before.ensures.kind
    c.open_kind.ensures.kind c.open_kind-before.ensures.below c.open_kind.ensures.below
    c.retell.ensures.retold
