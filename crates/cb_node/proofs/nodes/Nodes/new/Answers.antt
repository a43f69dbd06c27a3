use Rattle.std.proofs.Common.{◌∷◌, ◌++◌, [], List, sym, ap, ◌∙◌, subst, arith}
use Rattle.std.specs.FinMap as map
use Rattle.std.proofs.lemmas.List.{replicate_more}
use Rattle.cb_node.specs.NodesState.{IsNodes, nodes_of}
use Rattle.cb_node.specs.Rows.{RowsByKey}
use Rattle.cb_node.proofs.Kept.{IsNodes-empty_nodes}
use Rattle.cb_node.proofs.nodes.Nodes.new.Goals as goal

pub loop-preserved : goal.loop-preserved
loop-preserved c =
    c.in_ok-push.ensures.items ∙ (λ i. c.loop.all.items ++ c.new.ensures i ∷ [])
    ∙ ap (λ (nodes : List RowsByKey). nodes ++ map.empty ∷ []) c.loop.invariant
    ∙ replicate_more c.loop.counter map.empty

pub invariant_of-result : goal.invariant_of-result
invariant_of-result c =
    subst (λ (nodes : List RowsByKey). IsNodes (nodes_of c.args.room 0 nodes))
    (sym c.loop.invariant)
    (IsNodes-empty_nodes c.loop.counter c.args.room
    (omega (arith, c.loop.auto.counter-end, c.ranges.nodes.fits)) c.ranges.room.fits)

pub returns-clause-valid : goal.returns-clause-valid
returns-clause-valid c =
    subst (λ (nodes : List RowsByKey). IsNodes (nodes_of c.args.room 0 nodes))
    (sym c.loop.invariant)
    (IsNodes-empty_nodes c.loop.counter c.args.room
    (omega (arith, c.loop.auto.counter-end, c.ranges.nodes.fits)) c.ranges.room.fits)
