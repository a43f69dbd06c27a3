use Rattle.std.proofs.Common.{rules, ◌+◌, ◌∙◌, sym, subst}
use Rattle.std.proofs.lemmas.Bool.{false≢true}
use Rattle.cb_world.proofs.Choices.{IsBest, best_stays, best_found, enough}
use Rattle.cb_world.proofs.choosing.least_node.Goals.{then-is_next, else-is_next}
use Rattle.cb_world.proofs.choosing.least_node.Goals as goal

pub loop-n-preserved : goal.loop-n-preserved
loop-n-preserved c =
    let nodes = c.args.nodes.now in let m = c.args.members.now in let shards = c.args.except.now in
    let n = c.loop-n.n in
    elim c.if-is_next.branch [
      | then-is_next w ↦ let x = c.is_next.ensures.0 w.if-is_next.true in
          subst (IsBest nodes m shards (n + 1)) (sym w.best-is)
          (best_found nodes m shards n c.loop-n.best c.loop-n.invariant x.0 x.1)
      | else-is_next w ↦ subst (IsBest nodes m shards (n + 1)) (sym w.best-is)
          (best_stays nodes m shards n c.loop-n.best c.loop-n.invariant
          (λ may less. false≢true (sym w.if-is_next.false ∙ c.is_next.ensures.1 (may, less))))
    ]

pub returns-clause-enough : goal.returns-clause-enough
returns-clause-enough c = enough c.args.nodes.now c.args.members.now c.args.except.now c.loop-n.best _ (search rules) c.loop-n.invariant
