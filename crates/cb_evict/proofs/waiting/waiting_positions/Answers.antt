use Rattle.std.proofs.Common.{ℕ, ◌+◌, List, set, sym, ◌∙◌, subst, arith}
use Rattle.cb_evict.proofs.WhichWait.{FoundWaiting, found_put, found_more}
use Rattle.cb_evict.proofs.waiting.waiting_positions.Goals as goal
use Rattle.cb_evict.proofs.waiting.waiting_positions.Goals.{then-is_waiting, else-is_waiting}

pub loop-p-preserved : goal.loop-p-preserved
loop-p-preserved c =
    let m = c.args.members.now in
    let shards = c.args.shards.now in
    let n = c.loop-p.p in
    elim c.if-is_waiting.branch [
      | then-is_waiting w ↦
          subst (λ (l : List ℕ). FoundWaiting m shards (n + 1) l c.if-is_waiting.count)
          (sym w.found-is)
          (subst (λ (k : ℕ). FoundWaiting m shards (n + 1) (set c.loop-p.found c.loop-p.count n) k)
          (sym w.count-is)
          (found_more m shards n c.loop-p.found c.loop-p.count c.loop-p.invariant
          (omega (arith, c.loop-p-test.true, c.requires.few))
          (sym c.is_waiting.ensures ∙ w.if-is_waiting.true)))
      | else-is_waiting w ↦
          subst (λ (l : List ℕ). FoundWaiting m shards (n + 1) l c.if-is_waiting.count)
          (sym w.found-is)
          (subst (λ (k : ℕ). FoundWaiting m shards (n + 1) c.loop-p.found k) (sym w.count-is)
          (found_put m shards n c.loop-p.found c.loop-p.count c.loop-p.invariant
          (sym c.is_waiting.ensures ∙ w.if-is_waiting.false)))
    ]
