use Rattle.std.proofs.Common.{ℕ, ◌+◌, ◌<◌, List, length, get_or, set, ap, sym, ◌∙◌, subst}
use Rattle.cb_member.specs.declared.names.Shard.{Shard}
use Rattle.cb_set.specs.Lost.{is_lost}
use Rattle.cb_set.proofs.Survivors.{Found, found_lost, found_more}
use Rattle.cb_set.proofs.span_set.SpanSet.survivors.Goals as goal
use Rattle.cb_set.proofs.span_set.SpanSet.survivors.Goals.{then-not-is_lost, else-not-is_lost}

pub loop-p-preserved : goal.loop-p-preserved
loop-p-preserved c =
    let m = c.args.m.now in
    let shards = c.args.self.now.shards in
    let i = c.loop-p.p in
    let d : Shard = record { node = record { n = 0 }; incarnation = 0; key = 0 } in
    let g = c.shards-shard-items.ensures.shards in
    let same = ap (λ (l : List Shard). is_lost m (get_or l i d)) (sym g) in
    let within : i < length shards =
    subst (λ (l : List Shard). i < length l) g c.loop-p-test.true in
    elim c.if-not-is_lost.branch [
      | then-not-is_lost w ↦
          subst (λ (l : List ℕ). Found m shards (i + 1) l c.if-not-is_lost.count) (sym w.present-is)
          (subst (λ (n : ℕ). Found m shards (i + 1) (set c.loop-p.present c.loop-p.count i) n)
          (sym w.count-is)
          (found_more m shards i c.loop-p.present c.loop-p.count d c.loop-p.invariant within
          c.requires.few (same ∙ sym c.is_lost.ensures ∙ w.if-not-is_lost.true)))
      | else-not-is_lost w ↦
          subst (λ (l : List ℕ). Found m shards (i + 1) l c.if-not-is_lost.count) (sym w.present-is)
          (subst (λ (n : ℕ). Found m shards (i + 1) c.loop-p.present n) (sym w.count-is)
          (found_lost m shards i c.loop-p.present c.loop-p.count d c.loop-p.invariant within
          (same ∙ sym w.if-not-is_lost.ensures)))
    ]
