use Rattle.std.proofs.Common.{List, [], ◌∷◌, ◌++◌, Option, take, ap, sym, ◌∙◌}
use Rattle.cb_member.specs.declared.names.Shard.{Shard}
use Rattle.cb_world.specs.Reserved.{put_shards}
use Rattle.std.proofs.lemmas.List.{append-nil}
use Rattle.cb_evict.proofs.PutShards.{puts_more}
use Rattle.cb_evict.proofs.next_put.push_put.Goals as goal
use Rattle.cb_evict.proofs.next_put.push_put.Goals.{in-Some+in_ok-push, in_default}

pub loop-put-preserved : goal.loop-put-preserved
loop-put-preserved c =
    let start = c.args.into.now.items in let shards = c.args.shards.now in
    let n = c.loop-put.put-index in
    let front = start ++ put_shards (take n shards) in
    elim c.match-put.branch [
      | in-Some+in_ok-push w ↦
          ap (λ v. v.items) w.into-is ∙ w.in_ok-push.ensures.items
          ∙ ap (λ (l : List Shard). l ++ w.in-Some.shard ∷ []) c.loop-put.invariant
          ∙ ap (λ (o : Option Shard). front ++ put_shards (o ∷ [])) (sym w.in-Some.is)
          ∙ sym (puts_more start shards n c.loop-put-test.true)
      | in_default w ↦
          ap (λ v. v.items) w.into-is ∙ c.loop-put.invariant
          ∙ sym (append-nil front)
          ∙ ap (λ (o : Option Shard). front ++ put_shards (o ∷ [])) (sym w.in_default.is)
          ∙ sym (puts_more start shards n c.loop-put-test.true)
    ]
