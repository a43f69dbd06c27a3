-- Rows that are dropped one after another.
use Rattle.std.proofs.Common.{◌≡◌, ℕ, suc, ◌+◌, ◌<◌, List, ◌∷◌, length, drop, get_or, Option, None, Some, sym, refl, ap, ◌∙◌, arith, drop-cons}
use Rattle.std.proofs.lemmas.Option.{slice_get-get_or}
use Rattle.cb_member.specs.declared.names.Shard.{Shard}
use Rattle.cb_node.specs.NodesState.{NodesState, with_dropped}
use Rattle.cb_world.specs.Reserved.{put_shards}
use Rattle.cb_world.specs.Stored.{AreThere, all_dropped}
use Rattle.cb_world.proofs.BatchGone.{put_at}

-- the loop's step: one place less
drops_one : (nodes new : NodesState) (o : Option Shard) (rest : List (Option Shard))
    → ((shard : Shard) → o ≡ Some shard → new ≡ with_dropped nodes shard.node shard.key)
    → (o ≡ None → new ≡ nodes)
    → all_dropped new (put_shards rest) ≡ all_dropped nodes (put_shards (o ∷ rest))
drops_one nodes new None rest put none =
    ap (λ (n : NodesState). all_dropped n (put_shards rest)) (none refl)
drops_one nodes new (Some shard) rest put none =
    ap (λ (n : NodesState). all_dropped n (put_shards rest)) (put shard refl)

pub put_drops_more : (nodes new : NodesState) (shards : List (Option Shard)) (i : ℕ) (d : Option Shard)
    → i < length shards
    → ((shard : Shard) → get_or shards i d ≡ Some shard
    → new ≡ with_dropped nodes shard.node shard.key)
    → (get_or shards i d ≡ None → new ≡ nodes)
    → all_dropped new (put_shards (drop (i + 1) shards))
    ≡ all_dropped nodes (put_shards (drop i shards))
put_drops_more nodes new shards i d within put none =
    let next : suc i ≡ i + 1 = omega arith in
    drops_one nodes new (get_or shards i d) (drop (i + 1) shards) put none
    ∙ sym (ap (λ (l : List (Option Shard)). all_dropped nodes (put_shards l))
    (drop-cons shards i d within
    ∙ ap (λ (n : ℕ). get_or shards i d ∷ drop n shards) next))

-- the node of the shard at a place is there
pub node_there : (nodes : NodesState) (shards : List (Option Shard)) (i : ℕ) (d : Option Shard)
    (shard : Shard) → i < length shards → AreThere nodes (put_shards shards)
    → get_or shards i d ≡ Some shard → shard.node.n < length nodes.nodes
node_there nodes shards i d shard within there e =
    let x = put_at shards i shard (slice_get-get_or shards i d within
    ∙ ap (λ (o : Option Shard). Some o) e) in there x.0 shard x.1
