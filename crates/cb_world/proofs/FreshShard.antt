-- The shard for a new row: it is not lost, and no row stands under its key.
use Rattle.std.proofs.Common.{◌≡◌, ℕ, ◌+◌, ◌<◌, ◌≤◌, Bool, true, false, nat_lt, ◌&&◌, List, length, Option, Some, None, is_some, if◌then◌else◌, refl, ap, ◌∙◌, arith}
use Rattle.std.specs.Option.{option_map}
use Rattle.std.proofs.lemmas.Bool.{false≢true, ltb-true}
use Rattle.std.proofs.lemmas.Option.{slice_get_past}
use Rattle.cb_member.specs.declared.names.Epoch.{Epoch}
use Rattle.cb_member.specs.declared.names.Loss.{Loss}
use Rattle.cb_member.specs.declared.names.NodeId.{NodeId}
use Rattle.cb_member.specs.declared.names.Shard.{Shard}
use Rattle.cb_member.specs.Membership.{alive, ended_incarnations, fresh_node, incarnation, node_state}
use Rattle.cb_node.specs.NodesState.{has, held, row_under}
use Rattle.cb_set.specs.Lost.{is_lost}
use Rattle.cb_world.specs.Choices.{IsLeastNode}
use Rattle.cb_world.specs.FarState.{FarState}
use Rattle.cb_world.specs.FarSound.{AreShardRows}

-- the shard is of the incarnation that is on, of a node that is alive
pub record IsUpShard (far : FarState) (shard : Shard) : Type 0 where
  pub within : shard.node.n < length far.nodes.nodes
  pub up : alive far.members shard.node ≡ true
  pub incarnation : shard.incarnation ≡ incarnation far.members shard.node

both : (a b : Bool) → a && b ≡ true → (a ≡ true) × (b ≡ true)
both true true e = (refl, refl)
both true false e = absurd (false≢true e)
both false b e = absurd (false≢true e)

-- so is one on the least node that a row can be put at
pub up_on_least : (far : FarState) (others : List Shard) (shard : Shard)
    → IsLeastNode far.nodes far.members others shard.node
    → shard.incarnation ≡ incarnation far.members shard.node → IsUpShard far shard
up_on_least far others shard node current = record {
  within = node.may.within;
  up = (both (alive far.members shard.node) (nat_lt (held far.nodes shard.node) far.nodes.room)
      node.may.room).0;
  incarnation = current;
}

-- and there is room for a row
pub fits_on_least : (far : FarState) (others : List Shard) (node : NodeId)
    → IsLeastNode far.nodes far.members others node → held far.nodes node < far.nodes.room
fits_on_least far others node x = ltb-true (held far.nodes node) far.nodes.room
    (both (alive far.members node) (nat_lt (held far.nodes node) far.nodes.room) x.may.room).1

abbrev loss : Shard → Epoch → Loss
loss shard epoch = record { node = shard.node; epoch = epoch }

-- it is of no incarnation that is over
pub up_is_kept : (far : FarState) (shard : Shard) → AreShardRows far → IsUpShard far shard
    → is_lost far.members shard ≡ false
up_is_kept far shard rows x =
    let state = node_state far.members shard.node in
    let within : shard.node.n < length far.members.nodes =
    let w = x.within in omega (arith, w, rows.counted) in
    let ended : length state.crashes ≡ ended_incarnations state =
    rows.members.ended shard.node.n fresh_node within in
    let over : length state.crashes ≡ state.incarnation =
    ended ∙ ap (λ (b : Bool). if b then state.incarnation else state.incarnation + 1) x.up in
    ap (λ (o : Option Epoch). is_some (option_map (λ epoch. loss shard epoch) o))
    (slice_get_past state.crashes shard.incarnation (let e = x.incarnation in omega (arith, over, e)))

-- nor of one that is still to come
pub up_is_current : (far : FarState) (shard : Shard) → AreShardRows far → IsUpShard far shard
    → (shard.node.n < length far.members.nodes)
    × (shard.incarnation ≤ incarnation far.members shard.node)
up_is_current far shard rows x =
    let w = x.within in let e = x.incarnation in
    (omega (arith, w, rows.counted), omega (arith, e))

-- no row stands under a key that was not drawn yet
pub undrawn_is_fresh : (far : FarState) (node : NodeId) (key : ℕ) → AreShardRows far
    → far.counts.keys ≤ key → has far.nodes node key ≡ false
undrawn_is_fresh far node key rows undrawn = by (row_under far.nodes node key) refl
  where
    by : (o : Option (List ℕ)) → row_under far.nodes node key ≡ o → has far.nodes node key ≡ false
    by None is = ap is_some is
    by (Some row) is =
        let x = rows.owned node key row is in
        let less = rows.drawn x.0 x.1 x.2 in
        absurd (let same = x.4 in omega (arith, less, same, undrawn))
