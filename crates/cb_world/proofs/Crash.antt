-- A crash of a node, over the far part of the sound world.
use Rattle.std.proofs.Common.{◌≡◌, ◌≢◌, ℕ, ◌<◌, true, List, length, Option, Some, None, is_some, sym, ap, ◌∙◌, arith, length-set}
use Rattle.std.specs.FinMap as map
use Rattle.cb_member.specs.declared.names.NodeId.{NodeId}
use Rattle.cb_member.specs.declared.names.Shard.{Shard}
use Rattle.cb_member.specs.Membership.{IsMembership, alive, with_crash}
use Rattle.cb_node.specs.NodesState.{NodesState, with_rows, row_under}
use Rattle.cb_world.specs.declared.shown.Shown.{Shown}
use Rattle.cb_node.proofs.Laws.{change_keeps_other_nodes as rows_elsewhere}
use Rattle.cb_set.proofs.Laws.{crash_keeps_other_nodes}
use Rattle.cb_world.specs.FarState.{FarState}
use Rattle.cb_world.specs.NodeChanges.{crashed_far}
use Rattle.cb_world.proofs.Rooms.{room_wiped}
use Rattle.cb_world.proofs.Storing.{wiped_node_is_empty}
use Rattle.cb_world.specs.FarSound.{AreShardRows, Owner, of_set, of_leaving, of_joining, IsShardOf, AwaySound}
use Rattle.cb_world.proofs.Words.{crash_keeps_word, crash_keeps_current, crash_survivor, crash_keeps_incarnations}

same_shards : (far : FarState) (node : NodeId) (o : Owner) (a : Shard)
    → IsShardOf (crashed_far far node) o a → IsShardOf far o a
same_shards far node (of_set id p) a is = is
same_shards far node (of_leaving p) a is = is
same_shards far node (of_joining p) a is = is

back_shards : (far : FarState) (node : NodeId) (o : Owner) (a : Shard) → IsShardOf far o a
    → IsShardOf (crashed_far far node) o a
back_shards far node (of_set id p) a is = is
back_shards far node (of_leaving p) a is = is
back_shards far node (of_joining p) a is = is

none_some : (x y : Option (List ℕ)) (row : List ℕ) → x ≡ None → x ≡ Some row → ⊥
none_some x y row e f = cc

-- a row that is still there stands at another node
left_elsewhere : (nodes : NodesState) (node q : NodeId) (key : ℕ) (row : List ℕ)
    → node.n < length nodes.nodes → row_under (with_rows nodes node map.empty) q key ≡ Some row
    → (q.n ≢ node.n) × (row_under nodes q key ≡ Some row)
left_elsewhere nodes node q key row within at =
    let off : q.n ≢ node.n =
    λ here. none_some _ None row (wiped_node_is_empty nodes node q key within here) at in
    (off, ap (λ rows. map.get rows key) (sym (rows_elsewhere nodes node q map.empty off)) ∙ at)

crash_keeps_rows : (far : FarState) (node : NodeId) → AreShardRows far
    → node.n < length far.members.nodes → alive far.members node ≡ true
    → IsMembership (with_crash far.members node) → AreShardRows (crashed_far far node)
crash_keeps_rows far node rows within up valid = record {
  members = valid;
  counted = omega (arith, counts);
  room = room_wiped far.nodes node rows.room;
  owned = λ q key row at. let x =
      left_elsewhere far.nodes node q key row (omega (arith, rows.counted, within)) at in
      let y = rows.owned q key row x.1 in (
        y.0,
        y.1,
        back_shards far node y.0 y.1 y.2,
        y.3,
        y.4,
        ap is_some (crash_keeps_other_nodes far.members node y.1 (λ here. x.0 (sym y.3 ∙ here)))
            ∙ y.5,
      );
  one = λ o q a b x y same.
      rows.one o q a b (same_shards far node o a x) (same_shards far node q b y) same;
  drawn = λ o a x. rows.drawn o a (same_shards far node o a x);
  current = λ o a x. let c = rows.current o a (same_shards far node o a x) in
      let count : length (with_crash far.members node).nodes ≡ length far.members.nodes =
      length-set far.members.nodes node.n _ in (
        omega (arith, c.0, count),
        omega (arith, c.1, crash_keeps_incarnations far.members node a.node within),
      );
}
  where
    counts : length (crashed_far far node).nodes.nodes ≡ length (crashed_far far node).members.nodes
    counts = length-set far.nodes.nodes node.n _ ∙ rows.counted
        ∙ sym (length-set far.members.nodes node.n _)

-- the sets, their homes, the rows and the batch stay sound
pub crash_keeps : (s : Shown) (far : FarState) (node : NodeId) → AwaySound s far
    → node.n < length far.members.nodes → alive far.members node ≡ true
    → IsMembership (with_crash far.members node) → AwaySound s (crashed_far far node)
crash_keeps s far node sound within up valid = record {
  sets = record {
    shaped = λ id set at. let x =
        sound.sets.shaped id set at in
        record {
          range = x.range;
          data_first = x.data_first;
          pages = x.pages;
          distinct = x.distinct;
          current =
              crash_keeps_current far.members node set.shards within x.current;
        };
    worded = λ id set at. let x = sound.sets.worded id set at in (
      x.0,
      record {
        word =
            crash_keeps_word far.nodes far.members node set x.0 sound.rows.members within up
            (sound.sets.shaped id set at).current x.1.word;
        holds = x.1.holds;
      },
    );
    live = sound.sets.live;
    kept = sound.sets.kept;
    numbered = sound.sets.numbered;
  };
  away = record { away = sound.away.away; home = sound.away.home; named = sound.away.named };
  rows = crash_keeps_rows far node sound.rows within up valid;
  batch = λ b at. let x = sound.batch b at in record {
    word = x.word;
    bare = x.bare;
    count = x.count;
    put = λ p shard is kept. let c = sound.rows.current (of_leaving p) shard (b, at, is) in
        let y = crash_survivor far.members node shard sound.rows.members within up c.1 kept in
        ap (λ rows. map.get rows shard.key) (rows_elsewhere far.nodes node shard.node map.empty y.0)
        ∙ x.put p shard is y.1;
    apart = x.apart;
  };
}
