-- What a crash, a step and a parting leave of the pair that is joining, and of the far part of the
-- sound world.
use Rattle.std.proofs.Common.{◌≡◌, ◌≢◌, ℕ, ◌<◌, ◌≤◌, true, false, List, length, set, Some, sym, ap, ◌∙◌, subst, arith}
use Rattle.std.specs.List.{slice_get}
use Rattle.std.specs.FinMap as map
use Rattle.cb_member.specs.declared.names.NodeId.{NodeId}
use Rattle.cb_member.specs.declared.names.Shard.{Shard}
use Rattle.cb_member.specs.Membership.{Membership, alive}
use Rattle.cb_node.specs.NodesState.{row_under}
use Rattle.cb_node.proofs.Laws.{change_keeps_other_nodes as rows_elsewhere}
use Rattle.cb_set.specs.SetState.{SetState}
use Rattle.cb_set.specs.Lost.{is_lost}
use Rattle.cb_world.specs.declared.shown.Shown.{Shown}
use Rattle.cb_world.specs.FarState.{FarState}
use Rattle.cb_world.specs.Sets.{set_in, SetMap}
use Rattle.cb_world.specs.Homes.{home_at}
use Rattle.cb_world.specs.Joining.{JoiningState}
use Rattle.cb_world.specs.SetWord.{IsShaped}
use Rattle.cb_world.specs.FarSound.{AreShardRows, of_set, of_leaving, IsShardOf, AwaySound}
use Rattle.cb_world.specs.Join.{IsFresh, AreFit, IsJoin}
use Rattle.cb_world.specs.JoinSteps.{LeavesSets}
use Rattle.cb_world.proofs.Words.{crash_survivor}
use Rattle.cb_world.specs.NodeChanges.{crashed_far}

-- ---- a change of anything else: where the pair is fresh after it, it was fresh before, and the
-- rows that it names stayed
pub record KeepsPair (far new : FarState) (pair : JoiningState) : Type 0 where
  pub more_sets : far.counts.sets ≤ new.counts.sets
  pub more_keys : far.counts.keys ≤ new.counts.keys
  pub fresh : (c d : SetState) → IsFresh new pair c d → (a : SetState) × (b : SetState)
      × IsFresh far pair a b × ((pages k : ℕ) → AreFit pair pages k a b → AreFit pair pages k c d)
  pub a_stay : (c d : SetState) → IsFresh new pair c d → (p : ℕ) (shard : Shard)
      → slice_get pair.shards_a p ≡ Some shard
      → row_under new.nodes shard.node shard.key ≡ row_under far.nodes shard.node shard.key
  pub b_stay : (c d : SetState) → IsFresh new pair c d → (p : ℕ) (shard : Shard)
      → slice_get pair.shards_b p ≡ Some shard
      → row_under new.nodes shard.node shard.key ≡ row_under far.nodes shard.node shard.key
  pub new_stay : (c d : SetState) → IsFresh new pair c d → (p : ℕ) (shard : Shard)
      → slice_get pair.steps p ≡ Some (Some shard)
      → row_under new.nodes shard.node shard.key ≡ row_under far.nodes shard.node shard.key

pub pair_kept : (far new : FarState) (pair : JoiningState) → KeepsPair far new pair
    → IsJoin far pair → IsJoin new pair
pair_kept far new pair x j = record {
  pages = j.pages;
  k = j.k;
  r = j.r;
  range = j.range;
  taken = j.taken;
  a_count = j.a_count;
  b_count = j.b_count;
  count = j.count;
  apart = j.apart;
  drawn = (omega (arith, j.drawn.0, x.more_sets), omega (arith, j.drawn.1, x.more_sets));
  a_keys = λ p shard at. omega (arith, j.a_keys p shard at, x.more_keys);
  b_keys = λ p shard at. omega (arith, j.b_keys p shard at, x.more_keys);
  steps = j.steps;
  beside = j.beside;
  fit = λ c d f. let y = x.fresh c d f in y.3 j.pages j.k (j.fit y.0 y.1 y.2);
  word = λ c d f. let y = x.fresh c d f in let m = j.word y.0 y.1 y.2 in (
    m.0,
    record {
      word = m.1.word;
      a_rows = λ i shard l t at. x.a_stay c d f i shard at ∙ m.1.a_rows i shard l t at;
      b_rows = λ i shard l t at. x.b_stay c d f i shard at ∙ m.1.b_rows i shard l t at;
      new_rows = λ p shard at. x.new_stay c d f p shard at ∙ m.1.new_rows p shard at;
    },
  );
}

-- ---- a crash: where it loses a shard of a or b the pair is stale, else all its rows stay
pub crash_keeps_join : (s : Shown) (far : FarState) (node : NodeId) (pair : JoiningState)
    → AwaySound s far → node.n < length far.members.nodes → alive far.members node ≡ true
    → IsJoin far pair → IsJoin (crashed_far far node) pair
crash_keeps_join s far node pair sound within up j =
    pair_kept far (crashed_far far node) pair (record {
      more_sets = omega arith;
      more_keys = omega arith;
      fresh = λ c d f. (c, d, before c d f, λ pages k fit. fit);
      a_stay = λ c d f p shard at. stays shard (a_left c d f p shard at).0;
      b_stay = λ c d f p shard at. stays shard (b_left c d f p shard at).0;
      new_stay = λ c d f p shard at. let y = j.beside p shard at in
          stays shard (λ here.
          (a_left c d f p y.0 y.1).0 (ap (λ (q : NodeId). q.n) (sym y.2.node) ∙ here));
    }) j
  where
    new : FarState
    new = crashed_far far node

    stays : (shard : Shard) → shard.node.n ≢ node.n
        → row_under new.nodes shard.node shard.key ≡ row_under far.nodes shard.node shard.key
    stays shard off =
        ap (λ rows. map.get rows shard.key) (rows_elsewhere far.nodes node shard.node map.empty off)

    a_left : (c d : SetState) → IsFresh new pair c d → (p : ℕ) (shard : Shard)
        → slice_get pair.shards_a p ≡ Some shard → (shard.node.n ≢ node.n)
        × (is_lost far.members shard ≡ false)
    a_left c d f p shard at =
        crash_survivor far.members node shard sound.rows.members within up
        (sound.rows.current (of_set pair.a p) shard (
          c,
          f.a_there,
          ap (λ (l : List Shard). slice_get l p) f.a_shards ∙ at,
        )).1 (f.a_whole p shard at)

    b_left : (c d : SetState) → IsFresh new pair c d → (p : ℕ) (shard : Shard)
        → slice_get pair.shards_b p ≡ Some shard → (shard.node.n ≢ node.n)
        × (is_lost far.members shard ≡ false)
    b_left c d f p shard at =
        crash_survivor far.members node shard sound.rows.members within up
        (sound.rows.current (of_set pair.b p) shard (
          d,
          f.b_there,
          ap (λ (l : List Shard). slice_get l p) f.b_shards ∙ at,
        )).1 (f.b_whole p shard at)

    before : (c d : SetState) → IsFresh new pair c d → IsFresh far pair c d
    before c d f =
        record {
          a_there = f.a_there;
          b_there = f.b_there;
          a_shards = f.a_shards;
          b_shards =
              f.b_shards;
          a_whole = λ p shard at. (a_left c d f p shard at).1;
          b_whole =
              λ p shard at. (b_left c d f p shard at).1;
        }

-- ---- a change of the pair alone
-- the sets, the homes and the batch stay where their rows stay
pub record KeepsRows (far new : FarState) : Type 0 where
  pub set_rows : (id p : ℕ) (shard : Shard) → IsShardOf far (of_set id p) shard
      → row_under new.nodes shard.node shard.key ≡ row_under far.nodes shard.node shard.key
  pub batch_rows : (p : ℕ) (shard : Shard) → IsShardOf far (of_leaving p) shard
      → row_under new.nodes shard.node shard.key ≡ row_under far.nodes shard.node shard.key

pub sets_kept : (s : Shown) (far new : FarState) → AwaySound s far → LeavesSets far new
    → KeepsRows far new → AreShardRows new → AwaySound s new
sets_kept s far new sound x keeps rows = record {
  sets = record {
    shaped = λ id set at.
        subst (λ (m : Membership).
        IsShaped m set) (sym x.members) (sound.sets.shaped id set (was id set at));
    worded = λ id set at. let y = sound.sets.worded id set (was id set at) in (
      y.0,
      record {
        word = record {
          code = y.1.word.code;
          survive = λ p shard is kept. keeps.set_rows id p shard (set, was id set at, is)
              ∙ y.1.word.survive p shard is (ap (λ (m : Membership). is_lost m shard) (sym x.members)
              ∙ kept);
        };
        holds = y.1.holds;
      },
    );
    live = λ id p set at. sound.sets.live id p set (was id set at);
    kept = λ id set at. sound.sets.kept id set (was id set at);
    numbered = λ id set at. omega (arith, sound.sets.numbered id set (was id set at), x.drawn);
  };
  away = record {
    away = λ h len v words at. let y =
        sound.away.away h len v words at in (y.0, ap (λ l. home_at l h) x.homes ∙ y.1);
    home = λ h home at. let y =
        sound.away.home h home (ap (λ l. home_at l h) (sym x.homes) ∙ at) in
        (y.0, ap (λ (m : SetMap). set_in m home.set) x.sets ∙ y.1, y.2);
    named = λ id p slot h set at named. ap (λ l. home_at l h) x.homes
        ∙ sound.away.named id p slot h set (was id set at) named;
  };
  rows = rows;
  batch = λ b at. let y = sound.batch b (sym x.leaving ∙ at) in record {
    word = y.word;
    bare = y.bare;
    count = y.count;
    put = λ p shard is kept. keeps.batch_rows p shard (b, sym x.leaving ∙ at, is)
        ∙ y.put p shard is (ap (λ (m : Membership). is_lost m shard) (sym x.members) ∙ kept);
    apart = y.apart;
  };
}
  where
    was : (id : ℕ) (set : SetState) → set_in new.sets id ≡ Some set → set_in far.sets id ≡ Some set
    was id set at = ap (λ (m : SetMap). set_in m id) (sym x.sets) ∙ at
