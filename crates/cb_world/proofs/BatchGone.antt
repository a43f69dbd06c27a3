-- The far part of the sound world once the batch that is leaving is given up.
use Rattle.std.proofs.Common.{◌≡◌, ℕ, zero, suc, Bool, true, false, cond, List, [], ◌∷◌, Option, Some, None, sym, refl, ap, ◌∙◌, arith, inl, inr}
use Rattle.std.specs.List.{slice_get}
use Rattle.std.specs.FinMap as map
use Rattle.std.specs.Cmp.{nat_cmp_total}
use Rattle.std.specs.Ordering.{nat_cmp, eq_by_cmp}
use Rattle.std.proofs.lemmas.Bool.{cases_eq}
use Rattle.std.proofs.lemmas.Bool.Decides.{nat_tests}
use Rattle.cb_member.specs.declared.names.NodeId.{NodeId}
use Rattle.cb_member.specs.declared.names.Shard.{Shard}
use Rattle.cb_node.specs.NodesState.{row_under}
use Rattle.cb_set.specs.SetState.{SetState}
use Rattle.cb_world.specs.declared.shown.Shown.{Shown}
use Rattle.cb_world.specs.FarState.{FarState}
use Rattle.cb_world.specs.FarSound.{AreShardRows, AwaySound, FarSound, IsShardOf, Owner, of_joining, of_leaving, of_set}
use Rattle.cb_world.specs.Join.{IsFresh, IsJoin}
use Rattle.cb_world.specs.Joining.{JoiningState}
use Rattle.cb_world.specs.Leaving.{LeavingState}
use Rattle.cb_world.specs.Reserved.{IsReserved, put_shards, without_batch}
use Rattle.cb_world.specs.Sets.{set_in, if_committed}
use Rattle.cb_world.specs.Stored.{AreThere}
use Rattle.cb_world.proofs.Joined.{pair_kept}
use Rattle.cb_world.proofs.Surveying.{survey_same}
use Rattle.cb_world.proofs.Reserving.{reserved_uncommitted}
use Rattle.cb_world.proofs.Rooms.{room_dropped}
use Rattle.cb_world.proofs.SetsLeft.{drop_count, drop_fewer, drop_there}
use Rattle.cb_world.proofs.Storing.{drop_elsewhere}

none_some : {X : Type 0} (x : X) → None ≡ Some x → ⊥
none_some x e = cc

inner : {X : Type 0} (a b : X) → Some a ≡ Some b → a ≡ b
inner a b e = cc

-- ---- the shards that were put
-- each is that of a position
pub put_from : (shards : List (Option Shard)) (q : ℕ) (shard : Shard)
    → slice_get (put_shards shards) q ≡ Some shard
    → (p : ℕ) × (slice_get shards p ≡ Some (Some shard))
put_from [] q shard at = absurd (no_shard q shard at)
  where
    no_shard : (q : ℕ) (shard : Shard) → slice_get [] q ≡ Some shard → ⊥
    no_shard q shard e = cc
put_from (None ∷ shards) q shard at = let x = put_from shards q shard at in (suc x.0, x.1)
put_from (Some first ∷ shards) zero shard at =
    (0, ap (λ (a : Shard). Some (Some a)) (inner first shard at))
put_from (Some first ∷ shards) (suc q) shard at =
    let x = put_from shards q shard at in (suc x.0, x.1)

-- and each position's is one of them
pub put_at : (shards : List (Option Shard)) (p : ℕ) (shard : Shard)
    → slice_get shards p ≡ Some (Some shard)
    → (q : ℕ) × (slice_get (put_shards shards) q ≡ Some shard)
put_at [] p shard at = absurd (no_place p (Some shard) at)
  where
    no_place : (p : ℕ) (o : Option Shard) → slice_get [] p ≡ Some o → ⊥
    no_place p o e = cc
put_at (None ∷ shards) zero shard at = absurd (none_some shard (inner None (Some shard) at))
put_at (None ∷ shards) (suc p) shard at = put_at shards p shard at
put_at (Some first ∷ shards) zero shard at = (0, inner (Some first) (Some shard) at)
put_at (Some first ∷ shards) (suc p) shard at =
    let x = put_at shards p shard at in (suc x.0, x.1)

-- ---- the sets: no committed one comes or goes
pub gone_sets : (far : FarState) (batch : LeavingState) → IsReserved far batch → (id : ℕ)
    → set_in (without_batch far batch).sets id ≡ set_in far.sets id
gone_sets far batch x id = elim (cases_eq id batch.set) [
  | inl same ↦
      let here : eq_by_cmp nat_cmp id batch.set ≡ true = grind (arith, nat_tests) in
      ap if_committed (map.get-remove nat_cmp_total far.sets batch.set id
      ∙ ap (λ (b : Bool). cond b None (map.get far.sets id)) here)
      ∙ sym (ap (set_in far.sets) same ∙ reserved_uncommitted far batch x)
  | inr off ↦
      let other : eq_by_cmp nat_cmp id batch.set ≡ false = grind (arith, nat_tests) in
      ap if_committed (map.get-remove nat_cmp_total far.sets batch.set id
      ∙ ap (λ (b : Bool). cond b None (map.get far.sets id)) other)
]

-- ---- the rows
put_there : (s : Shown) (far : FarState) (batch : LeavingState) → AreShardRows far
    → far.leaving ≡ Some batch → AreThere far.nodes (put_shards batch.shards)
put_there s far batch rows there q shard at =
    let x = put_from batch.shards q shard at in
    let y = (rows.current (of_leaving x.0) shard (batch, there, x.1)).0 in
    omega (arith, y, rows.counted)

abbrev is_leaving : Owner → Bool
is_leaving (of_set id p) = false
is_leaving (of_leaving p) = true
is_leaving (of_joining p) = false

-- the row of a shard of another owner stays
pub gone_row : (s : Shown) (far : FarState) (batch : LeavingState) (o : Owner) (shard : Shard)
    → AwaySound s far → far.leaving ≡ Some batch → IsShardOf far o shard → is_leaving o ≡ false
    → row_under (without_batch far batch).nodes shard.node shard.key
    ≡ row_under far.nodes shard.node shard.key
gone_row s far batch o shard sound there is other =
    drop_elsewhere far.nodes (put_shards batch.shards) shard.node shard.key
    (put_there s far batch sound.rows there) (λ q mine at same.
    let x = put_from batch.shards q mine at in
    let e = sound.rows.one o (of_leaving x.0) shard mine is (batch, there, x.1) (sym same) in
    true_false (sym (ap is_leaving e) ∙ other))
  where
    true_false : true ≡ false → ⊥
    true_false e = cc

was_shard : (far : FarState) (batch : LeavingState) → IsReserved far batch → (o : Owner)
    (shard : Shard) → IsShardOf (without_batch far batch) o shard
    → IsShardOf far o shard × (is_leaving o ≡ false)
was_shard far batch x (of_set id p) shard is =
    ((is.0, sym (gone_sets far batch x id) ∙ is.1, is.2), refl)
was_shard far batch x (of_leaving p) shard is = absurd (none_some is.0 is.1)
was_shard far batch x (of_joining p) shard is = (is, refl)

still_shard : (far : FarState) (batch : LeavingState) → IsReserved far batch → (o : Owner)
    (shard : Shard) → is_leaving o ≡ false → IsShardOf far o shard
    → IsShardOf (without_batch far batch) o shard
still_shard far batch x (of_set id p) shard other is =
    (is.0, gone_sets far batch x id ∙ is.1, is.2)
still_shard far batch x (of_leaving p) shard other is = absurd (true_false other)
  where
    true_false : true ≡ false → ⊥
    true_false e = cc
still_shard far batch x (of_joining p) shard other is = is

gone_rows : (s : Shown) (far : FarState) (batch : LeavingState) → AwaySound s far
    → far.leaving ≡ Some batch → IsReserved far batch → AreShardRows (without_batch far batch)
gone_rows s far batch sound there x = record {
  members = sound.rows.members;
  counted = drop_count far.nodes (put_shards batch.shards) ∙ sound.rows.counted;
  room = room_dropped far.nodes (put_shards batch.shards) sound.rows.room;
  owned = λ node key row at.
      let y = sound.rows.owned node key row (drop_fewer far.nodes (put_shards batch.shards) node key
      row (put_there s far batch sound.rows there) at) in (
        y.0,
        y.1,
        still_shard far batch x y.0 y.1 (other y.0 y.1 node key row at y.2 y.3 y.4) y.2,
        y.3,
        y.4,
        y.5,
      );
  one = λ o q a b is js same. sound.rows.one o q a b (was_shard far batch x o a is).0
      (was_shard far batch x q b js).0 same;
  drawn = λ o a is. sound.rows.drawn o a (was_shard far batch x o a is).0;
  current = λ o a is. sound.rows.current o a (was_shard far batch x o a is).0;
}
  where
    same_node : (a b : NodeId) → a.n ≡ b.n → a ≡ b
    same_node a b e = ap (λ (n : ℕ). record { n = n }) e

    -- no row that is there still is one of the batch
    other : (o : Owner) (shard : Shard) (node : NodeId) (key : ℕ) (row : List ℕ)
        → row_under (without_batch far batch).nodes node key ≡ Some row → IsShardOf far o shard
        → shard.node.n ≡ node.n → shard.key ≡ key → is_leaving o ≡ false
    other (of_set id p) shard node key row at is n k = refl
    other (of_joining p) shard node key row at is n k = refl
    other (of_leaving p) shard node key row at (b, was, is) n k =
        let e = inner b batch (sym was ∙ there) in
        let mine = put_at batch.shards p shard
        (ap (λ (l : LeavingState). slice_get l.shards p) (sym e) ∙ is) in
        absurd (none_some row (sym (drop_there far.nodes (put_shards batch.shards) mine.0 shard
        (put_there s far batch sound.rows there) mine.1)
        ∙ ap (λ (q : NodeId). row_under (without_batch far batch).nodes q shard.key)
        (same_node shard.node node n)
        ∙ ap (row_under (without_batch far batch).nodes node) k ∙ at))

-- the far part is sound without the batch
pub batch_given_up : (s : Shown) (far : FarState) (batch : LeavingState) → AwaySound s far
    → far.leaving ≡ Some batch → IsReserved far batch → AwaySound s (without_batch far batch)
batch_given_up s far batch sound there x = record {
  sets = record {
    shaped = λ id set at. sound.sets.shaped id set (was id set at);
    worded = λ id set at. let y = sound.sets.worded id set (was id set at) in (
      y.0,
      record {
        word = record {
          code = y.1.word.code;
          survive = λ p shard is kept.
              gone_row s far batch (of_set id p) shard sound there (set, was id set at, is) refl
              ∙ y.1.word.survive p shard is kept;
        };
        holds = y.1.holds;
      },
    );
    live = λ id p set at. sound.sets.live id p set (was id set at);
    kept = λ id set at. sound.sets.kept id set (was id set at);
    numbered = λ id set at. sound.sets.numbered id set (was id set at);
  };
  away = record {
    away = sound.away.away;
    home = λ h home at. let y = sound.away.home h home at in
        (y.0, gone_sets far batch x home.set ∙ y.1, y.2);
    named = λ id p slot h set at named. sound.away.named id p slot h set (was id set at) named;
  };
  rows = gone_rows s far batch sound there x;
  batch = λ b at. absurd (none_some b at);
}
  where
    was : (id : ℕ) (set : SetState) → set_in (without_batch far batch).sets id ≡ Some set
        → set_in far.sets id ≡ Some set
    was id set at = sym (gone_sets far batch x id) ∙ at

-- and so is the pair that is joining
gone_pair : (s : Shown) (far : FarState) (batch : LeavingState) (pair : JoiningState)
    → AwaySound s far → far.leaving ≡ Some batch → IsReserved far batch
    → far.joining ≡ Some pair → IsJoin far pair → IsJoin (without_batch far batch) pair
gone_pair s far batch pair sound there x joins j = pair_kept far (without_batch far batch) pair
    (record {
      more_sets = omega arith;
      more_keys = omega arith;
      fresh = λ c d f. (c, d, before c d f, λ pages k fit. fit);
      a_stay = λ c d f p shard at.
          gone_row s far batch (of_set pair.a p) shard sound there (
            c,
            (before c d f).a_there,
            ap (λ (l : List Shard). slice_get l p) f.a_shards ∙ at,
          ) refl;
      b_stay = λ c d f p shard at.
          gone_row s far batch (of_set pair.b p) shard sound there (
            d,
            (before c d f).b_there,
            ap (λ (l : List Shard). slice_get l p) f.b_shards ∙ at,
          ) refl;
      new_stay = λ c d f p shard at.
          gone_row s far batch (of_joining p) shard sound there (pair, joins, at) refl;
    }) j
  where
    before : (c d : SetState) → IsFresh (without_batch far batch) pair c d → IsFresh far pair c d
    before c d f = record {
      a_there = sym (gone_sets far batch x pair.a) ∙ f.a_there;
      b_there = sym (gone_sets far batch x pair.b) ∙ f.b_there;
      a_shards = f.a_shards;
      b_shards = f.b_shards;
      a_whole = f.a_whole;
      b_whole = f.b_whole;
    }

pub batch_given_up_whole : (s : Shown) (far : FarState) (batch : LeavingState) → FarSound s far
    → far.leaving ≡ Some batch → IsReserved far batch → FarSound s (without_batch far batch)
batch_given_up_whole s far batch x there reserved = record {
  sound = batch_given_up s far batch x.sound there reserved;
  join = λ pair at. gone_pair s far batch pair x.sound there reserved at (x.join pair at);
  survey = survey_same far (without_batch far batch) refl refl (omega arith)
      (gone_sets far batch reserved) x.survey;
}
