-- What the steps of a pair keep: the world is sound, last complete contents stay, words of sets are
-- left, and no row is given.
use Rattle.std.proofs.Common.{◌≡◌, ℕ, ◌≤◌, Bool, List, [], ◌∷◌, Option, Some, None, refl, sym, ap, ◌∙◌, arith}
use Rattle.std.specs.List.{slice_get}
use Rattle.std.specs.FinMap as map
use Rattle.cb_member.specs.declared.names.Shard.{Shard}
use Rattle.cb_member.specs.Membership.{Membership}
use Rattle.cb_node.specs.NodesState.{NodesState, with_dropped}
use Rattle.cb_set.specs.SetState.{SetState}
use Rattle.cb_world.specs.declared.shown.Shown.{Shown}
use Rattle.cb_world.specs.FarState.{FarState, span_in}
use Rattle.cb_world.specs.FarSound.{AreShardRows, FarSound, of_joining}
use Rattle.cb_world.specs.Join.{IsFresh}
use Rattle.cb_world.specs.Joining.{JoiningState}
use Rattle.cb_world.specs.JoinSteps.{IsParted}
use Rattle.cb_world.specs.Leaving.{LeavingState}
use Rattle.cb_world.specs.Now.{now}
use Rattle.cb_world.specs.Orders.{LeavesWords}
use Rattle.cb_span.specs.Contents.{Contents}
use Rattle.cb_world.specs.Reserved.{IsReserved, IsUnpaired, put_shards}
use Rattle.cb_world.specs.Sound.{Sound}
use Rattle.cb_world.specs.Stored.{AreThere, all_dropped}
use Rattle.cb_world.proofs.Laws.{claimed_stay, drop_count, drop_elsewhere, drop_fewer, drop_there, local_stays, noted_by, pair_now, parted_leaves_words, parted_whole, put_at, put_from, room_dropped, whole_none, words_left_twice, words_stay}
use Rattle.cb_compact.specs.PartStep.{IsFreshPair, with_parted}

-- what a change of the far state keeps
pub record JoinKeeps (s : Shown) (far new : FarState) : Type 0 where
  pub sound : Sound s new
  pub same_now : (h : ℕ) → now s new h ≡ now s far h
  pub words : LeavesWords far new

pub keeps_all : (s : Shown) (far : FarState) → Sound s far → JoinKeeps s far far
keeps_all s far sound =
    record { sound = sound; same_now = λ h. refl; words = words_stay far }

-- one change after another
pub keeps_both : (s : Shown) (far mid new : FarState) → JoinKeeps s far mid → JoinKeeps s mid new
    → JoinKeeps s far new
keeps_both s far mid new x y = record {
  sound = y.sound;
  same_now = λ h. y.same_now h ∙ x.same_now h;
  words = words_left_twice x.words y.words;
}

-- the handles that were made, local memory, the members, the batch that is leaving and the count of
-- turns stay
pub record LeavesLocal (far new : FarState) : Type 0 where
  pub first : new.first ≡ far.first
  pub made : new.made ≡ far.made
  pub frames : new.frames ≡ far.frames
  pub spans : new.spans ≡ far.spans
  pub members : new.members ≡ far.members
  pub leaving : new.leaving ≡ far.leaving
  pub turns : new.counts.turns ≡ far.counts.turns

abbrev Local : Type 0
Local = ℕ × ℕ × List Bool × List (Option Contents) × Membership × Option LeavingState × ℕ

-- all of these
abbrev pub local_of : FarState → Local
local_of far =
    (far.first, far.made, far.frames, far.spans, far.members, far.leaving, far.counts.turns)

pub leaves_local : (far new : FarState) → local_of new ≡ local_of far → LeavesLocal far new
leaves_local far new e = record {
  first = λ i. (e i).0;
  made = λ i. (e i).1;
  frames = λ i. (e i).2;
  spans = λ i. (e i).3;
  members = λ i. (e i).4;
  leaving = λ i. (e i).5;
  turns = λ i. (e i).6;
}

-- so, and the set that is kept for the batch that is leaving
pub record KeepsLocal (far new : FarState) : Type 0 where
  pub local : LeavesLocal far new
  pub drawn : far.counts.sets ≤ new.counts.sets
  pub kept : (batch : LeavingState) → far.leaving ≡ Some batch → IsReserved far batch
      → map.get new.sets batch.set ≡ map.get far.sets batch.set
  pub unpaired : (batch : LeavingState) → far.leaving ≡ Some batch → IsReserved far batch
      → IsUnpaired new batch.set

pub local_sound : (s : Shown) (far new : FarState) → Sound s far → KeepsLocal far new
    → FarSound s new → Sound s new
local_sound s far new sound x away = let l = x.local in record {
  here = local_stays s far new l.first l.made l.frames l.spans sound.here;
  noted = λ batch at. let was = sym l.leaving ∙ at in let n = sound.noted batch was in
      noted_by s s far new batch (record {
        spans = λ f leaves. ap (λ (c : List (Option Contents)). span_in c f) l.spans;
        sets = x.kept batch was n.reserved;
        drawn = x.drawn;
        unpaired = λ apart. x.unpaired batch was n.reserved;
      }) (λ f slot h span leaves there named m. m) n;
  claimed = claimed_stay s far new l.spans l.leaving sound.claimed;
  away = away;
}

-- a pair whose sets stand is fresh
pub fresh_is : (far : FarState) (pair : JoiningState) (a b : SetState) → IsFreshPair far pair a b
    → IsFresh far pair a b
fresh_is far pair a b x = record {
  a_there = x.a_stands.there;
  b_there = x.b_stands.there;
  a_shards = x.a_stands.same;
  b_shards = x.b_stands.same;
  a_whole = λ p shard at. whole_none far.members a.shards x.a_stands.whole p shard
      (ap (λ (l : List Shard). slice_get l p) x.a_stands.same ∙ at);
  b_whole = λ p shard at. whole_none far.members b.shards x.b_stands.whole p shard
      (ap (λ (l : List Shard). slice_get l p) x.b_stands.same ∙ at);
}

-- ---- the pair is given up
pub steps_there : (far : FarState) (pair : JoiningState) → AreShardRows far
    → far.joining ≡ Some pair
    → AreThere far.nodes (put_shards pair.steps)
steps_there far pair rows there q shard at =
    let x = put_from pair.steps q shard at in
    let y = (rows.current (of_joining x.0) shard (pair, there, x.1)).0 in
    let n = rows.counted in
    omega (arith, y, n)

no_pair : (q : JoiningState) → None ≡ Some q → ⊥
no_pair q e = cc

parted_is : (s : Shown) (far : FarState) (pair : JoiningState) → Sound s far
    → far.joining ≡ Some pair → IsParted far (with_parted far pair) pair
parted_is s far pair sound there = record {
  was = there;
  now = refl;
  gone = λ p shard at. let x = put_at pair.steps p shard at in
      drop_there far.nodes (put_shards pair.steps) x.0 shard rows x.1;
  stay = λ node key none. drop_elsewhere far.nodes (put_shards pair.steps) node key rows
      (λ q shard at same. let x = put_from pair.steps q shard at in none x.0 shard x.1 same);
  fewer = λ node key row at. drop_fewer far.nodes (put_shards pair.steps) node key row rows at;
  left = record {
    sets = refl;
    homes = refl;
    members = refl;
    leaving = refl;
    survey = refl;
    drawn = refl;
    keys = omega arith;
    nodes = drop_count far.nodes (put_shards pair.steps);
    room = room_dropped far.nodes (put_shards pair.steps);
  };
}
  where
    rows : AreThere far.nodes (put_shards pair.steps)
    rows = steps_there far pair sound.away.sound.rows there

pub parted_keeps : (s : Shown) (far : FarState) (pair : JoiningState) → Sound s far
    → far.joining ≡ Some pair → JoinKeeps s far (with_parted far pair)
parted_keeps s far pair sound there =
    let x = parted_is s far pair sound there in
    record {
      sound = local_sound s far (with_parted far pair) sound (record {
        local = leaves_local far (with_parted far pair) refl;
        drawn = omega arith;
        kept = λ batch at r. refl;
        unpaired = λ batch at r q e. absurd (no_pair q e);
      }) (parted_whole s far (with_parted far pair) pair sound.away x);
      same_now = λ h. pair_now s far (with_parted far pair) h x.left;
      words = parted_leaves_words s far (with_parted far pair) pair sound.away.sound x;
    }

-- rows that are dropped are not given
pub dropped_given : (nodes : NodesState) (shards : List Shard)
    → (all_dropped nodes shards).given ≡ nodes.given
dropped_given nodes [] = refl
dropped_given nodes (x ∷ xs) = dropped_given (with_dropped nodes x.node x.key) xs
