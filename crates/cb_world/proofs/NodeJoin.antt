-- A node joins: no shard is lost by it and none comes back, and the world stays sound.
use Rattle.std.proofs.Common.{◌≡◌, ℕ, ◌<◌, ◌≤◌, Bool, true, false, List, [], ◌∷◌, length, Option, Some, None, is_some, refl, sym, ap, ◌∙◌, arith, inl, inr}
use Rattle.std.specs.List.{cons_option, slice_index_or}
use Rattle.std.specs.Option.{option_map}
use Rattle.std.specs.FinMap as map
use Rattle.cb_span.specs.Contents.{Contents}
use Rattle.cb_member.specs.declared.names.Loss.{Loss}
use Rattle.cb_member.specs.declared.names.Epoch.{Epoch}
use Rattle.cb_member.specs.declared.names.NodeId.{NodeId}
use Rattle.cb_member.specs.declared.names.Shard.{Shard}
use Rattle.cb_member.specs.Membership.{Membership, alive, incarnation, fresh_node, with_join}
use Rattle.cb_member.proofs.Laws.{join_keeps_crashes, join_keeps_count, join_stays_valid, join_raises_incarnation, join_keeps_others, crash_stays_valid}
use Rattle.cb_set.specs.Lost.{loss_of, is_lost, lost}
use Rattle.cb_set.specs.SetState.{SetState, parities}
use Rattle.std.proofs.lemmas.Bool.{cases_eq}
use Rattle.cb_world.specs.declared.object.Object.TheVariants as is
use Rattle.cb_world.specs.declared.shown.Shown.{Shown}
use Rattle.cb_world.specs.NodeChanges.{joined_far, crashed_far}
use Rattle.cb_world.specs.FarState.{FarState, span_in}
use Rattle.cb_world.specs.FarSound.{AwaySound, AreShardRows, Owner, of_set, of_leaving, of_joining, IsShardOf}
use Rattle.cb_world.specs.Join.{IsFresh, IsJoin}
use Rattle.cb_world.specs.Joining.{JoiningState}
use Rattle.cb_world.specs.LocalSound.{LocalSound}
use Rattle.cb_world.specs.Sound.{Sound}
use Rattle.cb_world.specs.Now.{now, now_as, broken_set}
use Rattle.cb_world.specs.Homes.{home_at}
use Rattle.cb_world.specs.declared.homes.Home.{Home}
use Rattle.cb_world.specs.Shown.{object_at}
use Rattle.cb_world.specs.Sets.{set_in}
use Rattle.cb_world.specs.Leaving.{LeavingState}
use Rattle.cb_world.specs.Sound.{AreNoted, IsLeaving}
use Rattle.std.specs.Prelude.{nat_lt}
use Rattle.cb_world.proofs.Whole.{crash_whole}
use Rattle.cb_world.proofs.Joined.{pair_kept}
use Rattle.cb_world.proofs.Lying.{frames_as}
use Rattle.cb_world.proofs.Reserving.{noted_by}
use Rattle.cb_world.proofs.Surveying.{stands_joined, survey_stays}

-- a shard is lost after a join exactly where it was
join_keeps_loss : (m : Membership) (node : NodeId) (shard : Shard) → node.n < length m.nodes
    → loss_of (with_join m node) shard ≡ loss_of m shard
join_keeps_loss m node shard within =
    ap (option_map (λ (epoch : Epoch). record { node = shard.node; epoch = epoch }))
    (join_keeps_crashes m node shard.node shard.incarnation within)

join_keeps_flag : (m : Membership) (node : NodeId) (shard : Shard) → node.n < length m.nodes
    → is_lost (with_join m node) shard ≡ is_lost m shard
join_keeps_flag m node shard within = ap is_some (join_keeps_loss m node shard within)

-- and the lost shards of a set are the same
pub join_keeps_lost : (m : Membership) (node : NodeId) (shards : List Shard)
    → node.n < length m.nodes → lost (with_join m node) shards ≡ lost m shards
join_keeps_lost m node [] within = refl
join_keeps_lost m node (x ∷ xs) within =
    ap (λ (o : Option Loss). cons_option o (lost (with_join m node) xs))
    (join_keeps_loss m node x within)
    ∙ ap (cons_option (loss_of m x)) (join_keeps_lost m node xs within)

-- no incarnation falls
no_lower : (m : Membership) (node other : NodeId) → node.n < length m.nodes
    → incarnation m other ≤ incarnation (with_join m node) other
no_lower m node other within = elim (cases_eq other.n node.n) [
  | inl same ↦
      let raised = join_raises_incarnation m node within in
      let old : incarnation m other ≡ incarnation m node =
      ap (λ (n : ℕ). (slice_index_or m.nodes n fresh_node).incarnation) same in
      let new : incarnation (with_join m node) other ≡ incarnation (with_join m node) node =
      ap (λ (n : ℕ). (slice_index_or (with_join m node).nodes n fresh_node).incarnation) same in
      omega (arith, raised, old, new)
  | inr apart ↦ let e = (join_keeps_others m node other apart).1 in omega (arith, e)
]

keeps_current : (m : Membership) (node : NodeId) (shard : Shard) → node.n < length m.nodes
    → (shard.node.n < length m.nodes) × (shard.incarnation ≤ incarnation m shard.node)
    → (shard.node.n < length (with_join m node).nodes)
    × (shard.incarnation ≤ incarnation (with_join m node) shard.node)
keeps_current m node shard within c = let count = join_keeps_count m node in (
  omega (arith, c.0, count),
  omega (arith, c.1, no_lower m node shard.node within),
)

rows_stay : (far : FarState) (node : NodeId) → AreShardRows far → node.n < length far.members.nodes
    → alive far.members node ≡ false → AreShardRows (joined_far far node)
rows_stay far node rows within down = record {
  members = join_stays_valid far.members node rows.members within down;
  counted = rows.counted ∙ sym (join_keeps_count far.members node);
  room = rows.room;
  owned = λ q key row at. let x = rows.owned q key row at in (
    x.0,
    x.1,
    there far x.0 x.1 x.2,
    x.3,
    x.4,
    join_keeps_flag far.members node x.1 within ∙ x.5,
  );
  one = λ o q a b x y same. rows.one o q a b (back far o a x) (back far q b y) same;
  drawn = λ o a x. rows.drawn o a (back far o a x);
  current = λ o a x. keeps_current far.members node a within (rows.current o a (back far o a x));
}
  where
    there : (f : FarState) (o : Owner) (a : Shard) → IsShardOf f o a → IsShardOf (joined_far f node) o a
    there f (of_set id p) a is = is
    there f (of_leaving p) a is = is
    there f (of_joining p) a is = is

    back : (f : FarState) (o : Owner) (a : Shard) → IsShardOf (joined_far f node) o a → IsShardOf f o a
    back f (of_set id p) a is = is
    back f (of_leaving p) a is = is
    back f (of_joining p) a is = is

away_stays : (s : Shown) (far : FarState) (node : NodeId) → AwaySound s far
    → node.n < length far.members.nodes → alive far.members node ≡ false
    → AwaySound s (joined_far far node)
away_stays s far node sound within down = record {
  sets = record {
    shaped = λ id set at. let x = sound.sets.shaped id set at in record {
      range = x.range;
      data_first = x.data_first;
      pages = x.pages;
      distinct = x.distinct;
      current = λ p shard is. keeps_current far.members node shard within (x.current p shard is);
    };
    worded = λ id set at. let x = sound.sets.worded id set at in (
      x.0,
      record {
        word = record {
          code = x.1.word.code;
          survive = λ p shard is kept.
              x.1.word.survive p shard is (sym (join_keeps_flag far.members node shard within) ∙ kept);
        };
        holds = x.1.holds;
      },
    );
    live = sound.sets.live;
    kept = sound.sets.kept;
    numbered = sound.sets.numbered;
  };
  away = record { away = sound.away.away; home = sound.away.home; named = sound.away.named };
  rows = rows_stay far node sound.rows within down;
  batch = λ b at. let x = sound.batch b at in record {
    word = x.word;
    bare = x.bare;
    count = x.count;
    put = λ p shard is kept.
        x.put p shard is (sym (join_keeps_flag far.members node shard within) ∙ kept);
    apart = x.apart;
  };
}

pair_stays : (far : FarState) (node : NodeId) (pair : JoiningState)
    → node.n < length far.members.nodes → IsJoin far pair → IsJoin (joined_far far node) pair
pair_stays far node pair within j = pair_kept far (joined_far far node) pair (record {
  more_sets = omega arith;
  more_keys = omega arith;
  fresh = λ c d f. (c, d, before c d f, λ pages k fit. fit);
  a_stay = λ c d f p shard at. refl;
  b_stay = λ c d f p shard at. refl;
  new_stay = λ c d f p shard at. refl;
}) j
  where
    before : (c d : SetState) → IsFresh (joined_far far node) pair c d → IsFresh far pair c d
    before c d f = record {
      a_there = f.a_there;
      b_there = f.b_there;
      a_shards = f.a_shards;
      b_shards = f.b_shards;
      a_whole = λ p shard at. sym (join_keeps_flag far.members node shard within) ∙ f.a_whole p shard at;
      b_whole = λ p shard at. sym (join_keeps_flag far.members node shard within) ∙ f.b_whole p shard at;
    }

pub local_stays : (s : Shown) (far new : FarState) → new.first ≡ far.first → new.made ≡ far.made
    → new.frames ≡ far.frames → new.spans ≡ far.spans → LocalSound s far → LocalSound s new
local_stays s far new first made frames spans x = record {
  known = record {
    first = x.known.first ∙ sym first;
    least = rw first x.known.least;
    versioned = rw (first, made) x.known.versioned;
    made = rw made x.known.made;
    stamped = x.known.stamped;
    bounded = rw made x.known.bounded;
  };
  frames = frames_as far new frames spans x.frames;
  placed = rw spans (record {
    memory = x.placed.memory;
    placed = x.placed.placed;
    named = x.placed.named;
  });
}

pub noted_stays : (s : Shown) (far new : FarState) → new.spans ≡ far.spans → new.leaving ≡ far.leaving
    → new.joining ≡ far.joining → far.counts.sets ≤ new.counts.sets
    → ((batch : LeavingState) → far.leaving ≡ Some batch
    → map.get new.sets batch.set ≡ map.get far.sets batch.set)
    → ((batch : LeavingState) → far.leaving ≡ Some batch → AreNoted s far batch)
    → (batch : LeavingState) → new.leaving ≡ Some batch → AreNoted s new batch
noted_stays s far new spans leaving joining drawn sets x batch at =
    let was = sym leaving ∙ at in
    noted_by s s far new batch (record {
      spans = λ f leaves. ap (λ (l : List (Option Contents)). span_in l f) spans;
      sets = sets batch was;
      drawn = drawn;
      unpaired = λ apart pair there. apart pair (sym joining ∙ there);
    }) (λ f slot h span leaves there named n. n) (x batch was)

pub claimed_stay : (s : Shown) (far new : FarState) → new.spans ≡ far.spans
    → new.leaving ≡ far.leaving
    → ((h len place v : ℕ) (words : List ℕ) → object_at s h ≡ is.Claimed len place v words
    → IsLeaving s far h len place words)
    → (h len place v : ℕ) (words : List ℕ) → object_at s h ≡ is.Claimed len place v words
    → IsLeaving s new h len place words
claimed_stay s far new spans leaving x h len place v words at = let y = x h len place v words at in
    record {
      batch = y.batch;
      there = leaving ∙ y.there;
      slot = record {
        frame = y.slot.frame;
        slot = y.slot.slot;
        span = y.slot.span;
        there = rw spans y.slot.there;
        named = y.slot.named;
        at = y.slot.at;
        fits = y.slot.fits;
      };
      leaves = y.leaves;
      contents = y.contents;
    }

-- the sound world after a join of a node that was down
pub node_join_sound : (s : Shown) (far : FarState) (node : NodeId) → Sound s far
    → node.n < length far.members.nodes → alive far.members node ≡ false
    → Sound s (joined_far far node)
node_join_sound s far node x within down = record {
  here = local_stays s far (joined_far far node) refl refl refl refl x.here;
  noted = noted_stays s far (joined_far far node) refl refl refl (omega arith)
      (λ batch at. refl) x.noted;
  claimed = claimed_stay s far (joined_far far node) refl refl x.claimed;
  away = record {
    sound = away_stays s far node x.away.sound within down;
    join = λ pair at. pair_stays far node pair within (x.away.join pair at);
    survey = survey_stays far (joined_far far node) refl (omega arith)
        (λ id l. stands_joined far.members node (set_in far.sets id) within) x.away.survey;
  };
}

-- and after a crash of a node that was up
pub node_crash_sound : (s : Shown) (far : FarState) (node : NodeId) → Sound s far
    → node.n < length far.members.nodes → alive far.members node ≡ true
    → Sound s (crashed_far far node)
node_crash_sound s far node x within up = record {
  here = local_stays s far (crashed_far far node) refl refl refl refl x.here;
  noted = noted_stays s far (crashed_far far node) refl refl refl (omega arith)
      (λ batch at. refl) x.noted;
  claimed = claimed_stay s far (crashed_far far node) refl refl x.claimed;
  away = crash_whole s far node x.away within up
      (crash_stays_valid far.members node x.away.sound.rows.members within up);
}

join_keeps_broken : (m : Membership) (node : NodeId) (o : Option SetState) → node.n < length m.nodes
    → broken_set (with_join m node) o ≡ broken_set m o
join_keeps_broken m node None within = refl
join_keeps_broken m node (Some set) within =
    ap (λ (l : List Loss). nat_lt (parities set) (length l)) (join_keeps_lost m node set.shards within)

-- what every object has stays
pub node_join_now : (s : Shown) (far : FarState) (node : NodeId) (h : ℕ)
    → node.n < length far.members.nodes → now s (joined_far far node) h ≡ now s far h
node_join_now s far node h within = go (home_at far.homes h) refl
  where
    go : (o : Option Home) → home_at far.homes h ≡ o → now s (joined_far far node) h ≡ now s far h
    go None e = ap (λ (lost : Bool). now_as s h lost (object_at s h)) (rw e refl)
    go (Some home) e = ap (λ (lost : Bool). now_as s h lost (object_at s h))
        (rw e (join_keeps_broken far.members node (set_in far.sets home.set) within))
