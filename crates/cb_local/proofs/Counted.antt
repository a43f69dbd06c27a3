-- What does not look at how many rows were given out.
use Rattle.std.proofs.Common.{◌≡◌, ℕ, List, [], ◌∷◌, refl, sym, ap, ◌∙◌}
use Rattle.cb_member.specs.declared.names.Shard.{Shard}
use Rattle.cb_node.specs.NodesState.{NodesState, with_dropped}
use Rattle.cb_set.specs.SetState.{SetState}
use Rattle.cb_types.specs.declared.reply.Reply.{Reply}
use Rattle.cb_world.specs.declared.shown.Shown.{Shown}
use Rattle.cb_world.specs.FarState.{FarState}
use Rattle.cb_world.specs.Joining.{JoiningState}
use Rattle.cb_world.specs.Sound.{Sound}
use Rattle.cb_world.specs.Stored.{all_dropped}
use Rattle.cb_world.proofs.Laws.{recounted_sound}
use Rattle.cb_compact.specs.MergeStep.{IsMerged, replaced_shards, with_merged}
use Rattle.cb_compact.specs.PartStep.{IsFreshPair}
use Rattle.cb_local.specs.Putting.{with_count}

pub sound_counted : (s : Shown) (far : FarState) (given : ℕ) → Sound s far
    → Sound s (with_count far given)
sound_counted s far given x =
    recounted_sound s far far.counts.turns far.counts.by_job given x

pub fresh_counted : (far : FarState) (given : ℕ) (pair : JoiningState) (a b : SetState)
    → IsFreshPair far pair a b → IsFreshPair (with_count far given) pair a b
fresh_counted far given pair a b x = record {
  was = x.was;
  a_stands = record {
    there = x.a_stands.there;
    same = x.a_stands.same;
    whole = x.a_stands.whole;
  };
  b_stands = record {
    there = x.b_stands.there;
    same = x.b_stands.same;
    whole = x.b_stands.whole;
  };
}

pub dropped_counted : (nodes : NodesState) (given : ℕ) (shards : List Shard)
    → all_dropped (record nodes { given = given }) shards
    ≡ record (all_dropped nodes shards) { given = given }
dropped_counted nodes given [] = refl
dropped_counted nodes given (x ∷ xs) =
    dropped_counted (with_dropped nodes x.node x.key) given xs

pub merged_counted : (far new : FarState) (given : ℕ) (pair : JoiningState) (a b : SetState)
    (r : Reply) → IsMerged far pair a b new r
    → IsMerged (with_count far given) pair a b (with_count new given) r
merged_counted far new given pair a b r x = record {
  done = x.done;
  homes = x.homes;
  reply = x.reply;
  state = ap (λ (f : FarState). with_count f given) x.state
      ∙ ap (λ (n : NodesState). record (with_merged far pair a b new.homes) { nodes = n })
      (sym (ap (λ (n : NodesState). all_dropped n (replaced_shards pair.steps pair.shards_a))
      (dropped_counted far.nodes given pair.shards_b)
      ∙ dropped_counted (all_dropped far.nodes pair.shards_b) given
      (replaced_shards pair.steps pair.shards_a)));
}
