-- The rebuild of a lost row: which set and position, where its row is put, and the far state then.
use Rattle.std.specs.Prelude.{◌≡◌, ◌⊎◌, ℕ, ◌+◌, ◌<◌, true, List, Some, length, None}
use Rattle.std.specs.FinMap as map
use Rattle.cb_gf256.specs.Rows.{row_at}
use Rattle.cb_member.specs.declared.names.NodeId.{NodeId}
use Rattle.cb_member.specs.declared.names.Shard.{Shard}
use Rattle.cb_member.specs.Membership.{incarnation}
use Rattle.cb_node.specs.NodesState.{with_row}
use Rattle.cb_set.specs.SetState.{SetState, with_shard}
use Rattle.cb_set.specs.Lost.{least_lost}
use Rattle.cb_set.specs.Nodes.{other_shards}
use Rattle.cb_types.specs.declared.reply.Reply.{Reply}
use Rattle.cb_types.specs.declared.reply.Reply.TheVariants as answer
use Rattle.cb_world.specs.Choices.{IsLeastNode, MayPut}
use Rattle.cb_world.specs.Fetched.{with_rows_given}
use Rattle.cb_world.specs.Sets.{set_in}
use Rattle.cb_world.specs.SetWord.{IsWeak, IsWordOf}
use Rattle.cb_world.specs.Surveyed.{gone_below}
use Rattle.cb_world.specs.FarState.{FarState}

-- the set of this number is committed and weak, and none of a lesser number is
pub record IsFirstWeak (far : FarState) (id : ℕ) (set : SetState) : Type 0 where
  pub there : set_in far.sets id ≡ Some set
  pub weak : IsWeak far.members set
  pub least : (j : ℕ) (other : SetState) → j < id → set_in far.sets j ≡ Some other
      → ¬ (IsWeak far.members other)

-- how many committed sets have lost more shards than they have parities
abbrev pub gone_count : FarState → ℕ
gone_count far = gone_below far far.counts.sets

-- the far state once the sets with a number below this one were looked at
abbrev pub surveyed : FarState → ℕ → FarState
surveyed far n = record far { survey = record { below = n; gone = gone_below far n; no_pair = None } }

-- no committed set is weak: the answer tells how many have lost more, all sets were looked at, and
-- nothing else changes
pub record FindsNone (far new : FarState) (r : Reply) : Type 0 where
  pub none : (id : ℕ) (set : SetState) → set_in far.sets id ≡ Some set → ¬ (IsWeak far.members set)
  pub reply : r ≡ answer.Whole (gone_count far)
  pub state : new ≡ surveyed far far.counts.sets

-- no node with room is one that no other position of the set names than the lost one: nothing
-- changes
pub record IsStuck (far : FarState) (id : ℕ) (set : SetState) (new : FarState) (r : Reply) : Type 0
  where
    pub position : ℕ
    pub lost : least_lost far.members set.shards ≡ Some position
    pub none : (node : NodeId)
        → ¬ (MayPut far.nodes far.members (other_shards set.shards position) node)
    pub reply : r ≡ answer.Stuck (record { n = id })
    pub same : new ≡ far

-- the shard for a row of the position: on the node with the fewest rows, and then the least number,
-- of those with room that no other position of the set names; of its incarnation, and under the
-- next key
pub record IsNewShard (far : FarState) (set : SetState) (position : ℕ) (shard : Shard) : Type 0
  where
    pub node : IsLeastNode far.nodes far.members (other_shards set.shards position) shard.node
    pub incarnation : shard.incarnation ≡ incarnation far.members shard.node
    pub key : shard.key ≡ far.counts.keys

-- the row is that of the set's word at the position
abbrev pub IsRowOf : FarState → SetState → ℕ → List ℕ → Type 0
IsRowOf far set position row = (rows : List (List ℕ)) → IsWordOf far.nodes far.members set rows
    → row ≡ row_at rows position

-- the far state once so many rows more were given out
abbrev pub far_given : FarState → ℕ → FarState
far_given far n = record far { nodes = with_rows_given far.nodes n }

-- the far state once k rows of the set were given out, and this row was put under the shard
abbrev pub with_put : FarState → SetState → Shard → List ℕ → FarState
with_put far set shard row = record far {
  nodes = with_row (with_rows_given far.nodes (length set.positions)) shard.node shard.key row;
}

-- the far state once the position of the set names the shard, whose key is drawn
abbrev pub with_shard_named : FarState → ℕ → SetState → ℕ → Shard → FarState
with_shard_named far id set position shard = record far {
  sets = map.insert far.sets id (record {
    set = with_shard set position shard;
    committed = true;
  });
  counts = record far.counts { keys = far.counts.keys + 1 };
}

-- The row of the set's least lost position stands again: the set has a word, k rows were given out,
-- the row of each such word at the position was put under a new shard, and the position names that
-- one. All else is as it was.
pub record IsRebuilt (far : FarState) (id : ℕ) (set : SetState) (new : FarState) (r : Reply) : Type 0
  where
    pub position : ℕ
    pub shard : Shard
    pub row : List ℕ
    pub lost : least_lost far.members set.shards ≡ Some position
    pub named : IsNewShard far set position shard
    pub some_word : (rows : List (List ℕ)) × IsWordOf far.nodes far.members set rows
    pub of_word : IsRowOf far set position row
    pub state : new ≡ with_shard_named (with_put far set shard row) id set position shard
    pub reply : r ≡ answer.Rebuilt (record { n = id }) position shard.node

-- what becomes of a set that is weak
abbrev pub Restores : FarState → ℕ → SetState → FarState → Reply → Type 0
Restores far id set new r = IsStuck far id set new r ⊎ IsRebuilt far id set new r

-- what becomes of the first set that is weak, once the sets before it were looked at
pub record RestoresFirst (far new : FarState) (r : Reply) : Type 0 where
  pub id : ℕ
  pub set : SetState
  pub first : IsFirstWeak far id set
  pub restores : Restores (surveyed far id) id set new r

-- a turn of the rebuild: the reply and the far state after it
abbrev pub RebuildStep : FarState → FarState → Reply → Type 0
RebuildStep far new r = FindsNone far new r ⊎ RestoresFirst far new r

-- every word of a committed set is one of the set of that number afterwards
abbrev pub KeepWords : FarState → FarState → Type 0
KeepWords far new = (id : ℕ) (set : SetState) (rows : List (List ℕ)) → set_in far.sets id ≡ Some set
    → IsWordOf far.nodes far.members set rows → (after : SetState)
    × (set_in new.sets id ≡ Some after) × IsWordOf new.nodes new.members after rows
