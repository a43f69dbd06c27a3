-- What holds of the pair of sets that is joining.
use Rattle.std.specs.Prelude.{◌≡◌, ◌≢◌, ℕ, ◌+◌, ◌<◌, true, false, List, Some, length, slice_get}
use Rattle.cb_gf256.specs.Rows.{row_at}
use Rattle.cb_gf256.specs.InRange.{IsInRange}
use Rattle.cb_member.specs.declared.names.Shard.{Shard}
use Rattle.cb_member.specs.Membership.{Membership}
use Rattle.cb_node.specs.NodesState.{row_under}
use Rattle.cb_set.specs.SetState.{SetState, live_at}
use Rattle.cb_set.specs.Lost.{is_lost}
use Rattle.cb_world.specs.Joining.{JoiningState}
use Rattle.cb_world.specs.Sets.{set_in}
use Rattle.cb_world.specs.FarState.{FarState}
use Rattle.cb_world.specs.SetWord.{IsSpanWord}
use Rattle.cb_world.specs.Merged.{takes, AreTaken}

-- no shard is lost
abbrev pub NoneLost : Membership → List Shard → Type 0
NoneLost m shards = (p : ℕ) (shard : Shard) → slice_get shards p ≡ Some shard
    → is_lost m shard ≡ false

-- both sets are there, whole and with the shards of the begin: else the pair is stale
pub record IsFresh (far : FarState) (pair : JoiningState) (a b : SetState) : Type 0 where
  pub a_there : set_in far.sets pair.a ≡ Some a
  pub b_there : set_in far.sets pair.b ≡ Some b
  pub a_shards : a.shards ≡ pair.shards_a
  pub b_shards : b.shards ≡ pair.shards_b
  pub a_whole : NoneLost far.members pair.shards_a
  pub b_whole : NoneLost far.members pair.shards_b

-- m is the merged word: b's rows stand at the taken positions, a's rows at the other data
-- positions, and each new row is its position's
pub record IsJoinWord (far : FarState) (pair : JoiningState) (pages k r : ℕ)
    (m : List (List ℕ)) : Type 0
  where
    pub word : IsSpanWord pages k r m
    pub a_rows : (i : ℕ) (shard : Shard) → i < k → takes pair.taken i ≡ false
        → slice_get pair.shards_a i ≡ Some shard
        → row_under far.nodes shard.node shard.key ≡ Some (row_at m i)
    pub b_rows : (i : ℕ) (shard : Shard) → i < k → takes pair.taken i ≡ true
        → slice_get pair.shards_b i ≡ Some shard
        → row_under far.nodes shard.node shard.key ≡ Some (row_at m i)
    pub new_rows : (p : ℕ) (shard : Shard) → slice_get pair.steps p ≡ Some (Some shard)
        → row_under far.nodes shard.node shard.key ≡ Some (row_at m p)

-- a new shard stands beside a's shard of its position
pub record IsBeside (old shard : Shard) : Type 0 where
  pub node : shard.node ≡ old.node
  pub incarnation : shard.incarnation ≡ old.incarnation

-- the sets as they are now: of one code and length, live where the pair says
pub record AreFit (pair : JoiningState) (pages k : ℕ) (a b : SetState) : Type 0 where
  pub a_count : length a.positions ≡ k
  pub b_count : length b.positions ≡ k
  pub a_pages : a.pages ≡ pages
  pub b_pages : b.pages ≡ pages
  pub a_live : (p : ℕ) → live_at a p ≡ true → takes pair.taken p ≡ false
  pub b_live : (p : ℕ) → live_at b p ≡ true → takes pair.taken p ≡ true

-- the pair that is joining
pub record IsJoin (far : FarState) (pair : JoiningState) : Type 0 where
  pub pages : ℕ
  pub k : ℕ
  pub r : ℕ
  pub range : IsInRange k r
  pub taken : AreTaken k pair.taken
  pub a_count : length pair.shards_a ≡ k + r
  pub b_count : length pair.shards_b ≡ k + r
  pub count : length pair.steps ≡ k + r
  pub apart : pair.a ≢ pair.b
  pub drawn : (pair.a < far.counts.sets) × (pair.b < far.counts.sets)
  pub a_keys : (p : ℕ) (shard : Shard) → slice_get pair.shards_a p ≡ Some shard
      → shard.key < far.counts.keys
  pub b_keys : (p : ℕ) (shard : Shard) → slice_get pair.shards_b p ≡ Some shard
      → shard.key < far.counts.keys
  pub steps : (p : ℕ) (shard : Shard) → slice_get pair.steps p ≡ Some (Some shard) → p < k
      → takes pair.taken p ≡ true
  pub beside : (p : ℕ) (shard : Shard) → slice_get pair.steps p ≡ Some (Some shard) → (old : Shard)
      × (slice_get pair.shards_a p ≡ Some old) × IsBeside old shard
  pub fit : (a b : SetState) → IsFresh far pair a b → AreFit pair pages k a b
  pub word : (a b : SetState) → IsFresh far pair a b → (m : List (List ℕ))
      × IsJoinWord far pair pages k r m
