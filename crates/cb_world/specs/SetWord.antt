-- The word of a set: the code word that its surviving rows are rows of.
use Rattle.std.specs.Prelude.{◌≡◌, ℕ, ◌*◌, ◌<◌, ◌≤◌, Bool, false, nat_lt, List, length, Some, slice_get}
use Rattle.cb_gf256.specs.Rows.{row_at, HoldBytes}
use Rattle.cb_gf256.specs.CodeWord.{IsCodeWord}
use Rattle.cb_gf256.specs.InRange.{IsInRange}
use Rattle.cb_member.specs.declared.names.Shard.{Shard}
use Rattle.cb_member.specs.Membership.{Membership, incarnation}
use Rattle.cb_node.specs.NodesState.{NodesState, row_under}
use Rattle.cb_set.specs.SetState.{SetState, parities}
use Rattle.cb_set.specs.Lost.{is_lost, lost}
use Rattle.cb_set.specs.Nodes.{OnDistinctNodes}

-- more shards are lost than there are parities
abbrev pub is_broken : Membership → SetState → Bool
is_broken m set = nat_lt (parities set) (length (lost m set.shards))

-- the set has lost shards, and no more than it has parities: what it lost can be made again
pub record IsWeak (m : Membership) (set : SetState) : Type 0 where
  pub some_lost : 1 ≤ length (lost m set.shards)
  pub few_lost : length (lost m set.shards) ≤ parities set

-- a code word of k + r rows, each of the bytes of a span of so many pages
pub record IsSpanWord (pages k r : ℕ) (rows : List (List ℕ)) : Type 0 where
  pub is_word : IsCodeWord k r rows
  pub bytes : HoldBytes rows
  pub wide : length (row_at rows 0) ≡ 4096 * pages

-- each shard that is not lost has its row at its node, under its key
abbrev pub HasRows : NodesState → Membership → List Shard → List (List ℕ) → Type 0
HasRows nodes m shards rows = (p : ℕ) (shard : Shard) → slice_get shards p ≡ Some shard
    → is_lost m shard ≡ false → row_under nodes shard.node shard.key ≡ Some (row_at rows p)

-- a code word of the set with which each surviving row agrees
pub record IsWordOf (nodes : NodesState) (m : Membership) (set : SetState) (rows : List (List ℕ)) :
    Type 0 where
  pub code : IsSpanWord set.pages (length set.positions) (parities set) rows
  pub survive : HasRows nodes m set.shards rows

-- no shard is of an incarnation that is still to come
abbrev pub AreCurrent : Membership → List Shard → Type 0
AreCurrent m shards = (p : ℕ) (shard : Shard) → slice_get shards p ≡ Some shard
    → (shard.node.n < length m.nodes) × (shard.incarnation ≤ incarnation m shard.node)

-- what holds of each committed set beside its word
pub record IsShaped (m : Membership) (set : SetState) : Type 0 where
  pub range : IsInRange (length set.positions) (parities set)
  pub data_first : length set.positions ≤ length set.shards
  pub pages : set.pages ≤ 4
  pub distinct : OnDistinctNodes set.shards
  pub current : AreCurrent m set.shards
