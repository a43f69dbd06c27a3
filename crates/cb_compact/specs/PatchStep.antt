-- A step of the joining pair: which position's, the row that is put, and the far state then.
use Rattle.std.specs.Prelude.{◌≡◌, ◌⊎◌, ℕ, ◌+◌, ◌<◌, ◌&&◌, Bool, true, false, nat_lt, List, None, Some, is_none, length, slice_get, filter, slice_index_or, if◌then◌else◌}
use Rattle.std.specs.List.{range_with_len}
use Rattle.cb_gf256.specs.Rows.{row_at}
use Rattle.cb_member.specs.declared.names.Shard.{Shard}
use Rattle.cb_node.specs.NodesState.{held, with_row}
use Rattle.cb_set.specs.SetState.{SetState, parities}
use Rattle.cb_types.specs.declared.reply.Reply.{Reply}
use Rattle.cb_types.specs.declared.reply.Reply.TheVariants as answer
use Rattle.cb_world.specs.Joining.{JoiningState}
use Rattle.cb_world.specs.JoinSteps.{with_step}
use Rattle.cb_world.specs.Merged.{takes, IsMergedWord}
use Rattle.cb_world.specs.SetWord.{IsWordOf}
use Rattle.cb_world.specs.FarState.{FarState}
use Rattle.cb_compact.specs.PartStep.{HasNoPair, IsFreshPair, IsPairGivenUp}

-- whether the position has a step, of a pair with so many data positions: it is a data position
-- taken from b, or a parity's
abbrev pub has_step : JoiningState → ℕ → ℕ → Bool
has_step pair k p = if nat_lt p k then takes pair.taken p else true

-- whether its step is still to be done
abbrev pub is_undone : JoiningState → ℕ → ℕ → Bool
is_undone pair k p = has_step pair k p && is_none (slice_index_or pair.steps p None)

-- the positions whose steps are not done, in order
abbrev pub undone : JoiningState → ℕ → List ℕ
undone pair k = filter (is_undone pair k) (range_with_len 0 (length pair.steps))

-- the least position whose step is not done
pub record IsNext (pair : JoiningState) (k p : ℕ) : Type 0 where
  pub within : p < length pair.steps
  pub undone : is_undone pair k p ≡ true
  pub least : (q : ℕ) → q < p → is_undone pair k q ≡ false

-- every step is done
abbrev pub AreDone : JoiningState → ℕ → Type 0
AreDone pair k = (p : ℕ) → p < length pair.steps → is_undone pair k p ≡ false

-- the row is that of the position in the merged word of the sets' words
abbrev pub IsMergedRow : FarState → JoiningState → SetState → SetState → ℕ → List ℕ → Type 0
IsMergedRow far pair a b p row = (wa wb m : List (List ℕ)) → IsWordOf far.nodes far.members a wa
    → IsWordOf far.nodes far.members b wb
    → IsMergedWord a.pages (length a.positions) (parities a) pair.taken wa wb m → row ≡ row_at m p

-- the shard for a new row beside the old one: on its node and of its incarnation, under the next
-- key
abbrev pub shard_beside : FarState → Shard → Shard
shard_beside far old = record {
  node = old.node;
  incarnation = old.incarnation;
  key = far.counts.keys;
}

-- the far state once this row is put under the shard, and is that of a step of the pair
abbrev pub with_stepped : FarState → JoiningState → ℕ → Shard → List ℕ → FarState
with_stepped far pair p shard row = record far {
  nodes = with_row far.nodes shard.node shard.key row;
  joining = Some (with_step pair p shard);
  counts = record far.counts { keys = far.counts.keys + 1 };
}

-- every step of the pair is done
pub record IsAllStepped (far : FarState) (pair : JoiningState) (a : SetState) (new : FarState)
    (r : Reply) : Type 0 where
  pub done : AreDone pair (length a.positions)
  pub reply : r ≡ answer.AllStepped
  pub state : new ≡ far

-- a's node at the next position holds as many rows as it has room for: the pair stays
pub record IsNodeFull (far : FarState) (pair : JoiningState) (a : SetState) (new : FarState) (r :
    Reply)
    : Type 0 where
  pub position : ℕ
  pub next : IsNext pair (length a.positions) position
  pub old : Shard
  pub at : slice_get pair.shards_a position ≡ Some old
  pub full : held far.nodes old.node ≡ far.nodes.room
  pub reply : r ≡ answer.NodeFull old.node
  pub state : new ≡ far

-- the next step is done: the merged row stands beside a's
pub record IsOneStep (far : FarState) (pair : JoiningState) (a b : SetState) (new : FarState)
    (r : Reply) : Type 0 where
  pub position : ℕ
  pub next : IsNext pair (length a.positions) position
  pub old : Shard
  pub at : slice_get pair.shards_a position ≡ Some old
  pub room : held far.nodes old.node < far.nodes.room
  pub row : List ℕ
  pub merged : IsMergedRow far pair a b position row
  pub reply : r ≡ answer.Stepped position
  pub state : new ≡ with_stepped far pair position (shard_beside far old) row

-- what becomes of a pair whose sets stand as they did
abbrev pub TakesStep : FarState → JoiningState → SetState → SetState → FarState → Reply → Type 0
TakesStep far pair a b new r =
    IsAllStepped far pair a new r ⊎ IsNodeFull far pair a new r ⊎ IsOneStep far pair a b new r

-- the pair's sets stand as they did, and its next step is taken
pub record StepsOn (far new : FarState) (r : Reply) : Type 0 where
  pub pair : JoiningState
  pub a : SetState
  pub b : SetState
  pub fresh : IsFreshPair far pair a b
  pub takes : TakesStep far pair a b new r

-- a step of the joining pair: the reply and the far state after it
abbrev pub PatchStep : FarState → FarState → Reply → Type 0
PatchStep far new r = HasNoPair far new r ⊎ IsPairGivenUp far new r ⊎ StepsOn far new r
