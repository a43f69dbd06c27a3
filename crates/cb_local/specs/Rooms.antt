-- Whether a's nodes have room for the rows of a pair's steps.
use Rattle.std.specs.Prelude.{◌≡◌, ℕ, ◌<◌, ◌≤◌, true, Some, length, slice_get}
use Rattle.cb_member.specs.declared.names.NodeId.{NodeId}
use Rattle.cb_member.specs.declared.names.Shard.{Shard}
use Rattle.cb_node.specs.NodesState.{held}
use Rattle.cb_set.specs.SetState.{SetState}
use Rattle.cb_world.specs.FarState.{FarState}
use Rattle.cb_world.specs.Joining.{JoiningState}
use Rattle.cb_compact.specs.PatchStep.{is_undone}

-- each of a's nodes at these positions has room, if there is a step to be done
abbrev pub HaveStepRoom : FarState → JoiningState → SetState → ℕ → ℕ → Type 0
HaveStepRoom far pair a from to = (q : ℕ) (old : Shard) → from ≤ q → q < to
    → is_undone pair (length a.positions) q ≡ true → slice_get pair.shards_a q ≡ Some old
    → held far.nodes old.node < far.nodes.room

-- the node is a's at the first position at which a step is to be done and there is no room
pub record IsFirstFull (far : FarState) (pair : JoiningState) (a : SetState) (node : NodeId)
    : Type 0 where
  pub position : ℕ
  pub within : position < length pair.steps
  pub undone : is_undone pair (length a.positions) position ≡ true
  pub old : Shard
  pub at : slice_get pair.shards_a position ≡ Some old
  pub name : node ≡ old.node
  pub full : held far.nodes old.node ≡ far.nodes.room
  pub before : HaveStepRoom far pair a 0 position

-- all of a's nodes have room
abbrev pub AllHaveRoom : FarState → JoiningState → SetState → Type 0
AllHaveRoom far pair a = HaveStepRoom far pair a 0 (length pair.steps)
