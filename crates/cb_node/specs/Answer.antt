-- What a put does, by its answer.
use Rattle.std.specs.Prelude.{◌≡◌, ℕ, ◌<◌, List}
use Rattle.cb_member.specs.declared.names.NodeId.{NodeId}
use Rattle.cb_node.specs.declared.nodes.PutAnswer.{PutAnswer}
use Rattle.cb_node.specs.declared.nodes.PutAnswer.TheVariants.{Stored, Full}
use Rattle.cb_node.specs.NodesState.{NodesState, held, with_row}

-- the row is put where the node holds fewer rows than it has room for; a full node is answered with
-- its count, and nothing changes
abbrev pub PutGives : NodesState → NodeId → ℕ → List ℕ → PutAnswer → NodesState → Type 0
PutGives old node key row Stored new =
    (held old node < old.room) × (new ≡ with_row old node key row)
PutGives old node key row (Full count) new =
    (held old node ≡ old.room) × (count ≡ old.room) × (new ≡ old)
