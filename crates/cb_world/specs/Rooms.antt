-- Room for rows at the nodes.
use Rattle.std.specs.Prelude.{◌≤◌}
use Rattle.cb_member.specs.declared.names.NodeId.{NodeId}
use Rattle.cb_node.specs.NodesState.{NodesState, held}

-- no node holds more rows than it has room for
abbrev pub HaveRoom : NodesState → Type 0
HaveRoom nodes = (node : NodeId) → held nodes node ≤ nodes.room

-- and so it is after a change, if it was before
abbrev pub KeepRoom : NodesState → NodesState → Type 0
KeepRoom old new = HaveRoom old → HaveRoom new
