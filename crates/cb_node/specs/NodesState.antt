-- The rows at all nodes.
use Rattle.std.specs.Prelude.{◌≡◌, ℕ, ◌^◌, ◌<◌, ◌≤◌, Bool, List, [], Option, Some, All, length, replicate, refl, unwrap_or, slice_index, slice_index_or, slice_set}
use Rattle.std.specs.Coded.{Coded, code_by, coded×, coded_ℕ, coded_list}
use Rattle.std.specs.FinMap as map
use Rattle.cb_gf256.specs.Sum.{◌⊕◌}
use Rattle.cb_member.specs.declared.names.NodeId.{NodeId}
use Rattle.cb_node.specs.Rows.{RowsByKey, rows_code}

-- How many rows a node can hold, how many rows were ever given out, and the nodes' rows in order of
-- their numbers.
pub record NodesState : Type 0 where
  pub room : ℕ
  pub given : ℕ
  pub nodes : List RowsByKey

-- the state of these parts
abbrev pub nodes_of : ℕ → ℕ → List RowsByKey → NodesState
nodes_of room given nodes = record { room = room; given = given; nodes = nodes }

-- the state is stored as these three
abbrev pub nodes_code : Coded NodesState
nodes_code =
    code_by (ℕ × (ℕ × List RowsByKey)) (coded× coded_ℕ (coded× coded_ℕ (coded_list rows_code)))
    (λ s. (s.room, (s.given, s.nodes))) (λ p. record { room = p.0; given = p.1.0; nodes = p.1.1 })
    (λ _. refl)

-- so many nodes with no row, none of which was given
abbrev pub empty_nodes : ℕ → ℕ → NodesState
empty_nodes count room = nodes_of room 0 (replicate count map.empty)

-- the rows at the node
abbrev pub rows_of_node : NodesState → NodeId → RowsByKey
rows_of_node state node = slice_index_or state.nodes node.n map.empty

-- how many rows the node holds
abbrev pub held : NodesState → NodeId → ℕ
held state node = map.len (rows_of_node state node)

-- whether the node has a row under the key
abbrev pub has : NodesState → NodeId → ℕ → Bool
has state node key = map.contains_key (rows_of_node state node) key

-- the row under the key at the node, if it is there
abbrev pub row_under : NodesState → NodeId → ℕ → Option (List ℕ)
row_under state node key = map.get (rows_of_node state node) key

-- the same where it is known to be there
abbrev pub known_row : NodesState → NodeId → ℕ → List ℕ
known_row state node key = unwrap_or (row_under state node key) []

-- other rows at one node; every other node, and the count of rows given, are as they were
abbrev pub with_rows : NodesState → NodeId → RowsByKey → NodesState
with_rows state node rows = record state { nodes = slice_set state.nodes node.n rows }

-- one row put under the key at the node; every other key and every other node are as they were
abbrev pub with_row : NodesState → NodeId → ℕ → List ℕ → NodesState
with_row state node key row = with_rows state node (map.insert (rows_of_node state node) key row)

-- one byte of the row under the key at the node changed by adding this; every other byte, key and
-- node are as they were
abbrev pub with_spoiled : NodesState → NodeId → ℕ → ℕ → ℕ → NodesState
with_spoiled state node key at with =
    let row = known_row state node key in
    with_row state node key (slice_set row at (slice_index row at ⊕ with))

-- no row under the key at the node; every other key and every other node are as they were
abbrev pub with_dropped : NodesState → NodeId → ℕ → NodesState
with_dropped state node key = with_rows state node (map.remove (rows_of_node state node) key)

-- no row at the node; every other node is as it was
abbrev pub with_wiped : NodesState → NodeId → NodesState
with_wiped state node = with_rows state node map.empty

-- each number of each row is a byte
abbrev pub RowsAreBytes : NodesState → Type 0
RowsAreBytes state =
    (node : NodeId) (key : ℕ) (row : List ℕ) → row_under state node key ≡ Some row
    → All (λ x. x < 2 ^ 8) row

-- What holds at every moment: a u32 counts the nodes, and none holds more than it has room for.
pub record IsNodes (state : NodesState) : Type 0 where
  pub numbered : length state.nodes < 2 ^ 32
  pub room_is_kept : All (λ rows. map.len rows ≤ state.room) state.nodes
  pub room_fits : state.room < 2 ^ 32
