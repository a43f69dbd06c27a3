-- What changes of the nodes' rows leave of their room.
use Rattle.std.proofs.Common.{◌≡◌, ◌≢◌, ◌⊎◌, ℕ, suc, ◌+◌, ◌<◌, ◌≤◌, Bool, true, false, if◌then◌else◌, List, [], ◌∷◌, length, get_or, Some, refl, ap, sym, ◌∙◌, arith, inl, inr, length-set}
use Rattle.std.specs.Cmp.{nat_cmp_total}
use Rattle.std.specs.Ordering.{nat_cmp}
use Rattle.std.specs.FinMap as map
use Rattle.std.proofs.lemmas.Bool.{cases_eq, cases_lt}
use Rattle.std.specs.List.{slice_get}
use Rattle.std.proofs.lemmas.Option.{slice_get_within, slice_get-get_or}
use Rattle.std.proofs.lemmas.List.{get_or-replicate, get_or_past, length-replicate}
use Rattle.cb_member.specs.declared.names.NodeId.{NodeId}
use Rattle.cb_member.specs.declared.names.Shard.{Shard}
use Rattle.cb_node.specs.Rows.{RowsByKey}
use Rattle.cb_node.specs.NodesState.{NodesState, empty_nodes, held, rows_of_node, with_dropped, with_row, with_rows}
use Rattle.cb_node.proofs.Laws.{change_is_at_its_node, other_nodes_hold_as_many}
use Rattle.cb_set.specs.Nodes.{OnDistinctNodes}
use Rattle.cb_set.specs.SetState.{SetState, is_live}
use Rattle.cb_world.specs.LeftOver.{nodes_left}
use Rattle.cb_world.specs.Rooms.{HaveRoom, KeepRoom}
use Rattle.cb_world.specs.Stored.{all_dropped, all_put}

-- how many rows a node past the last holds
none_past : (nodes : NodesState) (node : NodeId) → length nodes.nodes ≤ node.n → held nodes node ≡ 0
none_past nodes node past =
    ap (λ (rows : RowsByKey). map.len rows) (get_or_past nodes.nodes node.n map.empty past)
    ∙ map.len-empty nat_cmp (List ℕ)

-- other rows at one node, as many as it has room for
pub room_rows : (nodes : NodesState) (node : NodeId) (rows : RowsByKey) → map.len rows ≤ nodes.room
    → KeepRoom nodes (with_rows nodes node rows)
room_rows nodes node rows fits room other = elim (cases_eq other.n node.n) [
  | inl same ↦ elim (cases_lt node.n (length nodes.nodes)) [
    | inl within ↦
        let e : held (with_rows nodes node rows) other ≡ map.len rows =
        ap (λ (n : ℕ). held (with_rows nodes node rows) (record { n = n })) same
        ∙ ap (λ (x : RowsByKey). map.len x) (change_is_at_its_node nodes node rows within) in
        omega (arith, e, fits)
    | inr past ↦
        let n = length-set nodes.nodes node.n rows in
        let e = none_past (with_rows nodes node rows) other (omega (arith, n, past, same)) in
        omega (arith, e)
  ]
  | inr off ↦
      let e = other_nodes_hold_as_many nodes node other rows off in
      let r = room other in omega (arith, e, r)
]

-- one row more, at a node with room
pub room_put : (nodes : NodesState) (node : NodeId) (key : ℕ) (row : List ℕ)
    → held nodes node < nodes.room → KeepRoom nodes (with_row nodes node key row)
room_put nodes node key row fits =
    let more : map.len (map.insert (rows_of_node nodes node) key row) ≤ held nodes node + 1 =
    grind (arith, map.len-insert nat_cmp_total (rows_of_node nodes node) key row) in
    room_rows nodes node _ (omega (arith, more, fits))

-- a row less
room_drop : (nodes : NodesState) (node : NodeId) (key : ℕ)
    → KeepRoom nodes (with_dropped nodes node key)
room_drop nodes node key room =
    let fewer : map.len (map.remove (rows_of_node nodes node) key) ≤ held nodes node =
    grind (arith, map.len-remove nat_cmp_total (rows_of_node nodes node) key) in
    let r = room node in room_rows nodes node _ (omega (arith, fewer, r)) room

-- many rows less
pub room_dropped : (nodes : NodesState) (shards : List Shard)
    → KeepRoom nodes (all_dropped nodes shards)
room_dropped nodes [] room = room
room_dropped nodes (x ∷ xs) room =
    room_dropped (with_dropped nodes x.node x.key) xs (room_drop nodes x.node x.key room)

-- many rows more, each at another node with room
pub room_puts : (nodes : NodesState) (shards : List Shard) (rows : List (List ℕ))
    → ((p : ℕ) (shard : Shard) → slice_get shards p ≡ Some shard
    → held nodes shard.node < nodes.room)
    → OnDistinctNodes shards → KeepRoom nodes (all_put nodes shards rows)
room_puts nodes [] rows fits apart room = room
room_puts nodes (x ∷ xs) [] fits apart room = room
room_puts nodes (x ∷ xs) (row ∷ rows) fits apart room =
    room_puts (with_row nodes x.node x.key row) xs rows later
    (λ i j d less within. apart (suc i) (suc j) d (omega (arith, less)) (omega (arith, within)))
    (room_put nodes x.node x.key row (fits 0 x refl) room)
  where
    some_same : (a b : Shard) → Some a ≡ Some b → a ≡ b
    some_same a b e = cc

    later : (p : ℕ) (shard : Shard) → slice_get xs p ≡ Some shard
        → held (with_row nodes x.node x.key row) shard.node < nodes.room
    later p shard at =
        let within = slice_get_within xs p shard at in
        let same = some_same (get_or xs p shard) shard (sym (slice_get-get_or xs p shard within) ∙ at) in
        let off : shard.node.n ≢ x.node.n =
        λ e. apart 0 (suc p) shard (omega arith) (omega (arith, within))
        (sym e ∙ ap (λ (s : Shard). s.node.n) (sym same)) in
        let e = other_nodes_hold_as_many nodes x.node shard.node
        (map.insert (rows_of_node nodes x.node) x.key row) off in
        let f = fits (suc p) shard at in omega (arith, e, f)

-- no row at one node
pub room_wiped : (nodes : NodesState) (node : NodeId) → KeepRoom nodes (with_rows nodes node map.empty)
room_wiped nodes node = room_rows nodes node map.empty
    (let e = map.len-empty nat_cmp (List ℕ) in omega (arith, e))

-- what is left to the nodes of a set
pub room_left : (nodes : NodesState) (rest : SetState) → KeepRoom nodes (nodes_left nodes rest)
room_left nodes rest room = by (is_live rest)
  where
    by : (b : Bool) → HaveRoom (if b then nodes else all_dropped nodes rest.shards)
    by true = room
    by false = room_dropped nodes rest.shards room

-- nodes without rows
pub room_empty : (count room : ℕ) → HaveRoom (empty_nodes count room)
room_empty count room node =
    let e : held (empty_nodes count room) node ≡ 0 = by (cases_lt node.n count) in omega (arith, e)
  where
    by : (node.n < count) ⊎ (count ≤ node.n) → held (empty_nodes count room) node ≡ 0
    by (inl within) =
        ap (λ (rows : RowsByKey). map.len rows)
        (get_or-replicate count node.n map.empty map.empty within) ∙ map.len-empty nat_cmp (List ℕ)
    by (inr past) = none_past (empty_nodes count room) node
        (let n = length-replicate {A = RowsByKey} count map.empty in omega (arith, n, past))
