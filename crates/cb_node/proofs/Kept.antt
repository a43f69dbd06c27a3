-- No node holds more rows than it has room for, whatever one call does at one node.
use Rattle.std.proofs.Common.{◌≡◌, ℕ, ◌+◌, ◌^◌, ◌<◌, ◌≤◌, true, false, cond, List, length, get_or, set, ap, sym, subst, ◌∙◌, arith}
use Rattle.std.specs.Cmp.{nat_cmp_total}
use Rattle.std.specs.Ordering.{nat_cmp}
use Rattle.std.specs.FinMap as map
use Rattle.std.proofs.lemmas.List.{get_or_read, length-replicate, length-set}
use Rattle.std.proofs.lemmas.List.Elements.{All-replicate, All-set}
use Rattle.cb_member.specs.declared.names.NodeId.{NodeId}
use Rattle.cb_node.specs.Rows.{RowsByKey}
use Rattle.cb_node.specs.NodesState.{NodesState, IsNodes, empty_nodes, rows_of_node, with_dropped, with_row, with_rows, with_wiped, held, has}

pub IsNodes-empty_nodes : (count room : ℕ) → count < 2 ^ 32 → room < 2 ^ 32
    → IsNodes (empty_nodes count room)
IsNodes-empty_nodes count room few fits = record {
  numbered = omega (arith, few, length-replicate {A = RowsByKey} count map.empty);
  room_is_kept =
      All-replicate (λ rows. map.len rows ≤ room) count map.empty
      (omega (arith, map.len-empty nat_cmp (List ℕ)));
  room_fits = fits;
}

-- other rows at one node, as many as it has room for
pub IsNodes-with_rows : (state : NodesState) (node : NodeId) (rows : RowsByKey) → IsNodes state
    → map.len rows ≤ state.room → IsNodes (with_rows state node rows)
IsNodes-with_rows state node rows valid fits = record {
  numbered = omega (arith, valid.numbered, length-set state.nodes node.n rows);
  room_is_kept =
      All-set (λ held. map.len held ≤ state.room) state.nodes node.n rows fits
      valid.room_is_kept;
  room_fits = valid.room_fits;
}

-- one row more, at a node with room
pub IsNodes-with_row : (state : NodesState) (node : NodeId) (key : ℕ) (row : List ℕ)
    → IsNodes state → has state node key ≡ false → held state node < state.room
    → IsNodes (with_row state node key row)
IsNodes-with_row state node key row valid fresh room =
    let one_more : map.len (map.insert (rows_of_node state node) key row) ≡ held state node + 1 =
    map.len-insert nat_cmp_total (rows_of_node state node) key row
    ∙ ap (λ b. cond b (held state node) (held state node + 1)) fresh in
    IsNodes-with_rows state node _ valid (omega arith)

-- another row in place of one
pub IsNodes-with_row_again : (state : NodesState) (node : NodeId) (key : ℕ) (row : List ℕ)
    → node.n < length state.nodes → IsNodes state → has state node key ≡ true
    → IsNodes (with_row state node key row)
IsNodes-with_row_again state node key row within valid there =
    let as_many : map.len (map.insert (rows_of_node state node) key row) ≡ held state node =
    map.len-insert nat_cmp_total (rows_of_node state node) key row
    ∙ ap (λ b. cond b (held state node) (held state node + 1)) there in
    IsNodes-with_rows state node _ valid (omega (arith, valid.room_is_kept node.n map.empty within))

-- a row less
pub IsNodes-with_dropped : (state : NodesState) (node : NodeId) (key : ℕ)
    → node.n < length state.nodes → IsNodes state → IsNodes (with_dropped state node key)
IsNodes-with_dropped state node key within valid =
    let fewer : map.len (map.remove (rows_of_node state node) key) ≤ held state node =
    grind (arith, map.len-remove nat_cmp_total (rows_of_node state node) key) in
    IsNodes-with_rows state node _ valid (omega (arith, valid.room_is_kept node.n map.empty within))

-- no row at all
pub IsNodes-with_wiped : (state : NodesState) (node : NodeId) → IsNodes state
    → IsNodes (with_wiped state node)
IsNodes-with_wiped state node valid =
    IsNodes-with_rows state node map.empty valid (omega (arith, map.len-empty nat_cmp (List ℕ)))

-- what a read of one node's rows gives
pub rows_at-read : (old : NodesState) (items : List RowsByKey) (node : NodeId) (n : ℕ)
    (rows : RowsByKey) → items ≡ old.nodes → n ≡ node.n → node.n < length old.nodes
    → rows ≡ get_or items n rows → rows ≡ rows_of_node old node
rows_at-read old items node n rows same at within read =
    let here : rows ≡ get_or old.nodes node.n rows =
    read ∙ ap (λ xs. get_or xs n rows) same ∙ ap (λ k. get_or old.nodes k rows) at in
    get_or_read old.nodes node.n rows within here map.empty

-- the state that a write at one node leaves
pub kept_after_write : (state old : NodesState) (n : ℕ) (node : NodeId)
    (written rows : RowsByKey) → state ≡ old → n ≡ node.n → written ≡ rows
    → IsNodes (with_rows old node rows)
    → IsNodes (record state { nodes = set state.nodes n written })
kept_after_write state old n node written rows same at is valid =
    subst (λ (s : NodesState). IsNodes (record s { nodes = set s.nodes n written })) (sym same)
    (subst (λ (k : ℕ). IsNodes (record old { nodes = set old.nodes k written })) (sym at)
    (subst (λ (y : RowsByKey). IsNodes (with_rows old node y)) (sym is) valid))
