-- A delta is added in two steps, with the row out of its place, and to a row that names itself.
use Rattle.std.proofs.Common.{◌≡◌, ℕ, ◌<◌, true, List, [], length, is_some, unwrap_or, ap, sym, ◌∙◌}
use Rattle.cb_member.specs.declared.names.NodeId.{NodeId}
use Rattle.cb_member.specs.declared.names.Shard.{Shard}
use Rattle.cb_gf256.specs.Row.{row_sum, scaled_row}
use Rattle.cb_gf256.proofs.PublicLaws.{row_sum_associates, row_added_twice_is_gone, row_sum_length, scaled_row_length, scaled_row_of_sum}
use Rattle.cb_node.specs.NodesState.{NodesState, known_row, has, with_row}
use Rattle.cb_node.specs.Delta.{NamesRow}
use Rattle.cb_node.proofs.Put.{row_at-with_row_here, row_at-with_row_other}

-- a put under a key leaves a row that is there
pub has-with_row_here : (state : NodesState) (node : NodeId) (key : ℕ) (row : List ℕ)
    → node.n < length state.nodes → has (with_row state node key row) node key ≡ true
has-with_row_here state node key row within =
    ap is_some (row_at-with_row_here state node key row within)

-- and the rows that other shards name
pub has-with_row_other : (state : NodesState) (node : NodeId) (key : ℕ) (row : List ℕ)
    (shard : Shard) → node.n < length state.nodes → ¬ (NamesRow shard node key)
    → has (with_row state node key row) shard.node shard.key ≡ has state shard.node shard.key
has-with_row_other state node key row shard within other =
    ap is_some (row_at-with_row_other state node shard.node key shard.key row within other)

pub known_row-with_row_other : (state : NodesState) (node : NodeId) (key : ℕ) (row : List ℕ)
    (shard : Shard) → node.n < length state.nodes → ¬ (NamesRow shard node key)
    → known_row (with_row state node key row) shard.node shard.key
    ≡ known_row state shard.node shard.key
known_row-with_row_other state node key row shard within other =
    ap (λ o. unwrap_or o [])
    (row_at-with_row_other state node shard.node key shard.key row within other)

-- a shard names the row that stands there
pub known_row-named : (state : NodesState) (shard : Shard) (node : NodeId) (key : ℕ)
    → NamesRow shard node key → known_row state shard.node shard.key ≡ known_row state node key
known_row-named state shard node key names =
    ap (λ n. known_row state (record { n = n }) shard.key) names.0
    ∙ ap (λ k. known_row state node k) names.1

-- c times one row and c times another are c times their sum
pub scaled_one_by_one : (row one other : List ℕ) (c : ℕ)
    → row_sum (row_sum row (scaled_row c one)) (scaled_row c other)
    ≡ row_sum row (scaled_row c (row_sum one other))
scaled_one_by_one row one other c =
    row_sum_associates row (scaled_row c one) (scaled_row c other)
    ∙ ap (λ x. row_sum row x) (sym (scaled_row_of_sum c one other))

-- a row and itself differ by nothing
pub own_change_is_none : (row : List ℕ) (c : ℕ) → row_sum row (scaled_row c (row_sum row row)) ≡ row
own_change_is_none row c =
    sym (scaled_one_by_one row row row c)
    ∙ row_added_twice_is_gone row (scaled_row c row) (sym (scaled_row_length c row))

pub length-added : (row one : List ℕ) (c : ℕ) → length row ≡ length one
    → length (row_sum row (scaled_row c one)) ≡ length row
length-added row one c same =
    row_sum_length row (scaled_row c one) (same ∙ sym (scaled_row_length c one))
