-- What a row dropped at one node, and a node wiped, leave of the rows.
use Rattle.std.proofs.Common.{◌≡◌, ◌≢◌, ℕ, ◌<◌, false, cond, List, length, get_or, Option, Some, None, is_some, refl, ap, sym, ◌∙◌, inl, inr}
use Rattle.std.specs.Cmp.{nat_cmp_total}
use Rattle.std.specs.Ordering.{nat_cmp, eq_by_cmp}
use Rattle.std.specs.FinMap as map
use Rattle.std.proofs.lemmas.Bool.{cases_eq, false≢true}
use Rattle.std.proofs.lemmas.List.{set-set, set-get_or}
use Rattle.cb_member.specs.declared.names.NodeId.{NodeId}
use Rattle.cb_node.specs.Rows.{RowsByKey}
use Rattle.cb_node.specs.NodesState.{NodesState, has, held, row_under, rows_of_node, with_dropped, with_row, with_rows}
use Rattle.cb_node.proofs.Put.{chosen, covered, eq_by_cmp-other, eq_by_cmp-same, equal_from_eq, rows_at-with_rows_here, rows_at-with_rows_other}

none_unknown : (o : Option (List ℕ)) → is_some o ≡ false → o ≡ None
none_unknown None absent = refl
none_unknown (Some row) absent = absurd (false≢true (sym absent))

-- a map without a key, after a removal of the key
remove-absent : (rows : RowsByKey) (key : ℕ) → map.contains_key rows key ≡ false
    → map.remove rows key ≡ rows
remove-absent rows key absent =
    map.same_map nat_cmp_total map.nat_cmp-IsAntisymmetric _ _
    (λ q. map.get-remove nat_cmp_total rows key q
    ∙ chosen (eq_by_cmp nat_cmp q key) None (map.get rows q) (λ same.
    let at : q ≡ key = map.nat_cmp-IsAntisymmetric q key (equal_from_eq (nat_cmp q key) same) in
    sym (ap (λ k. map.get rows k) at ∙ none_unknown (map.get rows key) absent)))

-- an insert does not matter to a removal of its key
remove-insert : (rows : RowsByKey) (key : ℕ) (row : List ℕ)
    → map.remove (map.insert rows key row) key ≡ map.remove rows key
remove-insert rows key row =
    map.same_map nat_cmp_total map.nat_cmp-IsAntisymmetric _ _
    (λ q. map.get-remove nat_cmp_total (map.insert rows key row) key q
    ∙ ap (cond (eq_by_cmp nat_cmp q key) None) (map.get-insert nat_cmp_total rows key row q)
    ∙ covered (eq_by_cmp nat_cmp q key) None (Some row) (map.get rows q)
    ∙ sym (map.get-remove nat_cmp_total rows key q))

-- the row that is dropped is gone
pub row_at-with_dropped_here : (state : NodesState) (node : NodeId) (key : ℕ)
    → node.n < length state.nodes → row_under (with_dropped state node key) node key ≡ None
row_at-with_dropped_here state node key within =
    ap (λ rows. map.get rows key) (rows_at-with_rows_here state node _ within)
    ∙ map.get-remove nat_cmp_total (rows_of_node state node) key key
    ∙ ap (λ b. cond b None (map.get (rows_of_node state node) key)) (eq_by_cmp-same key)

-- and no other
pub row_at-with_dropped_other : (state : NodesState) (node other : NodeId) (key k : ℕ)
    → node.n < length state.nodes → ((other.n ≡ node.n) × (k ≡ key) → ⊥)
    → row_under (with_dropped state node key) other k ≡ row_under state other k
row_at-with_dropped_other state node other key k within apart =
    elim (cases_eq other.n node.n) [
      | inl here ↦
          ap (λ (n : ℕ). map.get (get_or (with_dropped state node key).nodes n map.empty) k) here
          ∙ ap (λ rows. map.get rows k) (rows_at-with_rows_here state node _ within)
          ∙ map.get-remove nat_cmp_total (rows_of_node state node) key k
          ∙ ap (λ b. cond b None (map.get (rows_of_node state node) k))
          (eq_by_cmp-other k key (λ same. apart (here, same)))
          ∙ ap (λ (n : ℕ). map.get (get_or state.nodes n map.empty) k) (sym here)
      | inr off ↦ ap (λ rows. map.get rows k) (rows_at-with_rows_other state node other _ off)
    ]

-- every other node holds as many rows as before, whatever stands at this one
pub held-with_rows_other : (state : NodesState) (node other : NodeId) (rows : RowsByKey)
    → other.n ≢ node.n → held (with_rows state node rows) other ≡ held state other
held-with_rows_other state node other rows off =
    ap (λ rows. map.len rows) (rows_at-with_rows_other state node other rows off)

-- a row that was put under a fresh key and dropped leaves the nodes as they were
pub with_dropped-with_row : (state : NodesState) (node : NodeId) (key : ℕ) (row : List ℕ)
    → node.n < length state.nodes → has state node key ≡ false
    → with_dropped (with_row state node key row) node key ≡ state
with_dropped-with_row state node key row within fresh =
    let put = map.insert (rows_of_node state node) key row in
    ap (λ rows. with_rows (with_row state node key row) node (map.remove rows key))
    (rows_at-with_rows_here state node put within)
    ∙ ap (λ nodes. record state { nodes = nodes })
    (set-set state.nodes node.n put (map.remove put key))
    ∙ ap (λ rows. with_rows state node rows)
    (remove-insert (rows_of_node state node) key row
    ∙ remove-absent (rows_of_node state node) key fresh)
    ∙ ap (λ nodes. record state { nodes = nodes }) (set-get_or state.nodes node.n map.empty)
