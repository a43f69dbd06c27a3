-- What many rows put at nodes, dropped from them, or lost with a node leave of the other rows.
use Rattle.std.proofs.Common.{◌≡◌, ◌≢◌, ℕ, zero, suc, ◌<◌, false, cond, List, [], ◌∷◌, length, get_or, Some, None, sym, refl, ap, ◌∙◌, subst, arith, inl, inr, length-set}
use Rattle.std.specs.List.{slice_get}
use Rattle.std.specs.Cmp.{nat_cmp_total}
use Rattle.std.specs.FinMap as map
use Rattle.std.proofs.lemmas.Bool.{cases_eq}
use Rattle.std.specs.Ordering.{nat_cmp, eq_by_cmp}
use Rattle.std.proofs.lemmas.Bool.Decides.{nat_tests}
use Rattle.cb_member.specs.declared.names.NodeId.{NodeId}
use Rattle.cb_member.specs.declared.names.Shard.{Shard}
use Rattle.cb_node.specs.Rows.{RowsByKey}
use Rattle.cb_node.specs.NodesState.{NodesState, rows_of_node, with_rows, with_row, row_under}
use Rattle.cb_node.proofs.Laws.{row_is_put, put_keeps_other_rows, change_is_at_its_node, change_keeps_other_nodes}
pub use Rattle.cb_world.specs.Stored.{AreThere as InRange}
use Rattle.cb_world.specs.Stored.{all_put, all_dropped, NoKey}
use Rattle.cb_node.specs.NodesState.{with_dropped}

-- no two shards have one key
abbrev pub KeysApart : List Shard → Type 0
KeysApart [] = Unit {0}
KeysApart (shard ∷ shards) = NoKey shards shard.key × KeysApart shards

later_range : (nodes : NodesState) (x : Shard) (xs : List Shard) (rows : RowsByKey)
    → InRange nodes (x ∷ xs) → InRange (with_rows nodes x.node rows) xs
later_range nodes x xs rows range p shard at = let n =
    length-set nodes.nodes x.node.n rows in omega (arith, n, range (suc p) shard at)

-- a row under another key stays
pub put_elsewhere : (nodes : NodesState) (shards : List Shard) (rows : List (List ℕ))
    (node : NodeId) (key : ℕ) → InRange nodes shards → NoKey shards key
    → row_under (all_put nodes shards rows) node key ≡ row_under nodes node key
put_elsewhere nodes [] rows node key range none = refl
put_elsewhere nodes (x ∷ xs) [] node key range none = refl
put_elsewhere nodes (x ∷ xs) (row ∷ rows) node key range none =
    put_elsewhere (with_row nodes x.node x.key row) xs rows node key
    (later_range nodes x xs _ range) (λ p shard at. none (suc p) shard at)
    ∙ put_keeps_other_rows nodes x.node node x.key key row (range 0 x refl) (λ same.
    none 0 x refl (sym same.1))

-- each row stands at its node under its key
pub put_there : (nodes : NodesState) (shards : List Shard) (rows : List (List ℕ)) (p : ℕ)
    (shard : Shard) → InRange nodes shards → KeysApart shards → length rows ≡ length shards
    → slice_get shards p ≡ Some shard
    → row_under (all_put nodes shards rows) shard.node shard.key ≡ Some (get_or rows p [])
put_there nodes [] rows p shard range apart same at = absurd (none_some at)
  where
    none_some : slice_get [] p ≡ Some shard → ⊥
    none_some e = cc
put_there nodes (x ∷ xs) [] p shard range apart same at = absurd (omega (arith, same))
put_there nodes (x ∷ xs) (row ∷ rows) zero shard range apart same at =
    let is : x ≡ shard = some_same at in
    subst (λ (s : Shard).
    row_under (all_put (with_row nodes x.node x.key row) xs rows) s.node s.key ≡ Some row) is
    (put_elsewhere (with_row nodes x.node x.key row) xs rows x.node x.key
    (later_range nodes x xs _ range) apart.0
    ∙ row_is_put nodes x.node x.key row (range 0 x refl))
  where
    some_same : Some x ≡ Some shard → x ≡ shard
    some_same e = cc
put_there nodes (x ∷ xs) (row ∷ rows) (suc p) shard range apart same at =
    put_there (with_row nodes x.node x.key row) xs rows p shard (later_range nodes x xs _ range)
    apart.1 (omega (arith, same)) at

eq_by_cmp-other : (q k : ℕ) → q ≢ k → eq_by_cmp nat_cmp q k ≡ false
eq_by_cmp-other q k other = grind (arith, nat_tests)

-- and no other
pub drop_keeps_other_rows : (state : NodesState) (node other : NodeId) (key k : ℕ)
    → node.n < length state.nodes → ((other.n ≡ node.n) × (k ≡ key) → ⊥)
    → row_under (with_dropped state node key) other k ≡ row_under state other k
drop_keeps_other_rows state node other key k within apart = elim (cases_eq other.n node.n) [
  | inl here ↦
      ap (λ (n : ℕ). map.get (get_or (with_dropped state node key).nodes n map.empty) k) here
      ∙ ap (λ rows. map.get rows k) (change_is_at_its_node state node _ within)
      ∙ map.get-remove nat_cmp_total (rows_of_node state node) key k
      ∙ ap (λ b.
      cond b None (map.get (rows_of_node state node) k)) (eq_by_cmp-other k key (λ same.
      apart (here, same)))
      ∙ ap (λ (n : ℕ). map.get (get_or state.nodes n map.empty) k) (sym here)
  | inr off ↦ ap (λ rows. map.get rows k) (change_keeps_other_nodes state node other _ off)
]

-- a node that is wiped keeps no row
pub wiped_node_is_empty : (state : NodesState) (node other : NodeId) (key : ℕ)
    → node.n < length state.nodes → other.n ≡ node.n
    → row_under (with_rows state node map.empty) other key ≡ None
wiped_node_is_empty state node other key within here =
    ap (λ (n : ℕ). map.get (get_or (with_rows state node map.empty).nodes n map.empty) key) here
    ∙ ap (λ rows. map.get rows key) (change_is_at_its_node state node map.empty within)
    ∙ map.get-empty nat_cmp key

-- dropping rows leaves every row under another key
pub drop_elsewhere : (nodes : NodesState) (shards : List Shard) (node : NodeId) (key : ℕ)
    → InRange nodes shards → NoKey shards key
    → row_under (all_dropped nodes shards) node key ≡ row_under nodes node key
drop_elsewhere nodes [] node key range none = refl
drop_elsewhere nodes (x ∷ xs) node key range none =
    drop_elsewhere (with_dropped nodes x.node x.key) xs node key (later_range nodes x xs _ range)
    (λ p shard at. none (suc p) shard at)
    ∙ drop_keeps_other_rows nodes x.node node x.key key (range 0 x refl) (λ same.
    none 0 x refl (sym same.1))
