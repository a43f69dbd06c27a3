-- What a row put at one node leaves of the rows.
use Rattle.std.proofs.Common.{◌≡◌, ℕ, ◌<◌, ◌≢◌, Bool, true, false, cond, List, [], length, get_or, Option, Some, None, is_some, unwrap_or, refl, ap, sym, ◌∙◌, inl, inr, arith}
use Rattle.std.specs.Cmp.{nat_cmp_total}
use Rattle.std.specs.Ordering.{nat_cmp, eq_by_cmp, is_eq}
use Rattle.std.specs.declared.cmp.Ordering.{Ordering}
use Rattle.std.specs.declared.cmp.Ordering.TheVariants.{Less, Equal, Greater}
use Rattle.std.specs.FinMap as map
use Rattle.std.proofs.lemmas.Bool.{cases_eq, false≢true}
use Rattle.std.proofs.lemmas.Bool.Decides.{nat_tests}
use Rattle.std.proofs.lemmas.List.{get_or-set_same, get_or-set_other, set-set, set-get_or}
use Rattle.cb_member.specs.declared.names.NodeId.{NodeId}
use Rattle.cb_node.specs.Rows.{RowsByKey}
use Rattle.cb_node.specs.NodesState.{NodesState, rows_of_node, row_under, known_row, has, with_rows, with_row}

-- one node has the new rows
pub rows_at-with_rows_here : (state : NodesState) (node : NodeId) (rows : RowsByKey)
    → node.n < length state.nodes → rows_of_node (with_rows state node rows) node ≡ rows
rows_at-with_rows_here state node rows within =
    get_or-set_same state.nodes node.n rows map.empty within

-- and every other node its old ones
pub rows_at-with_rows_other : (state : NodesState) (node q : NodeId) (rows : RowsByKey)
    → q.n ≢ node.n → rows_of_node (with_rows state node rows) q ≡ rows_of_node state q
rows_at-with_rows_other state node q rows other =
    get_or-set_other state.nodes node.n q.n rows map.empty other

pub eq_by_cmp-same : (k : ℕ) → eq_by_cmp nat_cmp k k ≡ true
eq_by_cmp-same k = grind (arith, nat_tests)

pub eq_by_cmp-other : (q k : ℕ) → q ≢ k → eq_by_cmp nat_cmp q k ≡ false
eq_by_cmp-other q k other = grind (arith, nat_tests)

-- the row stands under its key
pub row_at-with_row_here : (state : NodesState) (node : NodeId) (key : ℕ) (row : List ℕ)
    → node.n < length state.nodes → row_under (with_row state node key row) node key ≡ Some row
row_at-with_row_here state node key row within =
    ap (λ rows. map.get rows key) (rows_at-with_rows_here state node _ within)
    ∙ map.get-insert nat_cmp_total (rows_of_node state node) key row key
    ∙ ap (λ b. cond b (Some row) (map.get (rows_of_node state node) key)) (eq_by_cmp-same key)

-- every other key of the node keeps its row
pub row_at-with_row_other_key : (state : NodesState) (node : NodeId) (key q : ℕ) (row : List ℕ)
    → node.n < length state.nodes → q ≢ key
    → row_under (with_row state node key row) node q ≡ row_under state node q
row_at-with_row_other_key state node key q row within other =
    ap (λ rows. map.get rows q) (rows_at-with_rows_here state node _ within)
    ∙ map.get-insert nat_cmp_total (rows_of_node state node) key row q
    ∙ ap (λ b. cond b (Some row) (map.get (rows_of_node state node) q))
    (eq_by_cmp-other q key other)

-- and every key of every other node
pub row_at-with_row_other_node : (state : NodesState) (node q : NodeId) (key k : ℕ) (row : List ℕ)
    → q.n ≢ node.n → row_under (with_row state node key row) q k ≡ row_under state q k
row_at-with_row_other_node state node q key k row other =
    ap (λ rows. map.get rows k) (rows_at-with_rows_other state node q _ other)

-- both in one
pub row_at-with_row_other : (state : NodesState) (node q : NodeId) (key k : ℕ) (row : List ℕ)
    → node.n < length state.nodes → ((q.n ≡ node.n) × (k ≡ key) → ⊥)
    → row_under (with_row state node key row) q k ≡ row_under state q k
row_at-with_row_other state node q key k row within other = elim (cases_eq q.n node.n) [
  | inl here ↦
      ap (λ n. map.get (get_or (with_row state node key row).nodes n map.empty) k) here
      ∙ row_at-with_row_other_key state node key k row within (λ same. other (here, same))
      ∙ ap (λ n. map.get (get_or state.nodes n map.empty) k) (sym here)
  | inr apart ↦ row_at-with_row_other_node state node q key k row apart
]

pub covered : (b : Bool) (x y z : Option (List ℕ)) → cond b x (cond b y z) ≡ cond b x z
covered true x y z = refl
covered false x y z = refl

insert-insert : (rows : RowsByKey) (key : ℕ) (a b : List ℕ)
    → map.insert (map.insert rows key a) key b ≡ map.insert rows key b
insert-insert rows key a b = map.same_map nat_cmp_total map.nat_cmp-IsAntisymmetric _ _ alike
  where
    alike : (q : ℕ) → map.get (map.insert (map.insert rows key a) key b) q
        ≡ map.get (map.insert rows key b) q
    alike q = map.get-insert nat_cmp_total (map.insert rows key a) key b q
        ∙ ap (cond (eq_by_cmp nat_cmp q key) (Some b)) (map.get-insert nat_cmp_total rows key a q)
        ∙ covered (eq_by_cmp nat_cmp q key) (Some b) (Some a) (map.get rows q)
        ∙ sym (map.get-insert nat_cmp_total rows key b q)

-- of two rows put under one key the later one stays
pub with_row-with_row : (state : NodesState) (node : NodeId) (key : ℕ) (a b : List ℕ)
    → node.n < length state.nodes
    → with_row (with_row state node key a) node key b ≡ with_row state node key b
with_row-with_row state node key a b within =
    ap (λ rows. with_rows (with_row state node key a) node (map.insert rows key b))
    (rows_at-with_rows_here state node _ within)
    ∙ ap (λ nodes. record state { nodes = nodes })
    (set-set state.nodes node.n (map.insert (rows_of_node state node) key a)
    (map.insert (map.insert (rows_of_node state node) key a) key b))
    ∙ ap (λ rows. with_rows state node rows) (insert-insert (rows_of_node state node) key a b)

pub equal_from_eq : (o : Ordering) → is_eq o ≡ true → o ≡ Equal
equal_from_eq Less e = absurd (false≢true e)
equal_from_eq Equal e = refl
equal_from_eq Greater e = absurd (false≢true e)

pub some_known : (o : Option (List ℕ)) → is_some o ≡ true → Some (unwrap_or o []) ≡ o
some_known None there = absurd (false≢true there)
some_known (Some row) there = refl

pub chosen : (b : Bool) (x y : Option (List ℕ)) → (b ≡ true → x ≡ y) → cond b x y ≡ y
chosen true x y same = same refl
chosen false x y same = refl

insert-known : (rows : RowsByKey) (key : ℕ) → map.contains_key rows key ≡ true
    → map.insert rows key (unwrap_or (map.get rows key) []) ≡ rows
insert-known rows key there = map.same_map nat_cmp_total map.nat_cmp-IsAntisymmetric _ _ alike
  where
    alike : (q : ℕ) → map.get (map.insert rows key (unwrap_or (map.get rows key) [])) q
        ≡ map.get rows q
    alike q = map.get-insert nat_cmp_total rows key _ q
        ∙ chosen (eq_by_cmp nat_cmp q key) _ (map.get rows q) (λ same.
        let at : q ≡ key = map.nat_cmp-IsAntisymmetric q key (equal_from_eq (nat_cmp q key) same) in
        some_known (map.get rows key) there ∙ ap (λ k. map.get rows k) (sym at))

-- the row that stands there, put again, changes nothing
pub with_row-known_row : (state : NodesState) (node : NodeId) (key : ℕ) → has state node key ≡ true
    → with_row state node key (known_row state node key) ≡ state
with_row-known_row state node key there =
    ap (λ rows. with_rows state node rows) (insert-known (rows_of_node state node) key there)
    ∙ ap (λ nodes. record state { nodes = nodes }) (set-get_or state.nodes node.n map.empty)
