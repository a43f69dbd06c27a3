-- A row that is put for a step, and dropped with the rows of the steps before it.
use Rattle.std.proofs.Common.{◌≡◌, ℕ, zero, suc, ◌<◌, Bool, true, false, cond, List, [], ◌∷◌, length, set, Option, Some, None, is_some, refl, sym, ap, ◌∙◌, subst, arith, inl, inr, length-set}
use Rattle.std.specs.Cmp.{nat_cmp_total}
use Rattle.std.specs.Ordering.{nat_cmp, eq_by_cmp}
use Rattle.std.specs.FinMap as map
use Rattle.std.specs.List.{slice_get}
use Rattle.std.proofs.lemmas.Bool.{cases_eq}
use Rattle.std.proofs.lemmas.Bool.Decides.{nat_tests}
use Rattle.std.proofs.lemmas.List.{set-set}
use Rattle.cb_member.specs.declared.names.NodeId.{NodeId}
use Rattle.cb_member.specs.declared.names.Shard.{Shard}
use Rattle.cb_node.specs.Rows.{RowsByKey}
use Rattle.cb_node.specs.NodesState.{NodesState, has, rows_of_node, with_dropped, with_row, with_rows}
use Rattle.cb_node.proofs.Laws.{change_is_at_its_node, change_keeps_other_nodes, drop_keeps_other_rows, put_then_dropped}
use Rattle.cb_world.specs.FarState.{FarState}
use Rattle.cb_world.specs.Joining.{JoiningState}
use Rattle.cb_world.specs.JoinSteps.{with_step}
use Rattle.cb_world.specs.Reserved.{put_shards}
use Rattle.cb_world.specs.Stored.{AreThere, all_dropped}
use Rattle.cb_compact.specs.NowGoing.{with_keys}
use Rattle.cb_compact.specs.PartStep.{with_parted}
use Rattle.cb_compact.specs.PatchStep.{with_stepped}

-- ---- a row dropped beside one that is put
not_both : (k q key : ℕ) → (q ≡ key → ⊥) → eq_by_cmp nat_cmp k q ≡ true
    → eq_by_cmp nat_cmp k key ≡ true → ⊥
not_both k q key off e f = grind (arith, nat_tests)

either_way : (b c : Bool) (x y : Option (List ℕ)) → (b ≡ true → c ≡ true → ⊥)
    → cond b None (cond c x y) ≡ cond c x (cond b None y)
either_way true true x y off = absurd (off refl refl)
either_way true false x y off = refl
either_way false true x y off = refl
either_way false false x y off = refl

remove_insert : (rows : RowsByKey) (key q : ℕ) (row : List ℕ) → (q ≡ key → ⊥)
    → map.remove (map.insert rows key row) q ≡ map.insert (map.remove rows q) key row
remove_insert rows key q row off =
    map.same_map nat_cmp_total map.nat_cmp-IsAntisymmetric _ _
    (λ k. map.get-remove nat_cmp_total (map.insert rows key row) q k
    ∙ ap (cond (eq_by_cmp nat_cmp k q) None) (map.get-insert nat_cmp_total rows key row k)
    ∙ either_way (eq_by_cmp nat_cmp k q) (eq_by_cmp nat_cmp k key) (Some row) (map.get rows k)
    (not_both k q key off)
    ∙ ap (cond (eq_by_cmp nat_cmp k key) (Some row)) (sym (map.get-remove nat_cmp_total rows q k))
    ∙ sym (map.get-insert nat_cmp_total (map.remove rows q) key row k))

set_set_other : (xs : List RowsByKey) (i j : ℕ) (x y : RowsByKey) → (i ≡ j → ⊥)
    → set (set xs i x) j y ≡ set (set xs j y) i x
set_set_other [] i j x y off = refl
set_set_other (z ∷ zs) zero zero x y off = absurd (off refl)
set_set_other (z ∷ zs) zero (suc j) x y off = refl
set_set_other (z ∷ zs) (suc i) zero x y off = refl
set_set_other (z ∷ zs) (suc i) (suc j) x y off =
    ap (λ (l : List RowsByKey). z ∷ l) (set_set_other zs i j x y (λ e. off (ap suc e)))

node_is : (x y : NodeId) → x.n ≡ y.n → x ≡ y
node_is x y e = λ i. record { n = e i }

here : (nodes : NodesState) (x : NodeId) (k q : ℕ) (row : List ℕ) → x.n < length nodes.nodes
    → (q ≡ k → ⊥)
    → with_dropped (with_row nodes x k row) x q ≡ with_row (with_dropped nodes x q) x k row
here nodes x k q row within off =
    let put = map.insert (rows_of_node nodes x) k row in
    let gone = map.remove (rows_of_node nodes x) q in
    ap (λ rows. with_rows (with_row nodes x k row) x (map.remove rows q))
    (change_is_at_its_node nodes x put within)
    ∙ ap (λ l. record nodes { nodes = l }) (set-set nodes.nodes x.n put (map.remove put q))
    ∙ ap (λ rows. with_rows nodes x rows) (remove_insert (rows_of_node nodes x) k q row off)
    ∙ ap (λ l. record nodes { nodes = l })
    (sym (set-set nodes.nodes x.n gone (map.insert gone k row)))
    ∙ ap (λ rows. with_rows (with_dropped nodes x q) x (map.insert rows k row))
    (sym (change_is_at_its_node nodes x gone within))

elsewhere : (nodes : NodesState) (x y : NodeId) (k q : ℕ) (row : List ℕ) → (y.n ≡ x.n → ⊥)
    → with_dropped (with_row nodes x k row) y q ≡ with_row (with_dropped nodes y q) x k row
elsewhere nodes x y k q row off =
    let put = map.insert (rows_of_node nodes x) k row in
    let gone = map.remove (rows_of_node nodes y) q in
    ap (λ rows. with_rows (with_row nodes x k row) y (map.remove rows q))
    (change_keeps_other_nodes nodes x y put off)
    ∙ ap (λ l. record nodes { nodes = l })
    (set_set_other nodes.nodes x.n y.n put gone (λ e. off (sym e)))
    ∙ ap (λ rows. with_rows (with_dropped nodes y q) x (map.insert rows k row))
    (sym (change_keeps_other_nodes nodes y x gone (λ e. off (sym e))))

drop_beside : (nodes : NodesState) (x y : NodeId) (k q : ℕ) (row : List ℕ)
    → x.n < length nodes.nodes → (q ≡ k → ⊥)
    → with_dropped (with_row nodes x k row) y q ≡ with_row (with_dropped nodes y q) x k row
drop_beside nodes x y k q row within off = elim (cases_eq y.n x.n) [
  | inl same ↦
      subst (λ (z : NodeId). with_dropped (with_row nodes x k row) z q
      ≡ with_row (with_dropped nodes z q) x k row) (node_is x y (sym same))
      (here nodes x k q row within off)
  | inr apart ↦ elsewhere nodes x y k q row apart
]

-- ---- the rows of the steps
no_shard : (p : ℕ) → slice_get {X = Option Shard} [] p ≡ Some None → ⊥
no_shard p e = cc

some_none : (s : Shard) → Some (Some s) ≡ Some None → ⊥
some_none s e = cc

pub step_dropped : (nodes : NodesState) (steps : List (Option Shard)) (p : ℕ) (shard : Shard)
    (row : List ℕ) → shard.node.n < length nodes.nodes → AreThere nodes (put_shards steps)
    → has nodes shard.node shard.key ≡ false → slice_get steps p ≡ Some None
    → ((q : ℕ) (s : Shard) → slice_get steps q ≡ Some (Some s) → s.key ≡ shard.key → ⊥)
    → all_dropped (with_row nodes shard.node shard.key row) (put_shards (set steps p (Some shard)))
    ≡ all_dropped nodes (put_shards steps)
step_dropped nodes [] p shard row within there fresh at off = absurd (no_shard p at)
step_dropped nodes (None ∷ rest) zero shard row within there fresh at off =
    ap (λ (n : NodesState). all_dropped n (put_shards rest))
    (put_then_dropped nodes shard.node shard.key row within fresh)
step_dropped nodes (Some s ∷ rest) zero shard row within there fresh at off =
    absurd (some_none s at)
step_dropped nodes (None ∷ rest) (suc p) shard row within there fresh at off =
    step_dropped nodes rest p shard row within there fresh at (λ q. off (suc q))
step_dropped nodes (Some s ∷ rest) (suc p) shard row within there fresh at off =
    let gone = with_dropped nodes s.node s.key in
    let apart : s.key ≡ shard.key → ⊥ = off zero s refl in
    let count = length-set nodes.nodes s.node.n (map.remove (rows_of_node nodes s.node) s.key) in
    ap (λ (n : NodesState). all_dropped n (put_shards (set rest p (Some shard))))
    (drop_beside nodes shard.node s.node shard.key s.key row within apart)
    ∙ step_dropped gone rest p shard row (omega (arith, within, count))
    (λ q t at. let l = there (suc q) t at in omega (arith, l, count))
    (ap is_some (drop_keeps_other_rows nodes s.node shard.node s.key shard.key (there zero s refl)
    (λ both. apart (sym both.1))) ∙ fresh) at (λ q. off (suc q))

-- a step that is done and given up leaves what the pair without it leaves
pub stepped_back : (far : FarState) (pair : JoiningState) (p keys : ℕ) (shard : Shard)
    (row : List ℕ) → shard.node.n < length far.nodes.nodes
    → AreThere far.nodes (put_shards pair.steps)
    → has far.nodes shard.node shard.key ≡ false → slice_get pair.steps p ≡ Some None
    → ((q : ℕ) (s : Shard) → slice_get pair.steps q ≡ Some (Some s) → s.key ≡ shard.key → ⊥)
    → with_keys (with_parted (with_stepped far pair p shard row) (with_step pair p shard)) keys
    ≡ with_keys (with_parted far pair) keys
stepped_back far pair p keys shard row within there fresh at off =
    ap (λ (n : NodesState). with_keys (record far { nodes = n; joining = None }) keys)
    (step_dropped far.nodes pair.steps p shard row within there fresh at off)
