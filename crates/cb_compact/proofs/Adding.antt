-- The deltas that are added to one row, one after another.
use Rattle.std.proofs.Common.{◌≡◌, ℕ, zero, suc, ◌+◌, ◌*◌, ◌<◌, ◌≤◌, true, List, [], Some, is_some, unwrap_or, length, take, get_or, sym, ap, ◌∙◌, subst, arith, length-set}
use Rattle.std.specs.List.{slice_get}
use Rattle.cb_gf256.specs.Row.{row_sum, scaled_row}
use Rattle.cb_gf256.specs.Rows.{row_at}
use Rattle.cb_gf256.proofs.PublicLaws.{row_sum_length, scaled_row_length}
use Rattle.cb_member.specs.declared.names.NodeId.{NodeId}
use Rattle.cb_member.specs.declared.names.Shard.{Shard}
use Rattle.cb_node.specs.NodesState.{NodesState, has, known_row, row_under, with_row}
use Rattle.cb_node.specs.Delta.{with_delta}
use Rattle.cb_node.proofs.Laws.{row_is_put, put_keeps_other_rows, later_row_stays, same_row_changes_nothing}
use Rattle.cb_world.specs.Fetched.{StandsAt}
use Rattle.cb_world.specs.Merged.{patched}
use Rattle.cb_world.proofs.Laws.{patched_more}
use Rattle.cb_compact.specs.Deltas.{CanPatch, NoneNames}

-- a row that is there
pub has_row : (nodes : NodesState) (node : NodeId) (key : ℕ) (row : List ℕ)
    → row_under nodes node key ≡ Some row → has nodes node key ≡ true
has_row nodes node key row at = ap is_some at

pub row_known : (nodes : NodesState) (node : NodeId) (key : ℕ) (row : List ℕ)
    → row_under nodes node key ≡ Some row → known_row nodes node key ≡ row
row_known nodes node key row at = ap (λ o. unwrap_or o []) at

-- the deltas of the first i taken positions are added
abbrev pub AreAdded : NodesState → NodesState → Shard → List ℕ → List Shard → List Shard → List ℕ
    → ℕ
    → Type 0
AreAdded old now to factors a b taken i = (wa wb : List (List ℕ)) (row : List ℕ)
    → CanPatch old to.node to.key a b taken wa wb row
    → now ≡ with_row old to.node to.key (patched factors wa wb row (take i taken))

pub none_added : (old : NodesState) (to : Shard) (factors : List ℕ) (a b : List Shard)
    (taken : List ℕ) → AreAdded old old to factors a b taken 0
none_added old to factors a b taken wa wb row can =
    sym (same_row_changes_nothing old to.node to.key (has_row old to.node to.key row can.target))
    ∙ ap (with_row old to.node to.key) (row_known old to.node to.key row can.target)

delta_length : (c len : ℕ) (row x y : List ℕ) → length row ≡ len → length x ≡ len
    → length y ≡ len → length (row_sum row (scaled_row c (row_sum x y))) ≡ len
delta_length c len row x y l m n =
    let e = row_sum_length x y (m ∙ sym n) in
    row_sum_length row (scaled_row c (row_sum x y)) (l ∙ sym (scaled_row_length c (row_sum x y) ∙
    e ∙ m)) ∙ l

-- what is read at a place of the loop
module _ (old now : NodesState) (to : Shard) (factors : List ℕ) (a b : List Shard) (taken : List
    ℕ)
    (within : to.node.n < length old.nodes) (a_other : NoneNames a to.node to.key)
    (b_other : NoneNames b to.node to.key) (i : ℕ) (below : i < length taken) (x y : Shard)
    (at_a : slice_get a (get_or taken i 0) ≡ Some x) (at_b : slice_get b (get_or taken i 0) ≡
    Some y)
    (so_far : AreAdded old now to factors a b taken i) where
  module _ (wa wb : List (List ℕ)) (row : List ℕ)
      (can : CanPatch old to.node to.key a b taken wa wb row) where
    abbrev p : ℕ
    p = get_or taken i 0

    abbrev added : ℕ → List ℕ
    added n = patched factors wa wb row (take n taken)

    state : now ≡ with_row old to.node to.key (added i)
    state = so_far wa wb row can

    pub count : length now.nodes ≡ length old.nodes
    count = ap (λ (n : NodesState). length n.nodes) state ∙ length-set old.nodes to.node.n _

    a_stands : StandsAt can.pages old a wa p
    a_stands = can.a_rows i below

    b_stands : StandsAt can.pages old b wb p
    b_stands = can.b_rows i below

    shard_same : (c d : Shard) → Some c ≡ Some d → c ≡ d
    shard_same c d e = cc

    a_is : a_stands.shard ≡ x
    a_is = shard_same a_stands.shard x (sym a_stands.at ∙ at_a)

    b_is : b_stands.shard ≡ y
    b_is = shard_same b_stands.shard y (sym b_stands.at ∙ at_b)

    -- the rows of a and b at the position are not the row that is changed
    a_row_old : row_under old x.node x.key ≡ Some (row_at wa p)
    a_row_old = subst (λ (c : Shard). row_under old c.node c.key ≡ Some (row_at wa p)) a_is
        a_stands.row

    b_row_old : row_under old y.node y.key ≡ Some (row_at wb p)
    b_row_old = subst (λ (c : Shard). row_under old c.node c.key ≡ Some (row_at wb p)) b_is
        b_stands.row

    pub a_row : row_under now x.node x.key ≡ Some (row_at wa p)
    a_row = ap (λ (n : NodesState). row_under n x.node x.key) state
        ∙ put_keeps_other_rows old to.node x.node to.key x.key (added i) within (a_other p x at_a)
        ∙ a_row_old

    pub b_row : row_under now y.node y.key ≡ Some (row_at wb p)
    b_row = ap (λ (n : NodesState). row_under n y.node y.key) state
        ∙ put_keeps_other_rows old to.node y.node to.key y.key (added i) within (b_other p y at_b)
        ∙ b_row_old

    pub own_row : row_under now to.node to.key ≡ Some (added i)
    own_row = ap (λ (n : NodesState). row_under n to.node to.key) state
        ∙ row_is_put old to.node to.key (added i) within

    pub a_node : x.node.n < length now.nodes
    a_node = let n = subst (λ (c : Shard). c.node.n < length old.nodes) a_is a_stands.node in
        omega (arith, n, count)

    pub b_node : y.node.n < length now.nodes
    b_node = let n = subst (λ (c : Shard). c.node.n < length old.nodes) b_is b_stands.node in
        omega (arith, n, count)

    wide : (n : ℕ) → n ≤ length taken → length (added n) ≡ 4096 * can.pages
    wide zero l = can.wide
    wide (suc n) l =
        let before : n < length taken = omega (arith, l) in
        let next : suc n ≡ n + 1 = omega arith in
        ap (λ (m : ℕ). length (added m)) next ∙ ap length (patched_more factors wa wb row taken n
        before)
        ∙ delta_length (get_or factors (get_or taken n 0) 0) (4096 * can.pages) (added n)
        (row_at wa (get_or taken n 0)) (row_at wb (get_or taken n 0))
        (wide n (omega (arith, l))) (can.a_rows n before).wide (can.b_rows n before).wide

    pub own_known : known_row now to.node to.key ≡ added i
    own_known = row_known now to.node to.key (added i) own_row

    pub a_known : known_row now x.node x.key ≡ row_at wa p
    a_known = row_known now x.node x.key (row_at wa p) a_row

    pub b_known : known_row now y.node y.key ≡ row_at wb p
    b_known = row_known now y.node y.key (row_at wb p) b_row

    pub a_length : length (known_row now to.node to.key) ≡ length (known_row now x.node x.key)
    a_length = ap length own_known ∙ wide i (omega (arith, below)) ∙ sym a_stands.wide
        ∙ sym (ap length a_known)

    pub b_length : length (known_row now to.node to.key) ≡ length (known_row now y.node y.key)
    b_length = ap length own_known ∙ wide i (omega (arith, below)) ∙ sym b_stands.wide
        ∙ sym (ap length b_known)

    more : (c : ℕ) (new : NodesState) → c ≡ get_or factors p 0
        → new ≡ with_delta now to.node to.key c x y
        → new ≡ with_row old to.node to.key (added (i + 1))
    more c new factor e = e
        ∙ ap (λ (r : List ℕ). with_row now to.node to.key
        (row_sum (known_row now to.node to.key) (scaled_row c r))) (ap (λ (r : List ℕ).
        row_sum r (known_row now y.node y.key)) a_known ∙ ap (row_sum (row_at wa p)) b_known)
        ∙ ap (λ (r : List ℕ). with_row now to.node to.key
        (row_sum r (scaled_row c (row_sum (row_at wa p) (row_at wb p))))) own_known
        ∙ ap (λ (n : NodesState). with_row n to.node to.key
        (row_sum (added i) (scaled_row c (row_sum (row_at wa p) (row_at wb p))))) state
        ∙ later_row_stays old to.node to.key (added i)
        (row_sum (added i) (scaled_row c (row_sum (row_at wa p) (row_at wb p)))) within
        ∙ ap (λ (f : ℕ). with_row old to.node to.key
        (row_sum (added i) (scaled_row f (row_sum (row_at wa p) (row_at wb p))))) factor
        ∙ ap (with_row old to.node to.key) (sym (patched_more factors wa wb row taken i below))

  -- one delta more
  pub added_more : (c : ℕ) (new : NodesState) → c ≡ get_or factors (get_or taken i 0) 0
      → new ≡ with_delta now to.node to.key c x y → AreAdded old new to factors a b taken (i + 1)
  added_more c new factor e wa wb row can = more wa wb row can c new factor e
