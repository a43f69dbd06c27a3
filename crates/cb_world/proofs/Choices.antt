-- The walk over the nodes that finds the one for a row.
use Rattle.std.proofs.Common.{◌≡◌, ◌≢◌, ◌||◌, ℕ, zero, suc, ◌+◌, ◌<◌, ◌≤◌, Bool, true, false, cond, nat_eq, ◌&&◌, not, List, [], ◌∷◌, ◌++◌, length, Option, None, Some, IfNone, sym, refl, ap, ◌∙◌, subst, arith, inl, inr}
use native.Mathlib.Numerals.{unary_clauses}
use Rattle.std.specs.List.{range_with_len, count_by}
use Rattle.std.proofs.lemmas.Bool.{cases_eq, cases_order, eqb-true, eq-eqb, false≢true}
use Rattle.std.proofs.lemmas.List.Sums.{sum_by-cons, sum_by-append}
use Rattle.cb_member.specs.declared.names.NodeId.{NodeId}
use Rattle.cb_member.specs.declared.names.Shard.{Shard}
use Rattle.cb_member.specs.Membership.{Membership}
use Rattle.cb_node.specs.NodesState.{NodesState, held}
use Rattle.cb_world.specs.Choices.{has_room, numbered, room_count, stands_on, HoldsFewer, MayPut, IsBefore}

-- one number more
pub range_more : (a n : ℕ) → range_with_len a (n + 1) ≡ range_with_len a n ++ (a + n) ∷ []
range_more a zero = ap (λ (k : ℕ). k ∷ []) (let e : a ≡ a + 0 = omega arith in e)
range_more a (suc n) =
    (let e : range_with_len a (suc n + 1) ≡ a ∷ range_with_len (a + 1) (n + 1) = simp unary_clauses refl in e)
    ∙ ap (λ (xs : List ℕ). a ∷ xs) (range_more (a + 1) n)
    ∙ ap (λ (k : ℕ). a ∷ (range_with_len (a + 1) n ++ k ∷ []))
    (let e : a + 1 + n ≡ a + suc n = omega arith in e)

-- the best of the nodes below n, where there is one
abbrev pub IsBest : NodesState → Membership → List Shard → ℕ → Option NodeId → Type 0
IsBest nodes m shards n None = (other : NodeId) → other.n < n → MayPut nodes m shards other → ⊥
IsBest nodes m shards n (Some node) = (node.n < n) × MayPut nodes m shards node
    × ((other : NodeId) → other.n < n → MayPut nodes m shards other → IsBefore nodes node other)

-- the node of a number is one
same_node : (node : NodeId) (n : ℕ) → node.n ≡ n → node ≡ numbered n
same_node node n e = ap numbered e

-- a node that is not better leaves the best
pub best_stays : (nodes : NodesState) (m : Membership) (shards : List Shard) (n : ℕ)
    (best : Option NodeId) → IsBest nodes m shards n best
    → (MayPut nodes m shards (numbered n) → HoldsFewer nodes (numbered n) best → ⊥)
    → IsBest nodes m shards (n + 1) best
best_stays nodes m shards n None a b = λ other below may. elim (cases_eq other.n n) [
  | inl e ↦ b (subst (MayPut nodes m shards) (same_node other n e) may) tt
  | inr off ↦ a other (omega (arith, below, off)) may
]
best_stays nodes m shards n (Some node) a b = (
  omega (arith, a.0),
  a.1,
  λ other below may.
      elim (cases_eq other.n n) [
        | inl e ↦ subst (IsBefore nodes node) (sym (same_node other n e))
            (before (λ less. b (subst (MayPut nodes m shards) (same_node other n e) may) less))
        | inr off ↦ a.2 other (omega (arith, below, off)) may
      ],
)
  where
    before : (held nodes (numbered n) < held nodes node → ⊥) → IsBefore nodes node (numbered n)
    before f = elim (cases_order (held nodes node) (held nodes (numbered n))) [
      | inl same ↦ inr (same, omega (arith, a.0))
      | inr differ ↦ elim differ [
        | inl less ↦ inl less
        | inr more ↦ absurd (f more)
      ]
    ]

-- a node that is better is the best
pub best_found : (nodes : NodesState) (m : Membership) (shards : List Shard) (n : ℕ)
    (best : Option NodeId) → IsBest nodes m shards n best → MayPut nodes m shards (numbered n)
    → HoldsFewer nodes (numbered n) best
    → IsBest nodes m shards (n + 1) (Some (numbered n))
best_found nodes m shards n None a may b = (
  omega arith,
  may,
  λ other below also.
      elim (cases_eq other.n n) [
        | inl e ↦ inr (ap (λ (k : NodeId). held nodes k) (sym (same_node other n e)), omega (arith, e))
        | inr off ↦ absurd (a other (omega (arith, below, off)) also)
      ],
)
best_found nodes m shards n (Some node) a may b = (
  omega arith,
  may,
  λ other below also.
      elim (cases_eq other.n n) [
        | inl e ↦ inr (ap (λ (k : NodeId). held nodes k) (sym (same_node other n e)), omega (arith, e))
        | inr off ↦ less other b (a.2 other (omega (arith, below, off)) also)
      ],
)
  where
    less : (other : NodeId) → held nodes (numbered n) < held nodes node
        → IsBefore nodes node other → IsBefore nodes (numbered n) other
    less other l (inl e) = inl (omega (arith, l, e))
    less other l (inr e) = inl (omega (arith, l, e.0))

-- ---- how many nodes have room where no more can be taken
abbrev pub number : Bool → ℕ
number b = cond b 1 0

count_cons : (p : ℕ → Bool) (x : ℕ) (xs : List ℕ)
    → count_by p (x ∷ xs) ≡ cond (p x) 1 0 + count_by p xs
count_cons p x xs = sum_by-cons (λ n. cond (p n) 1 0) x xs

-- a test that is true of a, or of what another test passes
abbrev without : (p : ℕ → Bool) (a : ℕ) → ℕ → Bool
without p a n = p n && not (nat_eq n a)

absent : (p : ℕ → Bool) (a b k : ℕ) → a < b
    → count_by p (range_with_len b k) ≤ count_by (without p a) (range_with_len b k)
absent p a b zero l = omega arith
absent p a b (suc k) l =
    let rest = absent p a (b + 1) k (omega (arith, l)) in
    let same : p b ≡ without p a b = here (p b) (nat_eq b a) (off (nat_eq b a) refl) in
    let e = ap number same in
    let c = count_cons p b (range_with_len (b + 1) k) in
    let d = count_cons (without p a) b (range_with_len (b + 1) k) in omega (arith, rest, e, c, d)
  where
    here : (x y : Bool) → y ≡ false → x ≡ x && not y
    here true true e = absurd (false≢true (sym e))
    here true false e = refl
    here false y e = refl

    off : (t : Bool) → nat_eq b a ≡ t → t ≡ false
    off false e = refl
    off true e = absurd (let same = eqb-true b a e in omega (arith, l, same))

-- but for one number, as many pass
but_one : (p : ℕ → Bool) (a b k : ℕ)
    → count_by p (range_with_len b k) ≤ 1 + count_by (without p a) (range_with_len b k)
but_one p a b zero = omega arith
but_one p a b (suc k) = elim (cases_eq b a) [
  | inl e ↦ let rest = absent p a (b + 1) k (omega (arith, e)) in
      let one = most (p b) in
      let c = count_cons p b (range_with_len (b + 1) k) in
      let d = count_cons (without p a) b (range_with_len (b + 1) k) in
      omega (arith, rest, one, c, d)
  | inr off ↦ let rest = but_one p a (b + 1) k in
      let same : p b ≡ without p a b = here (p b) (nat_eq b a) (differ (nat_eq b a) refl off) in
      let e = ap number same in
      let c = count_cons p b (range_with_len (b + 1) k) in
      let d = count_cons (without p a) b (range_with_len (b + 1) k) in omega (arith, rest, e, c, d)
]
  where
    most : (x : Bool) → number x ≤ 1
    most true = omega arith
    most false = omega arith

    here : (x y : Bool) → y ≡ false → x ≡ x && not y
    here true true e = absurd (false≢true (sym e))
    here true false e = refl
    here false y e = refl

    differ : (t : Bool) → nat_eq b a ≡ t → b ≢ a → t ≡ false
    differ false e off = refl
    differ true e off = absurd (off (eqb-true b a e))

none_pass : (p : ℕ → Bool) (b k : ℕ) → ((n : ℕ) → n < b + k → p n ≡ true → ⊥)
    → count_by p (range_with_len b k) ≡ 0
none_pass p b zero f = refl
none_pass p b (suc k) f =
    let rest = none_pass p (b + 1) k (λ n l. f n (omega (arith, l))) in
    let e = here (p b) refl in
    let c = count_cons p b (range_with_len (b + 1) k) in omega (arith, rest, e, c)
  where
    here : (t : Bool) → p b ≡ t → number (p b) ≡ 0
    here false e = ap number e
    here true e = absurd (f b (omega arith) e)

-- where a shard stands on each number that passes, no more pass than there are shards
pub few_pass : (shards : List Shard) (p : ℕ → Bool) (k : ℕ)
    → ((n : ℕ) → n < k → p n ≡ true → stands_on shards (numbered n) ≡ true)
    → count_by p (range_with_len 0 k) ≤ length shards
few_pass [] p k f =
    let e = none_pass p 0 k (λ n l t. false≢true (f n (omega (arith, l)) t)) in omega (arith, e)
few_pass (shard ∷ shards) p k f =
    let one = but_one p shard.node.n 0 k in
    let rest = few_pass shards (without p shard.node.n) k (λ n l t.
    later n (p n) (nat_eq n shard.node.n) (nat_eq shard.node.n n) refl (flip n) t (f n l)) in
    omega (arith, one, rest)
  where
    flip : (n : ℕ) → nat_eq shard.node.n n ≡ nat_eq n shard.node.n
    flip n = elim (cases_eq n shard.node.n) [
      | inl e ↦ eq-eqb shard.node.n n (sym e) ∙ sym (eq-eqb n shard.node.n e)
      | inr off ↦ not_same (nat_eq shard.node.n n) refl off
          ∙ sym (not_same' (nat_eq n shard.node.n) refl off)
    ]
      where
        not_same : (t : Bool) → nat_eq shard.node.n n ≡ t → n ≢ shard.node.n
            → nat_eq shard.node.n n ≡ false
        not_same false e off = e
        not_same true e off = absurd (off (sym (eqb-true shard.node.n n e)))

        not_same' : (t : Bool) → nat_eq n shard.node.n ≡ t → n ≢ shard.node.n
            → nat_eq n shard.node.n ≡ false
        not_same' false e off = e
        not_same' true e off = absurd (off (eqb-true n shard.node.n e))

    later : (n : ℕ) (x y z : Bool) → p n ≡ x → z ≡ y → x && not y ≡ true
        → (p n ≡ true → z || stands_on shards (numbered n) ≡ true)
        → stands_on shards (numbered n) ≡ true
    later n true true z e same t g = absurd (false≢true t)
    later n true false true e same t g = absurd (false≢true (sym same))
    later n true false false e same t g = g e
    later n false y z e same t g = absurd (false≢true t)

-- where no node is left, no more nodes have room than there are shards
pub room_left : (nodes : NodesState) (m : Membership) (shards : List Shard)
    → ((node : NodeId) → MayPut nodes m shards node → ⊥) → room_count nodes m ≤ length shards
room_left nodes m shards none =
    few_pass shards (λ n. has_room nodes m (numbered n)) (length nodes.nodes) (λ n l room.
    taken n l room (stands_on shards (numbered n)) refl)
  where
    taken : (n : ℕ) → n < length nodes.nodes → has_room nodes m (numbered n) ≡ true → (t : Bool)
        → stands_on shards (numbered n) ≡ t → stands_on shards (numbered n) ≡ true
    taken n l room true e = e
    taken n l room false e = absurd (none (numbered n) (record { within = l; room = room; spare = e }))

pub none_is_left : (nodes : NodesState) (m : Membership) (shards : List Shard)
    → IsBest nodes m shards (length nodes.nodes) None
    → (node : NodeId) → MayPut nodes m shards node → ⊥
none_is_left nodes m shards a node may = a node may.within may

-- where the walk found no node, no more nodes have room than there are shards
pub enough : (nodes : NodesState) (m : Membership) (shards : List Shard) (best : Option NodeId)
    (n : ℕ) → n ≡ length nodes.nodes → IsBest nodes m shards n best
    → IfNone best (room_count nodes m ≤ length shards)
enough nodes m shards None n e a = room_left nodes m shards
    (none_is_left nodes m shards (subst (λ (k : ℕ). IsBest nodes m shards k None) e a))
enough nodes m shards (Some node) n e a = tt

-- one number more is counted, or not
pub count_more : (p : ℕ → Bool) (a n : ℕ) → count_by p (range_with_len a (n + 1))
    ≡ count_by p (range_with_len a n) + cond (p (a + n)) 1 0
count_more p a n = let e = sum_by-append (λ k. cond (p k) 1 0) (range_with_len a n) ((a + n) ∷ []) in
    let one = sum_by-cons (λ k. cond (p k) 1 0) (a + n) [] in
    ap (λ (xs : List ℕ). count_by p xs) (range_more a n) ∙ omega (arith, e, one)

-- so many of the nodes below n have room
pub record HaveRoomBelow (nodes : NodesState) (m : Membership) (n count : ℕ) : Type 0 where
  pub few : count ≤ n
  pub counted : count ≡ count_by (λ k. has_room nodes m (numbered k)) (range_with_len 0 n)

pub node_counted : (nodes : NodesState) (m : Membership) (n count next : ℕ) (room : Bool)
    → HaveRoomBelow nodes m n count → room ≡ has_room nodes m (numbered n)
    → next ≡ count + cond room 1 0 → HaveRoomBelow nodes m (n + 1) next
node_counted nodes m n count next room a e step =
    let more = count_more (λ k. has_room nodes m (numbered k)) 0 n in
    let same = ap number e in
    let none : 0 + n ≡ n = omega arith in
    let here = ap (λ (k : ℕ). number (has_room nodes m (numbered k))) none in
    let most = at_most room in
    record { few = omega (arith, a.few, step, most); counted = omega (arith, a.counted, step, more, same, here) }
  where
    at_most : (x : Bool) → number x ≤ 1
    at_most true = omega arith
    at_most false = omega arith
