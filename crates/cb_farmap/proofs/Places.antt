-- Where a key stands among pairs.
use Rattle.std.proofs.lemmas.Bool.Decides.{nat_tests}
use Rattle.std.proofs.Common.{◌≡◌, ◌⊎◌, ℕ, zero, suc, ◌+◌, ◌<◌, Bool, true, false, cond, eqb, eqb-true, eq-eqb, true≢false, List, [], ◌∷◌, length, Option, Some, None, refl, sym, ap, subst, ◌∙◌, inl, inr, arith}
use Rattle.std.proofs.lemmas.Option.{same_Some, none-some}
use Rattle.std.specs.FinMap as map
use Rattle.std.specs.List.{position_from}
use Rattle.std.specs.Ordering.{nat_cmp, eq_by_cmp, is_eq}
use Rattle.std.specs.declared.cmp.Ordering.{Ordering}
use Rattle.std.specs.declared.cmp.Ordering.TheVariants as order
use Rattle.cb_farmap.specs.Pairs.{Pair, HasNot, IsFirst, NoKeyTwice, pair_of, place_of}

-- the value at a key
abbrev pub value_at : ℕ → List Pair → Option ℕ
value_at key pairs = map.find nat_cmp key pairs

-- ---- keys that are the same, and that are not
pub is_same : (q k : ℕ) → q ≡ k → eq_by_cmp nat_cmp q k ≡ true
is_same q k e = ap (eq_by_cmp nat_cmp q) (sym e) ∙ itself q
  where
    itself : (n : ℕ) → eq_by_cmp nat_cmp n n ≡ true
    itself n = grind (arith, nat_tests)

pub not_same : (q k : ℕ) → (q ≡ k → ⊥) → eq_by_cmp nat_cmp q k ≡ false
not_same q k ne = by (nat_cmp q k) refl
  where
    by : (o : Ordering) → nat_cmp q k ≡ o → eq_by_cmp nat_cmp q k ≡ false
    by order.Less e = ap is_eq e
    by order.Greater e = ap is_eq e
    by order.Equal e = absurd (ne (map.nat_cmp-IsAntisymmetric q k e))

pub same_or_not : (q k : ℕ) → (q ≡ k) ⊎ (q ≡ k → ⊥)
same_or_not q k = by (eqb q k) refl
  where
    by : (t : Bool) → eqb q k ≡ t → (q ≡ k) ⊎ (q ≡ k → ⊥)
    by true is = inl (eqb-true q k is)
    by false is = inr (λ e. true≢false (sym (eq-eqb q k e) ∙ is))

-- ---- the place of a key
pub absent_from : (key : ℕ) (pairs : List Pair) (n : ℕ) → HasNot key pairs
    → position_from (λ (p : Pair). eqb p.0 key) n pairs ≡ None
absent_from key [] n none = refl
absent_from key (p ∷ pairs) n none = by (eqb p.0 key) refl
    (absent_from key pairs (n + 1) (λ i less is. none (suc i) (omega (arith, less)) is))
  where
    by : (t : Bool) → eqb p.0 key ≡ t → position_from (λ (p : Pair). eqb p.0 key) (n + 1) pairs ≡ None
        → cond t (Some n) (position_from (λ (p : Pair). eqb p.0 key) (n + 1) pairs) ≡ None
    by true is rest = absurd (none 0 (omega arith) (eqb-true p.0 key is))
    by false is rest = rest

pub present_from : (key : ℕ) (pairs : List Pair) (n i : ℕ) → IsFirst key pairs i
    → position_from (λ (p : Pair). eqb p.0 key) n pairs ≡ Some (n + i)
present_from key [] n i (less, is, before) = absurd (omega (arith, less))
present_from key (p ∷ pairs) n zero (less, is, before) =
    ap (λ (t : Bool). cond t (Some n) (position_from (λ (p : Pair). eqb p.0 key) (n + 1) pairs)) (eq-eqb p.0 key is)
    ∙ ap Some (let z : n ≡ n + 0 = omega arith in z)
present_from key (p ∷ pairs) n (suc i) (less, is, before) =
    by (eqb p.0 key) refl (present_from key pairs (n + 1) i
    (omega (arith, less), is, λ j low. before (suc j) (omega (arith, low))))
  where
    by : (t : Bool) → eqb p.0 key ≡ t
        → position_from (λ (p : Pair). eqb p.0 key) (n + 1) pairs ≡ Some (n + 1 + i)
        → cond t (Some n) (position_from (λ (p : Pair). eqb p.0 key) (n + 1) pairs) ≡ Some (n + suc i)
    by true same rest = absurd (before 0 (omega arith) (eqb-true p.0 key same))
    by false same rest = rest ∙ ap Some (let z : n + 1 + i ≡ n + suc i = omega arith in z)

pub absent : (key : ℕ) (pairs : List Pair) → HasNot key pairs → place_of key pairs ≡ None
absent key pairs none = absent_from key pairs 0 none

pub present : (key : ℕ) (pairs : List Pair) (i : ℕ) → IsFirst key pairs i → place_of key pairs ≡ Some i
present key pairs i first = present_from key pairs 0 i first ∙ ap Some (let z : 0 + i ≡ i = omega arith in z)

-- a key is first somewhere, or nowhere
pub sought : (key : ℕ) (pairs : List Pair) → ((i : ℕ) × IsFirst key pairs i) ⊎ HasNot key pairs
sought key [] = inr (λ i less is. absurd (omega (arith, less)))
sought key (p ∷ pairs) = by (same_or_not p.0 key) (sought key pairs)
  where
    by : (p.0 ≡ key) ⊎ (p.0 ≡ key → ⊥) → ((i : ℕ) × IsFirst key pairs i) ⊎ HasNot key pairs
        → ((i : ℕ) × IsFirst key (p ∷ pairs) i) ⊎ HasNot key (p ∷ pairs)
    by (inl same) rest = inl (0, (omega arith, same, λ j low is. absurd (omega (arith, low))))
    by (inr off) (inl (i, (less, is, before))) = inl (suc i, (omega (arith, less), is, earlier))
      where
        earlier : (j : ℕ) → j < suc i → (pair_of (p ∷ pairs) j).0 ≡ key → ⊥
        earlier zero low same = off same
        earlier (suc j) low same = before j (omega (arith, low)) same
    by (inr off) (inr none) = inr all
      where
        all : (i : ℕ) → i < length (p ∷ pairs) → (pair_of (p ∷ pairs) i).0 ≡ key → ⊥
        all zero less same = off same
        all (suc i) less same = none i (omega (arith, less)) same

-- and so by its place
pub first_at : (key : ℕ) (pairs : List Pair) (i : ℕ) → place_of key pairs ≡ Some i → IsFirst key pairs i
first_at key pairs i is = by (sought key pairs)
  where
    by : ((j : ℕ) × IsFirst key pairs j) ⊎ HasNot key pairs → IsFirst key pairs i
    by (inl (j, first)) = subst (IsFirst key pairs) (same_Some j i (sym (present key pairs j first) ∙ is)) first
    by (inr none) = absurd (none-some i (sym (absent key pairs none) ∙ is))

pub none_there : (key : ℕ) (pairs : List Pair) → place_of key pairs ≡ None → HasNot key pairs
none_there key pairs is = by (sought key pairs)
  where
    by : ((j : ℕ) × IsFirst key pairs j) ⊎ HasNot key pairs → HasNot key pairs
    by (inl (j, first)) = absurd (none-some j (sym is ∙ present key pairs j first))
    by (inr none) = none

-- ---- the value there
pub value_there : (q : ℕ) (pairs : List Pair) (i : ℕ) → NoKeyTwice pairs → i < length pairs
    → (pair_of pairs i).0 ≡ q → value_at q pairs ≡ Some (pair_of pairs i).1
value_there q [] i one less is = absurd (omega (arith, less))
value_there q (p ∷ pairs) zero one less is =
    ap (λ (t : Bool). cond t (Some p.1) (value_at q pairs)) (is_same q p.0 (sym is))
value_there q (p ∷ pairs) (suc i) one less is =
    ap (λ (t : Bool). cond t (Some p.1) (value_at q pairs))
    (not_same q p.0 (λ same. let z = one 0 (suc i) (omega arith) less (sym same ∙ sym is) in omega (arith, z)))
    ∙ value_there q pairs i (behind p pairs one) (omega (arith, less)) is
  where
    behind : (p : Pair) (pairs : List Pair) → NoKeyTwice (p ∷ pairs) → NoKeyTwice pairs
    behind p pairs one i j a b same =
        let z = one (suc i) (suc j) (omega (arith, a)) (omega (arith, b)) same in omega (arith, z)

pub no_value : (q : ℕ) (pairs : List Pair) → HasNot q pairs → value_at q pairs ≡ None
no_value q [] none = refl
no_value q (p ∷ pairs) none = ap (λ (t : Bool). cond t (Some p.1) (value_at q pairs))
    (not_same q p.0 (λ same. none 0 (omega arith) (sym same)))
    ∙ no_value q pairs (λ i less. none (suc i) (omega (arith, less)))
