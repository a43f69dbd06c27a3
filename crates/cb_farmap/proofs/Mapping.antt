-- The map of buckets, of which one is changed at a key.
use Rattle.std.proofs.Common.{◌≡◌, ◌⊎◌, ℕ, zero, suc, ◌+◌, ◌%◌, ◌<◌, Bool, true, false, cond, List, [], ◌∷◌, ◌++◌, length, get_or, slice_set, Option, Some, None, is_some, refl, sym, ap, ◌∙◌, subst, inl, inr, arith}
use Rattle.std.proofs.lemmas.List.{get_or-set_same, get_or-set_other, length-set}
use Rattle.std.specs.List.{AllByRecursion, flat_map}
use Rattle.std.specs.Ordering.{nat_cmp, eq_by_cmp}
use Rattle.std.specs.Cmp.{nat_cmp_total}
use Rattle.std.specs.FinMap as map
use Rattle.cb_farmap.specs.Pairs.{Pair, AreAtHome, AreBuckets, BelongTo, NoKeyTwice, map_of_pairs}
use Rattle.cb_farmap.proofs.OneBucket.{Takes}
use Rattle.cb_farmap.proofs.Places.{is_same, not_same, same_or_not, value_at}

abbrev or_else : Option ℕ → Option ℕ → Option ℕ
or_else None y = y
or_else (Some x) y = Some x

or_none : (x : Option ℕ) → or_else x None ≡ x
or_none None = refl
or_none (Some x) = refl

either : (b : Bool) (x : Option ℕ) (v : ℕ) (y : Option ℕ)
    → cond b (Some v) (or_else x y) ≡ or_else (cond b (Some v) x) y
either true x v y = refl
either false x v y = refl

abbrev flat : List (List Pair) → List Pair
flat buckets = flat_map (λ pairs. pairs) buckets

find_both : (q : ℕ) (xs ys : List Pair) → value_at q (xs ++ ys) ≡ or_else (value_at q xs) (value_at q ys)
find_both q [] ys = refl
find_both q (e ∷ xs) ys = ap (cond (eq_by_cmp nat_cmp q e.0) (Some e.1)) (find_both q xs ys)
    ∙ either (eq_by_cmp nat_cmp q e.0) (value_at q xs) e.1 (value_at q ys)

find_none : (q n i : ℕ) (b : List Pair) → BelongTo n i b → (q % n ≡ i → ⊥) → value_at q b ≡ None
find_none q n i [] all ne = refl
find_none q n i (e ∷ b) all ne =
    ap (λ (t : Bool). cond t (Some e.1) (value_at q b))
    (not_same q e.0 (λ same. ne (ap (λ (m : ℕ). m % n) same ∙ all.0)))
    ∙ find_none q n i b all.1 ne

none_behind : (q n i : ℕ) (bs : List (List Pair)) → AreAtHome n i bs → q % n < i → value_at q (flat bs) ≡ None
none_behind q n i [] home less = refl
none_behind q n i (b ∷ bs) home less = find_both q b (flat bs)
    ∙ ap (λ (x : Option ℕ). or_else x (value_at q (flat bs)))
    (find_none q n i b home.0 (λ e. absurd (omega (arith, less, e))))
    ∙ none_behind q n (i + 1) bs home.1 (omega (arith, less))

-- a key is looked for in its own bucket
find_home : (q n i j : ℕ) (bs : List (List Pair)) → AreAtHome n i bs → j < length bs → q % n ≡ i + j
    → value_at q (flat bs) ≡ value_at q (get_or bs j [])
find_home q n i j [] home within is = absurd (omega (arith, within))
find_home q n i zero (b ∷ bs) home within is = find_both q b (flat bs)
    ∙ ap (or_else (value_at q b)) (none_behind q n (i + 1) bs home.1 (omega (arith, is)))
    ∙ or_none (value_at q b)
find_home q n i (suc j) (b ∷ bs) home within is = find_both q b (flat bs)
    ∙ ap (λ (x : Option ℕ). or_else x (value_at q (flat bs)))
    (find_none q n i b home.0 (λ e. absurd (omega (arith, is, e))))
    ∙ find_home q n (i + 1) j bs home.1 (omega (arith, within)) (omega (arith, is))

pub get_is : (bs : List (List Pair)) (q : ℕ) → AreAtHome (length bs) 0 bs → 0 < length bs
    → map.get (map_of_pairs bs) q ≡ value_at q (get_or bs (q % length bs) [])
get_is bs q home some = map.get-from_entries nat_cmp_total (flat bs) q
    ∙ find_home q (length bs) 0 (q % length bs) bs home (omega (arith, some)) (omega arith)

home_set : (n i j : ℕ) (bs : List (List Pair)) (b : List Pair) → AreAtHome n i bs → BelongTo n (i + j) b
    → AreAtHome n i (slice_set bs j b)
home_set n i j [] b home own = tt
home_set n i zero (c ∷ bs) b home own =
    (subst (λ (m : ℕ). BelongTo n m b) (let z : i + 0 ≡ i = omega arith in z) own, home.1)
home_set n i (suc j) (c ∷ bs) b home own = (
  home.0,
  home_set n (i + 1) j bs b home.1
      (subst (λ (m : ℕ). BelongTo n m b) (let z : i + suc j ≡ i + 1 + j = omega arith in z) own),
)

home_at : (n i j : ℕ) (bs : List (List Pair)) → AreAtHome n i bs → j < length bs → BelongTo n (i + j) (get_or bs j [])
home_at n i j [] home within = absurd (omega (arith, within))
home_at n i zero (c ∷ bs) home within =
    subst (λ (m : ℕ). BelongTo n m c) (let z : i ≡ i + 0 = omega arith in z) home.0
home_at n i (suc j) (c ∷ bs) home within =
    subst (λ (m : ℕ). BelongTo n m (get_or bs j [])) (let z : i + 1 + j ≡ i + suc j = omega arith in z)
    (home_at n (i + 1) j bs home.1 (omega (arith, within)))

single_set : (j : ℕ) (bs : List (List Pair)) (b : List Pair) → AllByRecursion NoKeyTwice bs → NoKeyTwice b
    → AllByRecursion NoKeyTwice (slice_set bs j b)
single_set j [] b all own = tt
single_set zero (c ∷ bs) b all own = (own, all.1)
single_set (suc j) (c ∷ bs) b all own = (all.0, single_set j bs b all.1 own)

single_at : (j : ℕ) (bs : List (List Pair)) → AllByRecursion NoKeyTwice bs → j < length bs
    → NoKeyTwice (get_or bs j [])
single_at j [] all within = absurd (omega (arith, within))
single_at zero (c ∷ bs) all within = all.0
single_at (suc j) (c ∷ bs) all within = single_at j bs all.1 (omega (arith, within))

-- the bucket of a key
pub own_home : (bs : List (List Pair)) (k : ℕ) → AreBuckets bs → 0 < length bs
    → BelongTo (length bs) (k % length bs) (get_or bs (k % length bs) [])
own_home bs k are some = subst (λ (m : ℕ). BelongTo (length bs) m (get_or bs (k % length bs) []))
    (let z : 0 + k % length bs ≡ k % length bs = omega arith in z)
    (home_at (length bs) 0 (k % length bs) bs are.home (omega (arith, some)))

pub own_single : (bs : List (List Pair)) (k : ℕ) → AreBuckets bs → 0 < length bs
    → NoKeyTwice (get_or bs (k % length bs) [])
own_single bs k are some = single_at (k % length bs) bs are.single (omega (arith, some))

-- one bucket is changed, so that of all keys one alone is answered otherwise: with a value, or with none
module _ (bs : List (List Pair)) (are : AreBuckets bs) (some : 0 < length bs) (k : ℕ) (value : Option ℕ) (b : List Pair)
    (takes : Takes (length bs) (k % length bs) k value (get_or bs (k % length bs) []) b) where
  abbrev n : ℕ
  n = length bs

  abbrev later : List (List Pair)
  later = slice_set bs (k % n) b

  long : length later ≡ n
  long = length-set bs (k % n) b

  home_later : AreAtHome (length later) 0 later
  home_later = subst (λ (m : ℕ). AreAtHome m 0 later) (sym long) (home_set n 0 (k % n) bs b are.home
      (subst (λ (m : ℕ). BelongTo n m b) (let z : k % n ≡ 0 + k % n = omega arith in z) takes.belong))

  pub buckets_later : AreBuckets later
  buckets_later = record { home = home_later; single = single_set (k % n) bs b are.single takes.single }

  get_later : (q : ℕ) → map.get (map_of_pairs later) q ≡ value_at q (get_or later (q % n) [])
  get_later q = get_is later q home_later (let e = long in omega (arith, some, e))
      ∙ ap (λ (m : ℕ). value_at q (get_or later (q % m) [])) long

  apart : (q : ℕ) → (q % n ≡ k % n → ⊥) → get_or later (q % n) [] ≡ get_or bs (q % n) []
  apart q ne = get_or-set_other bs (k % n) (q % n) b [] ne

  here : (q : ℕ) → q % n ≡ k % n → get_or later (q % n) [] ≡ b
  here q e = ap (λ (m : ℕ). get_or later m []) e ∙ get_or-set_same bs (k % n) b [] (omega (arith, some))

  told : (q : ℕ) → map.get (map_of_pairs later) q ≡ cond (eq_by_cmp nat_cmp q k) value (map.get (map_of_pairs bs) q)
  told q = get_later q ∙ by (same_or_not (q % n) (k % n))
    where
      by : (q % n ≡ k % n) ⊎ (q % n ≡ k % n → ⊥)
          → value_at q (get_or later (q % n) []) ≡ cond (eq_by_cmp nat_cmp q k) value (map.get (map_of_pairs bs) q)
      by (inl e) = ap (value_at q) (here q e) ∙ takes.tells q
          ∙ ap (cond (eq_by_cmp nat_cmp q k) value)
          (ap (λ (m : ℕ). value_at q (get_or bs m [])) (sym e) ∙ sym (get_is bs q are.home some))
      by (inr ne) = ap (value_at q) (apart q ne) ∙ sym (get_is bs q are.home some)
          ∙ ap (λ (t : Bool). cond t value (map.get (map_of_pairs bs) q))
          (sym (not_same q k (λ e. ne (ap (λ (m : ℕ). m % n) e))))

pub map_inserted : (bs : List (List Pair)) → AreBuckets bs → 0 < length bs → (k x : ℕ) (b : List Pair)
    → Takes (length bs) (k % length bs) k (Some x) (get_or bs (k % length bs) []) b
    → map_of_pairs (slice_set bs (k % length bs) b) ≡ map.insert (map_of_pairs bs) k x
map_inserted bs are some k x b takes =
    map.same_map nat_cmp_total map.nat_cmp-IsAntisymmetric
    (map_of_pairs (slice_set bs (k % length bs) b)) (map.insert (map_of_pairs bs) k x)
    (λ q. told bs are some k (Some x) b takes q ∙ sym (map.get-insert nat_cmp_total (map_of_pairs bs) k x q))

pub map_removed : (bs : List (List Pair)) → AreBuckets bs → 0 < length bs → (k : ℕ) (b : List Pair)
    → Takes (length bs) (k % length bs) k None (get_or bs (k % length bs) []) b
    → map_of_pairs (slice_set bs (k % length bs) b) ≡ map.remove (map_of_pairs bs) k
map_removed bs are some k b takes =
    map.same_map nat_cmp_total map.nat_cmp-IsAntisymmetric
    (map_of_pairs (slice_set bs (k % length bs) b)) (map.remove (map_of_pairs bs) k)
    (λ q. told bs are some k None b takes q ∙ sym (map.get-remove nat_cmp_total (map_of_pairs bs) k q))

-- ---- how many there are
abbrev FarPairs : Type 0
FarPairs = map.FinMap nat_cmp ℕ

pub len_old : (m : FarPairs) (k x : ℕ) (old : ℕ) → map.get m k ≡ Some old → map.len (map.insert m k x) ≡ map.len m
len_old m k x old is = map.len-insert nat_cmp_total m k x
    ∙ ap (λ (o : Option ℕ). cond (is_some o) (map.len m) (map.len m + 1)) is

pub len_new : (m : FarPairs) (k x : ℕ) → map.get m k ≡ None → map.len (map.insert m k x) ≡ map.len m + 1
len_new m k x is = map.len-insert nat_cmp_total m k x
    ∙ ap (λ (o : Option ℕ). cond (is_some o) (map.len m) (map.len m + 1)) is

-- a map without a key, without it
pub remove_none : (m : FarPairs) (k : ℕ) → map.get m k ≡ None → map.remove m k ≡ m
remove_none m k is = map.same_map nat_cmp_total map.nat_cmp-IsAntisymmetric (map.remove m k) m
    (λ q. map.get-remove nat_cmp_total m k q ∙ by q (same_or_not q k))
  where
    by : (q : ℕ) → (q ≡ k) ⊎ (q ≡ k → ⊥) → cond (eq_by_cmp nat_cmp q k) None (map.get m q) ≡ map.get m q
    by q (inl e) = ap (λ (t : Bool). cond t None (map.get m q)) (is_same q k e)
        ∙ sym (ap (map.get m) e ∙ is)
    by q (inr ne) = ap (λ (t : Bool). cond t None (map.get m q)) (not_same q k ne)

pub len_less : (m : FarPairs) (k old : ℕ) → map.get m k ≡ Some old → map.len (map.remove m k) + 1 ≡ map.len m
len_less m k old is = sym (len_new (map.remove m k) k old gone) ∙ ap map.len back
  where
    gone : map.get (map.remove m k) k ≡ None
    gone = map.get-remove nat_cmp_total m k k
        ∙ ap (λ (t : Bool). cond t None (map.get m k)) (is_same k k refl)

    by : (q : ℕ) → (q ≡ k) ⊎ (q ≡ k → ⊥)
        → cond (eq_by_cmp nat_cmp q k) (Some old) (map.get (map.remove m k) q) ≡ map.get m q
    by q (inl e) = ap (λ (t : Bool). cond t (Some old) (map.get (map.remove m k) q)) (is_same q k e)
        ∙ sym (ap (map.get m) e ∙ is)
    by q (inr ne) = ap (λ (t : Bool). cond t (Some old) (map.get (map.remove m k) q)) (not_same q k ne)
        ∙ map.get-remove nat_cmp_total m k q
        ∙ ap (λ (t : Bool). cond t None (map.get m q)) (not_same q k ne)

    back : map.insert (map.remove m k) k old ≡ m
    back = map.same_map nat_cmp_total map.nat_cmp-IsAntisymmetric (map.insert (map.remove m k) k old) m
        (λ q. map.get-insert nat_cmp_total (map.remove m k) k old q ∙ by q (same_or_not q k))
