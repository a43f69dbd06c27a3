-- A bucket of which one pair is written, put behind the others, or dropped.
use Rattle.std.proofs.Common.{◌≡◌, ◌≢◌, ◌⊎◌, ℕ, zero, suc, ◌+◌, ◌-◌, ◌%◌, ◌<◌, ◌≤◌, Bool, cond, List, [], ◌∷◌, ◌++◌, length, slice_set, take, Option, Some, None, refl, sym, ap, ◌∙◌, inl, inr, arith}
use Rattle.std.proofs.lemmas.Bool.{cases_lt}
use Rattle.std.proofs.lemmas.List.{get_or-set_same, get_or-set_other, get_or-take, get_or_append_left, get_or-append_right, length-set, length-take-le, length_push}
use Rattle.std.specs.List.{AllByRecursion}
use Rattle.std.specs.Ordering.{nat_cmp, eq_by_cmp}
use Rattle.cb_farmap.specs.Pairs.{Pair, BelongTo, HasNot, IsFirst, NoKeyTwice, dropped, pair_of, place_of}
use Rattle.cb_farmap.proofs.Places.{first_at, is_same, no_value, none_there, not_same, same_or_not, sought, value_at, value_there}

-- a value at a key, or none, and all else as it was
abbrev pub TellsAt : ℕ → Option ℕ → List Pair → List Pair → Type 0
TellsAt key value pairs later = (q : ℕ)
    → value_at q later ≡ cond (eq_by_cmp nat_cmp q key) value (value_at q pairs)

-- one bucket in the place of another: its keys belong there, none stands twice
pub record Takes (many at : ℕ) (key : ℕ) (value : Option ℕ) (pairs later : List Pair) : Type 0 where
  pub belong : BelongTo many at later
  pub single : NoKeyTwice later
  pub tells : TellsAt key value pairs later

-- the key itself, and the others
pub tells_by : (key : ℕ) (value : Option ℕ) (pairs later : List Pair) → value_at key later ≡ value
    → ((q : ℕ) → (q ≡ key → ⊥) → value_at q later ≡ value_at q pairs) → TellsAt key value pairs later
tells_by key value pairs later here others q = by (same_or_not q key)
  where
    by : (q ≡ key) ⊎ (q ≡ key → ⊥) → value_at q later ≡ cond (eq_by_cmp nat_cmp q key) value (value_at q pairs)
    by (inl same) = ap (λ (k : ℕ). value_at k later) same ∙ here
        ∙ ap (λ (t : Bool). cond t value (value_at q pairs)) (sym (is_same q key same))
    by (inr off) = others q off ∙ ap (λ (t : Bool). cond t value (value_at q pairs)) (sym (not_same q key off))

-- where each key that stands in one list stands in the other with the same value, and back
same_values : (q : ℕ) (pairs later : List Pair) → NoKeyTwice pairs → NoKeyTwice later
    → ((i : ℕ) → i < length pairs → (pair_of pairs i).0 ≡ q
    → (j : ℕ) × (j < length later) × (pair_of later j ≡ pair_of pairs i))
    → ((i : ℕ) → i < length later → (pair_of later i).0 ≡ q
    → (j : ℕ) × (j < length pairs) × (pair_of pairs j ≡ pair_of later i))
    → value_at q later ≡ value_at q pairs
same_values q pairs later one two there back = by (sought q pairs)
  where
    by : ((i : ℕ) × IsFirst q pairs i) ⊎ HasNot q pairs → value_at q later ≡ value_at q pairs
    by (inl (i, (less, is, before))) = let z = there i less is in
        value_there q later z.0 two z.1 (ap (λ (p : Pair). p.0) z.2 ∙ is)
        ∙ ap (λ (p : Pair). Some p.1) z.2 ∙ sym (value_there q pairs i one less is)
    by (inr none) = no_value q later (λ i less is. let z = back i less is in
        none z.0 z.1 (ap (λ (p : Pair). p.0) z.2 ∙ is)) ∙ sym (no_value q pairs none)

all_at : (P : Pair → Type 0) (pairs : List Pair) (i : ℕ) → AllByRecursion P pairs → i < length pairs
    → P (pair_of pairs i)
all_at P [] i all less = absurd (omega (arith, less))
all_at P (p ∷ pairs) zero all less = all.0
all_at P (p ∷ pairs) (suc i) all less = all_at P pairs i all.1 (omega (arith, less))

all_set : (P : Pair → Type 0) (pairs : List Pair) (i : ℕ) (x : Pair) → AllByRecursion P pairs → P x
    → AllByRecursion P (slice_set pairs i x)
all_set P [] i x all own = tt
all_set P (p ∷ pairs) zero x all own = (own, all.1)
all_set P (p ∷ pairs) (suc i) x all own = (all.0, all_set P pairs i x all.1 own)

all_push : (P : Pair → Type 0) (pairs : List Pair) (x : Pair) → AllByRecursion P pairs → P x
    → AllByRecursion P (pairs ++ x ∷ [])
all_push P [] x all own = (own, tt)
all_push P (p ∷ pairs) x all own = (all.0, all_push P pairs x all.1 own)

all_take : (P : Pair → Type 0) (n : ℕ) (pairs : List Pair) → AllByRecursion P pairs
    → AllByRecursion P (take n pairs)
all_take P zero pairs all = tt
all_take P (suc n) [] all = tt
all_take P (suc n) (p ∷ pairs) all = (all.0, all_take P n pairs all.1)

-- ---- a pair that is written at the place of its key
module _ (many at : ℕ) (pairs : List Pair) (i key x : ℕ) (home : BelongTo many at pairs) (one : NoKeyTwice pairs)
    (is : place_of key pairs ≡ Some i) where
  less : i < length pairs
  less = (first_at key pairs i is).0

  key_is : (pair_of pairs i).0 ≡ key
  key_is = (first_at key pairs i is).1

  abbrev later : List Pair
  later = slice_set pairs i (key, x)

  long : length later ≡ length pairs
  long = length-set pairs i (key, x)

  here : pair_of later i ≡ (key, x)
  here = get_or-set_same pairs i (key, x) (0, 0) less

  off : (j : ℕ) → (j ≡ i → ⊥) → pair_of later j ≡ pair_of pairs j
  off j ne = get_or-set_other pairs i j (key, x) (0, 0) ne

  same_key : (j : ℕ) → (pair_of later j).0 ≡ (pair_of pairs j).0
  same_key j = by (same_or_not j i)
    where
      by : (j ≡ i) ⊎ (j ≡ i → ⊥) → (pair_of later j).0 ≡ (pair_of pairs j).0
      by (inl same) = ap (λ (n : ℕ). (pair_of later n).0) same ∙ ap (λ (p : Pair). p.0) here ∙ sym key_is
          ∙ ap (λ (n : ℕ). (pair_of pairs n).0) (sym same)
      by (inr ne) = ap (λ (p : Pair). p.0) (off j ne)

  single : NoKeyTwice later
  single j k a b same = one j k (let e = long in omega (arith, a, e)) (let e = long in omega (arith, b, e))
      (sym (same_key j) ∙ same ∙ same_key k)

  pub writes_pair : Takes many at key (Some x) pairs later
  writes_pair = record {
    belong = all_set (λ (p : Pair). p.0 % many ≡ at) pairs i (key, x) home
        (ap (λ (n : ℕ). n % many) (sym key_is) ∙ all_at (λ (p : Pair). p.0 % many ≡ at) pairs i home less);
    single = single;
    tells = tells_by key (Some x) pairs later
        (value_there key later i single (let e = long in let l = less in omega (arith, l, e))
        (ap (λ (p : Pair). p.0) here) ∙ ap (λ (p : Pair). Some p.1) here)
        (λ q ne. same_values q pairs later one single
        (λ j low same. (
          j,
          (let e = long in omega (arith, low, e)),
          off j (λ e. ne (sym same ∙ ap (λ (n : ℕ). (pair_of pairs n).0) e ∙ key_is)),
        ))
        (λ j low same. (
          j,
          (let e = long in omega (arith, low, e)),
          sym (off j (λ e. ne (sym same ∙ same_key j ∙ ap (λ (n : ℕ). (pair_of pairs n).0) e ∙ key_is))),
        )));
  }

-- ---- a pair with a new key, behind the others
module _ (many at : ℕ) (pairs : List Pair) (key x : ℕ) (home : BelongTo many at pairs) (one : NoKeyTwice pairs)
    (is : place_of key pairs ≡ None) (belongs : key % many ≡ at) where
  none : HasNot key pairs
  none = none_there key pairs is

  abbrev more : List Pair
  more = pairs ++ (key, x) ∷ []

  longer : length more ≡ length pairs + 1
  longer = length_push pairs (key, x)

  before : (j : ℕ) → j < length pairs → pair_of more j ≡ pair_of pairs j
  before j low = get_or_append_left pairs ((key, x) ∷ []) (0, 0) j low

  last_is : pair_of more (length pairs) ≡ (key, x)
  last_is = get_or-append_right pairs ((key, x) ∷ []) (length pairs) (length pairs) (0, 0) refl (omega arith)
      ∙ (let z : length pairs - length pairs ≡ 0 = omega arith in ap (λ (n : ℕ). pair_of ((key, x) ∷ []) n) z)

  either : (j : ℕ) → j < length more → (j < length pairs) ⊎ (j ≡ length pairs)
  either j low = by (cases_lt j (length pairs))
    where
      by : (j < length pairs) ⊎ (length pairs ≤ j) → (j < length pairs) ⊎ (j ≡ length pairs)
      by (inl a) = inl a
      by (inr b) = inr (let e = longer in omega (arith, low, b, e))

  at_last : (j : ℕ) → j ≡ length pairs → (pair_of more j).0 ≡ key
  at_last j e = ap (λ (n : ℕ). (pair_of more n).0) e ∙ ap (λ (p : Pair). p.0) last_is

  single_more : NoKeyTwice more
  single_more j k a b same = by (either j a) (either k b)
    where
      by : (j < length pairs) ⊎ (j ≡ length pairs) → (k < length pairs) ⊎ (k ≡ length pairs) → j ≡ k
      by (inl c) (inl d) = one j k c d
          (ap (λ (p : Pair). p.0) (sym (before j c)) ∙ same ∙ ap (λ (p : Pair). p.0) (before k d))
      by (inl c) (inr d) = absurd (none j c (ap (λ (p : Pair). p.0) (sym (before j c)) ∙ same ∙ at_last k d))
      by (inr c) (inl d) = absurd (none k d (ap (λ (p : Pair). p.0) (sym (before k d)) ∙ sym same ∙ at_last j c))
      by (inr c) (inr d) = c ∙ sym d

  pub adds_pair : Takes many at key (Some x) pairs more
  adds_pair = record {
    belong = all_push (λ (p : Pair). p.0 % many ≡ at) pairs (key, x) home belongs;
    single = single_more;
    tells = tells_by key (Some x) pairs more
        (value_there key more (length pairs) single_more (let e = longer in omega (arith, e))
        (at_last (length pairs) refl) ∙ ap (λ (p : Pair). Some p.1) last_is)
        (λ q ne. same_values q pairs more one single_more
        (λ j low same. (j, (let e = longer in omega (arith, low, e)), before j low))
        (λ j low same. old q ne j low same (either j low)));
  }
    where
      old : (q : ℕ) → (q ≡ key → ⊥) → (j : ℕ) → j < length more → (pair_of more j).0 ≡ q
          → (j < length pairs) ⊎ (j ≡ length pairs)
          → (k : ℕ) × (k < length pairs) × (pair_of pairs k ≡ pair_of more j)
      old q ne j low same (inl a) = (j, a, sym (before j a))
      old q ne j low same (inr e) = absurd (ne (sym same ∙ at_last j e))

-- ---- a pair is dropped, and the last one put into the gap
module _ (many at : ℕ) (pairs : List Pair) (p key : ℕ) (home : BelongTo many at pairs) (one : NoKeyTwice pairs)
    (is : place_of key pairs ≡ Some p) where
  within : p < length pairs
  within = (first_at key pairs p is).0

  has_key : (pair_of pairs p).0 ≡ key
  has_key = (first_at key pairs p is).1

  abbrev last : ℕ
  last = length pairs - 1

  abbrev less_one : List Pair
  less_one = dropped pairs p

  shorter : length less_one ≡ last
  shorter = length-take-le last (slice_set pairs p (pair_of pairs last))
      (let e = length-set pairs p (pair_of pairs last) in omega (arith, e))

  at_gap : p < last → pair_of less_one p ≡ pair_of pairs last
  at_gap low = get_or-take last (slice_set pairs p (pair_of pairs last)) p (0, 0) low
      ∙ get_or-set_same pairs p (pair_of pairs last) (0, 0) within

  at_other : (i : ℕ) → i < last → (i ≡ p → ⊥) → pair_of less_one i ≡ pair_of pairs i
  at_other i low ne = get_or-take last (slice_set pairs p (pair_of pairs last)) i (0, 0) low
      ∙ get_or-set_other pairs p i (pair_of pairs last) (0, 0) ne

  -- which pair of before stands at an index
  from : (i : ℕ) → i < last → (j : ℕ) × (j < length pairs) × (j ≢ p) × (pair_of less_one i ≡ pair_of pairs j)
      × (((i ≡ p) × (j ≡ last)) ⊎ ((j ≡ i) × (i ≡ p → ⊥)))
  from i low = by (same_or_not i p)
    where
      by : (i ≡ p) ⊎ (i ≡ p → ⊥)
          → (j : ℕ) × (j < length pairs) × (j ≢ p) × (pair_of less_one i ≡ pair_of pairs j)
          × (((i ≡ p) × (j ≡ last)) ⊎ ((j ≡ i) × (i ≡ p → ⊥)))
      by (inl e) = (
        last,
        (let w = within in omega (arith, w)),
        (λ same. absurd (omega (arith, low, e, same))),
        ap (pair_of less_one) e ∙ at_gap (omega (arith, low, e)),
        inl (e, refl),
      )
      by (inr ne) = (i, omega (arith, low), ne, at_other i low ne, inr (refl, ne))

  single_left : NoKeyTwice less_one
  single_left i j a c same =
      let x = from i (let s = shorter in omega (arith, a, s)) in
      let y = from j (let s = shorter in omega (arith, c, s)) in
      let e : x.0 ≡ y.0 = one x.0 y.0 x.1 y.1
      (ap (λ (z : Pair). z.0) (sym x.3) ∙ same ∙ ap (λ (z : Pair). z.0) y.3) in
      by (let s = shorter in omega (arith, a, s)) (let s = shorter in omega (arith, c, s)) x.4 y.4 e
    where
      by : i < last → j < last → {x y : ℕ} → ((i ≡ p) × (x ≡ last)) ⊎ ((x ≡ i) × (i ≡ p → ⊥))
          → ((j ≡ p) × (y ≡ last)) ⊎ ((y ≡ j) × (j ≡ p → ⊥)) → x ≡ y → i ≡ j
      by li lj (inl u) (inl v) e = u.0 ∙ sym v.0
      by li lj (inl u) (inr v) e = absurd (let r = u.1 in let s = v.0 in omega (arith, lj, r, s, e))
      by li lj (inr u) (inl v) e = absurd (let r = u.0 in let s = v.1 in omega (arith, li, r, s, e))
      by li lj (inr u) (inr v) e = sym u.0 ∙ e ∙ v.0

  -- where a pair of before stands now
  to : (i : ℕ) → i < length pairs → (i ≡ p → ⊥) → (j : ℕ) × (j < length less_one) × (pair_of less_one j
      ≡ pair_of pairs i)
  to i low ne = by (cases_lt i last)
    where
      by : (i < last) ⊎ (last ≤ i) → (j : ℕ) × (j < length less_one) × (pair_of less_one j ≡ pair_of pairs i)
      by (inl a) = (i, (let s = shorter in omega (arith, a, s)), at_other i a ne)
      by (inr b) = let e : i ≡ last = omega (arith, low, b) in
          let gap : p < last = below (cases_lt p last) e in
          (p, (let s = shorter in omega (arith, gap, s)), at_gap gap ∙ ap (pair_of pairs) (sym e))
        where
          below : (p < last) ⊎ (last ≤ p) → i ≡ last → p < last
          below (inl l) e = l
          below (inr m) e = absurd (ne (let w = within in omega (arith, m, w, e)))

  pub drops_pair : Takes many at key None pairs less_one
  drops_pair = record {
    belong = all_take (λ (p : Pair). p.0 % many ≡ at) last (slice_set pairs p (pair_of pairs last))
        (all_set (λ (p : Pair). p.0 % many ≡ at) pairs p (pair_of pairs last) home
        (all_at (λ (p : Pair). p.0 % many ≡ at) pairs last home (let w = within in omega (arith, w))));
    single = single_left;
    tells = tells_by key None pairs less_one
        (no_value key less_one (λ i low same. let x = from i (let s = shorter in omega (arith, low, s)) in
        x.2 (one x.0 p x.1 within (ap (λ (z : Pair). z.0) (sym x.3) ∙ same ∙ sym has_key))))
        (λ q ne. same_values q pairs less_one one single_left
        (λ i low same. to i low (λ e. ne (sym same ∙ ap (λ (n : ℕ). (pair_of pairs n).0) e ∙ has_key)))
        (λ i low same. let x = from i (let s = shorter in omega (arith, low, s)) in (x.0, x.1, sym x.3)));
  }

  pub one_less : length less_one ≡ length pairs - 1
  one_less = shorter
