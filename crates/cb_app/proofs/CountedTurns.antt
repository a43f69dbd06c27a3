-- Lists of numbers that have each number equally often.
use Rattle.std.proofs.Common.{◌≡◌, ◌≢◌, ◌⊎◌, ℕ, zero, suc, ◌+◌, ◌-◌, ◌<◌, ◌≤◌, min, nat_lt, Bool, true, false, cond, eqb, List, [], ◌∷◌, ◌++◌, refl, sym, ap, ◌∙◌, subst, inl, inr, arith, eq-eqb, ne_eqb, eqb-true, true≢false}
use Rattle.std.specs.List.{range_with_len}
use Rattle.std.specs.List.Sorted.{IsPermutation}
use Rattle.std.proofs.lemmas.Bool.{lt-ltb, le-ltb, ltb-true, ltb-false}
use Rattle.std.proofs.lemmas.List.Sorted.{IsPermutation-cons, IsPermutation-middle, IsPermutation-refl, IsPermutation-trans}
use Rattle.cb_rule.specs.Lists.{Has, times, total}
use Rattle.cb_rule.proofs.Laws.{by_case, hit, times-append, times_has}

-- whether it is this number
abbrev pub is : ℕ → ℕ → Bool
is e k = eqb k e

own : (y : ℕ) → cond {A = ℕ} (is y y) 1 0 ≡ 1
own y = hit (is y y) (eq-eqb y y refl)

-- a list with the number in it, and the rest
record HasAt (y : ℕ) (xs : List ℕ) : Type 0 where
  front : List ℕ
  back : List ℕ
  parts : xs ≡ front ++ y ∷ back

found : (y : ℕ) (xs : List ℕ) → 1 ≤ times (is y) xs → HasAt y xs
found y [] le = absurd (omega (arith, le))
found y (x ∷ xs) le = by_case (λ b. eqb x y ≡ b → 1 ≤ cond b 1 0 + times (is y) xs → HasAt y (x ∷ xs)) (eqb x y)
    (λ e _ _. record { front = []; back = xs; parts = ap (λ (n : ℕ). n ∷ xs) (eqb-true x y e) })
    (λ _ _ more. let z = found y xs (omega (arith, more)) in record {
      front = x ∷ z.front;
      back = z.back;
      parts = ap (λ (l : List ℕ). x ∷ l) z.parts;
    }) refl le

none_left : (xs : List ℕ) → ((e : ℕ) → times (is e) xs ≡ 0) → xs ≡ []
none_left [] none = refl
none_left (x ∷ xs) none = absurd (let a = none x in let b = own x in omega (arith, a, b))

-- so they have the same elements
pub counts_permute : (xs ys : List ℕ) → ((e : ℕ) → times (is e) xs ≡ times (is e) ys)
    → IsPermutation xs ys
counts_permute xs [] same =
    subst (λ (l : List ℕ). IsPermutation l []) (sym (none_left xs same)) (IsPermutation-refl [])
counts_permute xs (y ∷ ys) same =
    let z = found y xs (let a = same y in let b = own y in omega (arith, a, b)) in
    let rest : IsPermutation (z.front ++ z.back) ys = counts_permute (z.front ++ z.back) ys
    (λ e. let a = same e in let p = ap (times (is e)) z.parts in
    let q = times-append (is e) z.front (y ∷ z.back) in
    let r = times-append (is e) z.front z.back in omega (arith, a, p, q, r)) in
    subst (λ (l : List ℕ). IsPermutation l (y ∷ ys)) (sym z.parts)
    (IsPermutation-trans _ _ _ (IsPermutation-middle z.front y z.back) (IsPermutation-cons y _ _ rest))

-- 1 for the numbers from the first on, of which there are n, and else 0
abbrev pub stands : ℕ → ℕ → ℕ → ℕ
stands first n e = min 1 (e + 1 - first) - (e + 1 - (first + n))

pub times_range : (first n e : ℕ) → times (is e) (range_with_len first n) ≡ stands first n e
times_range first zero e = omega arith
times_range first (suc n) e =
    let rest = times_range (first + 1) n e in
    by_case (λ b. eqb first e ≡ b → cond b 1 0 + times (is e) (range_with_len (first + 1) n)
    ≡ stands first (suc n) e) (eqb first e)
    (λ h _. let same : first ≡ e = eqb-true first e h in omega (arith, rest, same))
    (λ h _. let ne : first ≢ e = (λ q. true≢false (sym (eq-eqb first e q) ∙ h)) in
    omega (arith, rest, ne)) refl

-- ---- elements with numbers, each number once
module _ {A : Type 0} (number : A → ℕ) where
  -- whether it has this number
  abbrev pub at : ℕ → A → Bool
  at n x = eqb (number x) n

  -- what the elements with a number below n count
  abbrev pub below : (A → ℕ) → ℕ → A → ℕ
  below w n x = cond (nat_lt (number x) n) (w x) 0

  none_at : (w : A → ℕ) (n : ℕ) (xs : List A) → times (at n) xs ≡ 0
      → total (λ x. cond (at n x) (w x) 0) xs ≡ 0
  none_at w n [] none = refl
  none_at w n (x ∷ xs) none = by_case
      (λ b. cond b 1 0 + times (at n) xs ≡ 0
      → cond b (w x) 0 + total (λ x. cond (at n x) (w x) 0) xs ≡ 0) (at n x)
      (λ _ e. absurd (omega (arith, e)))
      (λ _ e. let rest = none_at w n xs (omega (arith, e)) in omega (arith, rest)) none

  -- the one with the number counts alone
  only_at : (w : A → ℕ) (n : ℕ) (xs : List A) (t : A) → times (at n) xs ≡ 1 → Has t xs
      → at n t ≡ true → total (λ x. cond (at n x) (w x) 0) xs ≡ w t
  only_at w n [] t one there is_at = absurd there
  only_at w n (x ∷ xs) t one (inl same) is_at =
      let now : at n x ≡ true = ap (at n) same ∙ is_at in
      let first = ap (λ (b : Bool). cond {A = ℕ} b 1 0) now in
      let counts = ap (λ (b : Bool). cond {A = ℕ} b (w x) 0) now in
      let rest = none_at w n xs (omega (arith, one, first)) in
      let e : w x ≡ w t = ap w same in omega (arith, counts, rest, e)
  only_at w n (x ∷ xs) t one (inr later) is_at = by_case
      (λ b. cond b 1 0 + times (at n) xs ≡ 1
      → cond b (w x) 0 + total (λ x. cond (at n x) (w x) 0) xs ≡ w t) (at n x)
      (λ _ e. let more = times_has (at n) t xs later is_at in absurd (omega (arith, e, more)))
      (λ _ e. let rest = only_at w n xs t (omega (arith, e)) later is_at in omega (arith, rest)) one

  one_more : (w : A → ℕ) (n : ℕ) (x : A) → below w (suc n) x ≡ below w n x + cond (at n x) (w x) 0
  one_more w n x = by_case
      (λ b. nat_lt (number x) n ≡ b → cond (nat_lt (number x) (suc n)) (w x) 0
      ≡ cond b (w x) 0 + cond (at n x) (w x) 0) (nat_lt (number x) n)
      (λ h _. less (ltb-true_at h)) (λ h _. by_case
      (λ b. at n x ≡ b → cond (nat_lt (number x) (suc n)) (w x) 0 ≡ 0 + cond b (w x) 0) (at n x)
      (λ k _. same (eqb-true (number x) n k)) (λ k _. past (ltb-false_at h) k) refl) refl
    where
      ltb-true_at : nat_lt (number x) n ≡ true → number x < n
      ltb-true_at h = ltb-true (number x) n h

      ltb-false_at : nat_lt (number x) n ≡ false → n ≤ number x
      ltb-false_at h = ltb-false (number x) n h

      less : number x < n
          → cond (nat_lt (number x) (suc n)) (w x) 0 ≡ w x + cond (at n x) (w x) 0
      less lt =
          let a = ap (λ (b : Bool). cond {A = ℕ} b (w x) 0) (lt-ltb (number x) (suc n) (omega (arith, lt))) in
          let b = ap (λ (b : Bool). cond {A = ℕ} b (w x) 0) (ne_eqb (number x) n (λ e. absurd (omega (arith, e, lt)))) in
          omega (arith, a, b)

      same : number x ≡ n → cond (nat_lt (number x) (suc n)) (w x) 0 ≡ 0 + w x
      same e =
          let a = ap (λ (b : Bool). cond {A = ℕ} b (w x) 0) (lt-ltb (number x) (suc n) (omega (arith, e))) in
          omega (arith, a)

      past : n ≤ number x → at n x ≡ false → cond (nat_lt (number x) (suc n)) (w x) 0 ≡ 0 + 0
      past le k =
          let ne : number x ≢ n = (λ q. true≢false (sym (eq-eqb (number x) n q) ∙ k)) in
          let a = ap (λ (b : Bool). cond {A = ℕ} b (w x) 0) (le-ltb (number x) (suc n) (omega (arith, le, ne))) in
          omega (arith, a)

  total_more : (w : A → ℕ) (n : ℕ) (xs : List A)
      → total (below w (suc n)) xs ≡ total (below w n) xs + total (λ x. cond (at n x) (w x) 0) xs
  total_more w n [] = refl
  total_more w n (x ∷ xs) = let one = one_more w n x in let rest = total_more w n xs in
      omega (arith, one, rest)

  -- one element more, the one with this number
  pub counts_more : (w : A → ℕ) (n : ℕ) (xs : List A) (t : A) → times (at n) xs ≡ 1 → Has t xs
      → number t ≡ n → total (below w (suc n)) xs ≡ total (below w n) xs + w t
  counts_more w n xs t one there e =
      let more = total_more w n xs in
      let only = only_at w n xs t one there (eq-eqb (number t) n e) in omega (arith, more, only)

  -- none is below 0
  pub counts_none : (w : A → ℕ) (xs : List A) → total (below w 0) xs ≡ 0
  counts_none w [] = refl
  counts_none w (x ∷ xs) =
      let rest = counts_none w xs in
      let a = ap (λ (b : Bool). cond {A = ℕ} b (w x) 0) (le-ltb (number x) 0 (omega arith)) in
      omega (arith, rest, a)

  -- all are below n, but for some that count nothing
  pub counts_all : (w : A → ℕ) (n : ℕ) (xs : List A)
      → ((x : A) → Has x xs → (number x < n) ⊎ (w x ≡ 0)) → total (below w n) xs ≡ total w xs
  counts_all w n [] each = refl
  counts_all w n (x ∷ xs) each =
      let rest = counts_all w n xs (λ y there. each y (inr there)) in
      let one = at_one (each x (inl refl)) in omega (arith, rest, one)
    where
      at_one : (number x < n) ⊎ (w x ≡ 0) → below w n x ≡ w x
      at_one (inl lt) = ap (λ (b : Bool). cond {A = ℕ} b (w x) 0) (lt-ltb (number x) n lt)
      at_one (inr none) = by_case (λ b. cond b (w x) 0 ≡ w x) (nat_lt (number x) n)
          (λ _. refl) (λ _. sym none)
