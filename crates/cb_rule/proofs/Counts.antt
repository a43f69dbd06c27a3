-- Counts and totals of lists, one of whose elements changes.
use Rattle.std.proofs.Common.{◌≡◌, ◌≢◌, ℕ, zero, suc, ◌+◌, ◌<◌, ◌≤◌, Bool, true, false, cond, List}
use Rattle.std.proofs.Common.{[], ◌∷◌, ◌++◌, map, set, sym, refl, ap, eqb, eq-eqb}
use Rattle.std.proofs.Common.{true≢false, arith}
use mathlib.Core.Option.{some, some-injective, some-ne-none}
use lib.ListN.{get_elem?}
use Rattle.cb_rule.specs.Lists.{times, total, removed, edited, Each}

pub by_case : (M : Bool → Type 0) (b : Bool) → (b ≡ true → M true) → (b ≡ false → M false) → M b
by_case M true y n = y refl
by_case M false y n = n refl

pub hit : (b : Bool) → b ≡ true → cond {A = ℕ} b 1 0 ≡ 1
hit true e = refl
hit false e = absurd (true≢false (sym e))

pub miss : (b : Bool) → b ≡ false → cond {A = ℕ} b 1 0 ≡ 0
miss false e = refl
miss true e = absurd (true≢false e)

module _ {A : Type 0} where
  pub total-set : (f : A → ℕ) (vs : List A) (i : ℕ) (v w : A) → get_elem? vs i ≡ some v
      → total f (set vs i w) + f v ≡ total f vs + f w
  total-set f [] i v w e = absurd (some-ne-none v (sym e))
  total-set f (x ∷ xs) zero v w e = let same : f x ≡ f v = ap f (some-injective x v e) in
      omega arith
  total-set f (x ∷ xs) (suc i) v w e = let rest = total-set f xs i v w e in omega arith

  pub total-snoc : (f : A → ℕ) (vs : List A) (w : A) → total f (vs ++ w ∷ []) ≡ total f vs + f w
  total-snoc f [] w = omega arith
  total-snoc f (x ∷ xs) w = let rest = total-snoc f xs w in omega arith

  pub total-at : (f : A → ℕ) (vs : List A) (i : ℕ) (v : A) → get_elem? vs i ≡ some v
      → f v ≤ total f vs
  total-at f [] i v e = absurd (some-ne-none v (sym e))
  total-at f (x ∷ xs) zero v e = let same : f x ≡ f v = ap f (some-injective x v e) in omega arith
  total-at f (x ∷ xs) (suc i) v e = let rest = total-at f xs i v e in omega arith

  pub total-two : (f : A → ℕ) (vs : List A) (i j : ℕ) (v u : A) → j ≢ i → get_elem? vs i ≡ some v
      → get_elem? vs j ≡ some u → f u + f v ≤ total f vs
  total-two f [] i j v u ne e e' = absurd (some-ne-none v (sym e))
  total-two f (x ∷ xs) zero zero v u ne e e' = absurd (ne refl)
  total-two f (x ∷ xs) zero (suc j) v u ne e e' = let same : f x ≡ f v =
      ap f (some-injective x v e) in let rest = total-at f xs j u e' in omega arith
  total-two f (x ∷ xs) (suc i) zero v u ne e e' = let same : f x ≡ f u =
      ap f (some-injective x u e') in let rest = total-at f xs i v e in omega arith
  total-two f (x ∷ xs) (suc i) (suc j) v u ne e e' = let rest =
      total-two f xs i j v u (λ h. ne (ap suc h)) e e' in omega arith

  pub times-append : (t : A → Bool) (xs ys : List A) → times t (xs ++ ys) ≡ times t xs + times t ys
  times-append t [] ys = omega arith
  times-append t (x ∷ xs) ys = let rest = times-append t xs ys in omega arith

  pub times-removed : (t : A → Bool) (xs : List A) → 0 < times t xs
      → times t (removed t xs) + 1 ≡ times t xs
  times-removed t [] h = absurd (omega arith)
  times-removed t (x ∷ xs) h = by_case (λ b. 0 < cond b 1 0 + times t xs
      → times t (cond b xs (x ∷ removed t xs)) + 1 ≡ cond b 1 0 + times t xs) (t x)
      (λ _ z. omega arith) (λ e z. let rest = times-removed t xs (omega arith) in
      let out : cond (t x) 1 0 ≡ 0 = miss (t x) e in omega arith) h

  pub times-removed_else : (t t' : A → Bool) (xs : List A) → ((x : A) → t x ≡ true → t' x ≡ false)
      → times t' (removed t xs) ≡ times t' xs
  times-removed_else t t' [] h = refl
  times-removed_else t t' (x ∷ xs) h =
      by_case (λ b. times t' (cond b xs (x ∷ removed t xs)) ≡ cond (t' x) 1 0 + times t' xs) (t x)
      (λ e. let out : cond (t' x) 1 0 ≡ 0 = miss (t' x) (h x e) in
      omega arith) (λ e. let rest = times-removed_else t t' xs h in omega arith)

  pub each_map : (P Q : A → Type 0) (xs : List A) → ((x : A) → P x → Q x) → Each P xs → Each Q xs
  each_map P Q [] f h = tt
  each_map P Q (x ∷ xs) f h = (f x h.0, each_map P Q xs f h.1)

  pub each_append : (P : A → Type 0) (xs ys : List A) → Each P xs → Each P ys → Each P (xs ++ ys)
  each_append P [] ys h k = k
  each_append P (x ∷ xs) ys h k = (h.0, each_append P xs ys h.1 k)

  pub each_removed : (P : A → Type 0) (t : A → Bool) (xs : List A) → Each P xs
      → Each P (removed t xs)
  each_removed P t [] h = tt
  each_removed P t (x ∷ xs) h =
      by_case (λ b. Each P (cond b xs (x ∷ removed t xs))) (t x) (λ _. h.1) (λ _.
      (h.0, each_removed P t xs h.1))

  -- where no element passes the test
  pub each_none : (P Q : A → Type 0) (t : A → Bool) (xs : List A) → times t xs ≡ 0 → ((x : A)
      → t x ≡ false → P x → Q x) → Each P xs → Each Q xs
  each_none P Q t [] none f h = tt
  each_none P Q t (x ∷ xs) none f h = by_case (λ b. cond b 1 0 + times t xs ≡ 0
      → Q x × Each Q xs) (t x) (λ _ z. absurd (omega arith)) (λ e z.
      (f x e h.0, each_none P Q t xs (omega arith) f h.1)) none

  -- where one at most passes
  pub each_removed_only : (P Q : A → Type 0) (t : A → Bool) (xs : List A) → times t xs ≤ 1
      → ((x : A) → t x ≡ false → P x → Q x) → Each P xs → Each Q (removed t xs)
  each_removed_only P Q t [] one f h = tt
  each_removed_only P Q t (x ∷ xs) one f h = by_case (λ b. cond b 1 0 + times t xs ≤ 1
      → Each Q (cond b xs (x ∷ removed t xs))) (t x)
      (λ _ z. each_none P Q t xs (omega arith) f h.1) (λ e z.
      (f x e h.0, each_removed_only P Q t xs (omega arith) f h.1)) one

  pub each_edited : (P Q : A → Type 0) (t : A → Bool) (g : A → A) (xs : List A) → times t xs ≤ 1
      → ((x : A) → t x ≡ true → P x → Q (g x)) → ((x : A) → t x ≡ false → P x → Q x) → Each P xs
      → Each Q (edited t g xs)
  each_edited P Q t g [] one hit miss h = tt
  each_edited P Q t g (x ∷ xs) one hit miss h = by_case (λ b. cond b 1 0 + times t xs ≤ 1
      → Each Q (cond b (g x ∷ xs) (x ∷ edited t g xs))) (t x)
      (λ e z. (hit x e h.0, each_none P Q t xs (omega arith) miss h.1)) (λ e z.
      (miss x e h.0, each_edited P Q t g xs (omega arith) hit miss h.1)) one

  pub times-edited : (t t' : A → Bool) (g : A → A) (xs : List A) → ((x : A) → t' (g x) ≡ t' x)
      → times t' (edited t g xs) ≡ times t' xs
  times-edited t t' g [] same = refl
  times-edited t t' g (x ∷ xs) same =
      by_case (λ b. times t' (cond b (g x ∷ xs) (x ∷ edited t g xs))
      ≡ cond (t' x) 1 0 + times t' xs) (t x)
      (λ _. ap (λ (b : Bool). cond b 1 0 + times t' xs) (same x)) (λ _. ap (λ (k : ℕ). cond
      (t' x) 1 0 + k) (times-edited t t' g xs same))

  -- each with the fact that it is there
  each_present : (P Q : A → Type 0) (key : A → ℕ) (ys xs : List A) → ((h : ℕ)
      → times (λ y. eqb (key y) h) xs ≤ times (λ y. eqb (key y) h) ys) → ((x : A)
      → 0 < times (λ y. eqb (key y) (key x)) ys → P x → Q x) → Each P xs → Each Q xs
  each_present P Q key ys [] le f h = tt
  each_present P Q key ys (x ∷ xs) le f h =
      let here : cond {A = ℕ} (eqb (key x) (key x)) 1 0 ≡ 1 =
      hit (eqb (key x) (key x)) (eq-eqb (key x) (key x) refl) in
      let at = le (key x) in (
        f x (omega arith) h.0,
        each_present P Q key ys xs (λ k. let l =
            le k in omega arith) f h.1,
      )

  pub each_there : (P Q : A → Type 0) (key : A → ℕ) (xs : List A) → ((x : A)
      → 0 < times (λ y. eqb (key y) (key x)) xs → P x → Q x) → Each P xs → Each Q xs
  each_there P Q key xs f h = each_present P Q key xs xs (λ k. omega arith) f h

  pub total-same : (f : A → ℕ) (vs : List A) (i : ℕ) (v w : A) → get_elem? vs i ≡ some v
      → f w ≡ f v → total f (set vs i w) ≡ total f vs
  total-same f vs i v w at same = let e = total-set f vs i v w at in omega arith

  pub each_mapped : {B : Type 0} (P : B → Type 0) (f : A → B) (xs : List A)
      → Each (λ x. P (f x)) xs → Each P (map f xs)
  each_mapped P f [] h = tt
  each_mapped P f (x ∷ xs) h = (h.0, each_mapped P f xs h.1)
