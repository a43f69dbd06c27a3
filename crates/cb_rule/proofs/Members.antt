-- What stands in a list, and what is counted there.
use Rattle.std.proofs.Common.{◌≡◌, ◌⊎◌, ℕ, zero, suc, ◌+◌, ◌<◌, ◌≤◌, Bool, true, cond, List, []}
use Rattle.std.proofs.Common.{◌∷◌, ◌++◌, sym, refl, ap, ◌∙◌, subst, inl, inr, ⊎_elim, arith}
use mathlib.Core.Option.{some, some-injective, some-ne-none}
use lib.ListN.{get_elem?}
use Rattle.cb_rule.specs.Lists.{times, total, Each, Has}
use Rattle.cb_rule.proofs.Counts.{by_case, hit}

-- what stands in a list has what each element has
pub each_has : {A : Type 0} (P : A → Type 0) (x : A) (xs : List A) → Each P xs → Has x xs → P x
each_has P x [] h there = absurd there
each_has P x (y ∷ xs) h there =
    ⊎_elim (λ (e : y ≡ x). subst P e h.0) (λ (e : Has x xs). each_has P x xs h.1 e) there

-- and is counted
pub times_has : {A : Type 0} (t : A → Bool) (x : A) (xs : List A) → Has x xs → t x ≡ true
    → 0 < times t xs
times_has t x [] there is = absurd there
times_has t x (y ∷ xs) there is = ⊎_elim
    (λ (e : y ≡ x). let one : cond (t y) 1 0 ≡ 1 = hit (t y) (ap t e ∙ is) in omega arith)
    (λ (e : Has _ xs). let rest = times_has t x xs e is in omega arith) there

module _ {A : Type 0} where
  -- what is counted is there
  pub has_times : (t : A → Bool) (xs : List A) → 1 ≤ times t xs → (x : A) × Has x xs × (t x ≡ true)
  has_times t [] some_one = absurd (omega arith)
  has_times t (y ∷ xs) some_one = by_case
      (λ b. 1 ≤ cond b 1 0 + times t xs → (x : A) × Has x (y ∷ xs) × (t x ≡ true)) (t y)
      (λ is _. (y, inl refl, is))
      (λ _ le. let z = has_times t xs (omega (arith, le)) in (z.0, inr z.1, z.2)) some_one

  -- a total that is not 0 has an element that adds to it
  pub total_some : (f : A → ℕ) (vs : List A) → 1 ≤ total f vs
      → (j : ℕ) × (u : A) × (get_elem? vs j ≡ some u) × (1 ≤ f u)
  total_some f [] le = absurd (omega arith)
  total_some f (x ∷ xs) le = pick (f x) refl (λ more. total_some f xs more)
    where
      pick : (n : ℕ) → f x ≡ n
          → (1 ≤ total f xs → (j : ℕ) × (u : A) × (get_elem? xs j ≡ some u) × (1 ≤ f u))
          → (j : ℕ) × (u : A) × (get_elem? (x ∷ xs) j ≡ some u) × (1 ≤ f u)
      pick zero e rest = let z = rest (omega (arith, e, le)) in (suc z.0, z.1, z.2, z.3)
      pick (suc n) e rest = (0, x, refl, omega (arith, e))

-- an element of a list with one more is one of the list, or that one
pub at_snoc : {A : Type 0} (vs : List A) (w u : A) (j : ℕ) → get_elem? (vs ++ w ∷ []) j ≡ some u
    → (get_elem? vs j ≡ some u) ⊎ (w ≡ u)
at_snoc [] w u zero e = inr (some-injective w u e)
at_snoc [] w u (suc j) e = absurd (some-ne-none u (sym e))
at_snoc (x ∷ xs) w u zero e = inl e
at_snoc (x ∷ xs) w u (suc j) e = at_snoc xs w u j e
