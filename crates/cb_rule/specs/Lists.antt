-- Counting in lists, and lists with one element changed.
use Rattle.std.specs.Prelude.{◌≡◌, ◌⊎◌, ℕ, ◌+◌, Bool, cond, List, [], ◌∷◌}
use mathlib.Core.Option.{Option, none, some}

module _ {A : Type 0} where
  -- how many elements pass the test
  abbrev pub times : (A → Bool) → List A → ℕ
  times t [] = 0
  times t (x ∷ xs) = cond (t x) 1 0 + times t xs

  -- the sum of what the elements count
  abbrev pub total : (A → ℕ) → List A → ℕ
  total f [] = 0
  total f (x ∷ xs) = f x + total f xs

  -- without the first that passes
  abbrev pub removed : (A → Bool) → List A → List A
  removed t [] = []
  removed t (x ∷ xs) = cond (t x) xs (x ∷ removed t xs)

  -- with the first that passes changed
  abbrev pub edited : (A → Bool) → (A → A) → List A → List A
  edited t f [] = []
  edited t f (x ∷ xs) = cond (t x) (f x ∷ xs) (x ∷ edited t f xs)

  -- the first that passes
  abbrev pub picked : (A → Bool) → List A → Option A
  picked t [] = none
  picked t (x ∷ xs) = cond (t x) (some x) (picked t xs)

  -- each element has the property
  abbrev pub Each : (A → Type 0) → List A → Type 0
  Each P [] = Unit {0}
  Each P (x ∷ xs) = P x × Each P xs

  -- the element stands in the list
  abbrev pub Has : A → List A → Type 0
  Has x [] = ⊥
  Has x (y ∷ ys) = (y ≡ x) ⊎ Has x ys
