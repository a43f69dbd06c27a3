-- What holds of each element of a list, and of one.
use Rattle.std.proofs.Common.{◌≡◌, ℕ, Bool, cond, List, [], ◌∷◌, ◌++◌, refl, ap, inl, inr}
use Rattle.std.specs.List.{AllByRecursion}
use Rattle.cb_rule.specs.Lists.{Each, Has}
use Rattle.cb_record.specs.Lists.{HasOne}

-- one, where it is so
abbrev pub one_if : Bool → ℕ
one_if b = cond b 1 0

module _ {A : Type 0} where
  pub all_push : (P : A → Type 0) (xs : List A) (x : A) → AllByRecursion P xs → P x
      → AllByRecursion P (xs ++ x ∷ [])
  all_push P [] x all is = (is, tt)
  all_push P (y ∷ xs) x all is = (all.0, all_push P xs x all.1 is)

  pub all_last : (P : A → Type 0) (xs : List A) (x : A) → AllByRecursion P (xs ++ x ∷ []) → P x
  all_last P [] x all = all.0
  all_last P (y ∷ xs) x all = all_last P xs x all.1

  pub all_both : (P : A → Type 0) (xs ys : List A) → AllByRecursion P xs → AllByRecursion P ys
      → AllByRecursion P (xs ++ ys)
  all_both P [] ys a b = b
  all_both P (x ∷ xs) ys a b = (a.0, all_both P xs ys a.1 b)

  pub all_map : (P Q : A → Type 0) (xs : List A) → ((x : A) → P x → Q x) → AllByRecursion P xs
      → AllByRecursion Q xs
  all_map P Q [] f all = tt
  all_map P Q (x ∷ xs) f all = (f x all.0, all_map P Q xs f all.1)

  pub each_both : (P : A → Type 0) (xs ys : List A) → Each P xs → Each P ys → Each P (xs ++ ys)
  each_both P [] ys a b = b
  each_both P (x ∷ xs) ys a b = (a.0, each_both P xs ys a.1 b)

  pub each_map : (P Q : A → Type 0) → ((x : A) → P x → Q x) → (xs : List A) → Each P xs → Each Q xs
  each_map P Q f [] all = tt
  each_map P Q f (x ∷ xs) all = (f x all.0, each_map P Q f xs all.1)

  pub found_one : (P : A → Type 0) (xs : List A) → HasOne P xs → (x : A) × Has x xs × P x
  found_one P [] one = absurd one
  found_one P (x ∷ xs) (inl is) = (x, inl refl, is)
  found_one P (x ∷ xs) (inr one) = let z = found_one P xs one in (z.0, inr z.1, z.2)

  pub heads_same : (x y : A) (xs ys : List A) → x ∷ xs ≡ y ∷ ys → (x ≡ y) × (xs ≡ ys)
  heads_same x y xs ys e = (ap (λ (zs : List A). first zs) e, ap (λ (zs : List A). later zs) e)
    where
      first : List A → A
      first [] = x
      first (z ∷ zs) = z

      later : List A → List A
      later [] = []
      later (z ∷ zs) = zs
