-- Lists beside lists: what holds of two lists holds of both together.
use Rattle.std.proofs.Common.{◌≡◌, List, [], ◌∷◌, ◌++◌, sym, ap, ◌∙◌, append_assoc, inl, inr, ⊎_elim}
use Rattle.std.specs.List.{AllByRecursion}
use Rattle.std.proofs.lemmas.List.{append-nil}
use Rattle.cb_rule.specs.Lists.{Has}
use Rattle.cb_record.specs.Lists.{HasOne, IsSublist, newest_first}
use Rattle.cb_record.specs.Lists.IsSublist.{ended, beside, both}

module _ {A : Type 0} where
  pub has_one_left : (P : A → Type 0) (xs ys : List A) → HasOne P xs → HasOne P (xs ++ ys)
  has_one_left P [] ys h = absurd h
  has_one_left P (x ∷ xs) ys h =
      ⊎_elim (λ (p : P x). inl p) (λ (q : HasOne P xs). inr (has_one_left P xs ys q)) h

  pub has_one_right : (P : A → Type 0) (xs ys : List A) → HasOne P ys → HasOne P (xs ++ ys)
  has_one_right P [] ys h = h
  has_one_right P (x ∷ xs) ys h = inr (has_one_right P xs ys h)

  pub has_left : (y : A) (xs ys : List A) → Has y xs → Has y (xs ++ ys)
  has_left y [] ys h = absurd h
  has_left y (x ∷ xs) ys h =
      ⊎_elim (λ (p : x ≡ y). inl p) (λ (q : Has y xs). inr (has_left y xs ys q)) h

  pub has_right : (y : A) (xs ys : List A) → Has y ys → Has y (xs ++ ys)
  has_right y [] ys h = h
  has_right y (x ∷ xs) ys h = inr (has_right y xs ys h)

  pub all_map : (P Q : A → Type 0) (xs : List A) → ((x : A) → P x → Q x) → AllByRecursion P xs
      → AllByRecursion Q xs
  all_map P Q [] f h = tt
  all_map P Q (x ∷ xs) f h = (f x h.0, all_map P Q xs f h.1)

  pub all_append : (P : A → Type 0) (xs ys : List A) → AllByRecursion P xs → AllByRecursion P ys
      → AllByRecursion P (xs ++ ys)
  all_append P [] ys h k = k
  all_append P (x ∷ xs) ys h k = (h.0, all_append P xs ys h.1 k)

  pub among_append : (xs ys us vs : List A) → IsSublist xs ys → IsSublist us vs
      → IsSublist (xs ++ us) (ys ++ vs)
  among_append _ _ us vs ended b = b
  among_append _ _ us vs (beside xs y ys a) b =
      beside (xs ++ us) y (ys ++ vs) (among_append xs ys us vs a b)
  among_append _ _ us vs (both x xs ys a) b =
      both x (xs ++ us) (ys ++ vs) (among_append xs ys us vs a b)

  pub among_none : (xs : List A) → IsSublist [] xs
  among_none [] = ended
  among_none (x ∷ xs) = beside [] x xs (among_none xs)

  pub newest_append : {B : Type 0} (f : B → List A) (xs ys : List B)
      → newest_first f (xs ++ ys) ≡ newest_first f ys ++ newest_first f xs
  newest_append f [] ys = sym (append-nil (newest_first f ys))
  newest_append f (x ∷ xs) ys = ap (λ (l : List A). l ++ f x) (newest_append f xs ys)
      ∙ append_assoc (newest_first f ys) (newest_first f xs) (f x)
