-- Lists beside lists.
use Rattle.std.specs.Prelude.{◌⊎◌, List, [], ◌∷◌, ◌++◌}

module _ {A : Type 0} where
  -- an element of the list has the property
  abbrev pub HasOne : (A → Type 0) → List A → Type 0
  HasOne P [] = ⊥
  HasOne P (x ∷ xs) = P x ⊎ HasOne P xs

-- what the elements give, those of the last one first
abbrev pub newest_first : {A B : Type 0} → (A → List B) → List A → List B
newest_first f [] = []
newest_first f (x ∷ xs) = newest_first f xs ++ f x

-- the one list is the other, less some of its elements
pub data IsSublist {A : Type 0} : List A → List A → Type 0 where
  ended : IsSublist [] []
  beside : (xs : List A) (y : A) (ys : List A) → IsSublist xs ys → IsSublist xs (y ∷ ys)
  both : (x : A) (xs ys : List A) → IsSublist xs ys → IsSublist (x ∷ xs) (x ∷ ys)
