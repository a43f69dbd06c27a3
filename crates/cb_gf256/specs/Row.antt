use Rattle.std.specs.Prelude.{ℕ, List, [], ◌∷◌, map, ◌++◌, take, drop}
use Rattle.cb_gf256.specs.Sum.{◌⊕◌}
use Rattle.cb_gf256.specs.Product.{◌⊗◌}

-- the sum of two rows, byte by byte
abbrev pub row_sum : List ℕ → List ℕ → List ℕ
row_sum [] ys = []
row_sum (x ∷ xs) [] = []
row_sum (x ∷ xs) (y ∷ ys) = (x ⊕ y) ∷ row_sum xs ys

-- c times a row, byte by byte
abbrev pub scaled_row : ℕ → List ℕ → List ℕ
scaled_row c xs = map (λ x. c ⊗ x) xs

-- xs with the first i bytes of ys added
abbrev pub summed_front : List ℕ → List ℕ → ℕ → List ℕ
summed_front xs ys i = row_sum (take i xs) (take i ys) ++ drop i xs
