use Rattle.std.specs.Prelude.{◌≡◌, ℕ, ◌<◌, List, length}
use Rattle.cb_gf256.specs.Sum.{◌⊕◌, sum_over}
use Rattle.cb_gf256.specs.Product.{◌⊗◌}
use Rattle.cb_gf256.specs.Rows.{row_at, byte_at}
use Rattle.cb_gf256.specs.Combination.{combination}

-- the sum of the first n rows at a column, each times its factor in row j of a table
abbrev pub sum_by : ℕ → List (List ℕ) → List (List ℕ) → ℕ → ℕ → ℕ
sum_by n table rows j column = sum_over n (λ i. byte_at table j i ⊗ byte_at rows i column)

-- the sum of the first n rows at a column
abbrev pub plain_sum : ℕ → List (List ℕ) → ℕ → ℕ
plain_sum n rows column = sum_over n (λ i. byte_at rows i column)

-- the sum of the first n rows at a column and of the m sums that they have by a table
abbrev pub closing_sum : ℕ → ℕ → List (List ℕ) → List (List ℕ) → ℕ → ℕ
closing_sum m n table rows column =
    plain_sum n rows column ⊕ sum_over m (λ j. sum_by n table rows j column)

-- the first m rows of the whole table have the factors of this one, and by its row m each column
-- before len gets the sum of all n rows and of the m sums that they have by this one
pub record Closes (m n len : ℕ) (table rows whole : List (List ℕ)) : Type 0 where
  pub width : (j : ℕ) → j < m → length (row_at whole j) ≡ n
  pub factors : (j i : ℕ) → j < m → i < n → byte_at whole j i ≡ byte_at table j i
  pub closing : (column : ℕ) → column < len → combination (row_at whole m) rows column
      ≡ closing_sum m n table rows column
