use Rattle.std.specs.Prelude.{◌≡◌, ℕ, ◌<◌, List, length, slice_index}
use Rattle.cb_gf256.specs.Sum.{sum_over}
use Rattle.cb_gf256.specs.Product.{◌⊗◌}
use Rattle.cb_gf256.specs.Rows.{row_at, byte_at, HaveLength}

-- the byte at a column of the sum of the rows, each times its factor
abbrev pub combination : List ℕ → List (List ℕ) → ℕ → ℕ
combination factors rows column = sum_over (length factors)
    (λ i. slice_index factors i ⊗ byte_at rows i column)

-- row j of these sums is the sum of the rows, each times its factor in row j of the table
pub record AreCombinations (table rows sums : List (List ℕ)) : Type 0 where
  pub count : length sums ≡ length table
  pub equal_lengths : HaveLength (length (row_at rows 0)) sums
  pub values : (j column : ℕ) → j < length table → column < length (row_at rows 0)
      → byte_at sums j column ≡ combination (row_at table j) rows column
