use Rattle.std.specs.Prelude.{◌≡◌, ℕ, ◌+◌, ◌*◌, ◌<◌, List, length}
use Rattle.cb_gf256.specs.Sum.{sum_over}
use Rattle.cb_gf256.specs.Product.{◌⊗◌}
use Rattle.cb_gf256.specs.Power.{power}
use Rattle.cb_gf256.specs.Rows.{row_at, byte_at, HaveLength}

-- the syndrome of power j at a column: the sum over the positions i of 2^(i*j) times row i
abbrev pub syndrome : ℕ → List (List ℕ) → ℕ → ℕ
syndrome j rows column = sum_over (length rows) (λ i. power 2 (i * j) ⊗ byte_at rows i column)

-- a code word for k data rows and r parities (Reed and Solomon 1960): k + r rows of equal length
-- whose syndromes of the powers below r are 0 at each column
pub record IsCodeWord (k r : ℕ) (rows : List (List ℕ)) : Type 0 where
  pub count : length rows ≡ k + r
  pub equal_lengths : HaveLength (length (row_at rows 0)) rows
  pub syndromes_zero : (j column : ℕ) → j < r → column < length (row_at rows 0)
      → syndrome j rows column ≡ 0
