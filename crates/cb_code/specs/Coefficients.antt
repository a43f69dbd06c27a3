use Rattle.std.specs.Prelude.{◌≡◌, ℕ, List, ◌++◌, length}
use Rattle.cb_gf256.specs.Rows.{row_at, HaveLength, HoldBytes, AreRows}
use Rattle.cb_gf256.specs.CodeWord.{IsCodeWord}
use Rattle.cb_gf256.specs.InRange.{IsInRange}
use Rattle.cb_gf256.specs.Combination.{AreCombinations}

-- the table of the code for k data rows and r parities: row j has a coefficient for each data
-- row, and any data rows, followed by the sums of them that the table makes, are a code word
pub record AreCoefficients (k r : ℕ) (table : List (List ℕ)) : Type 0 where
  pub parities : length table ≡ r
  pub positions : HaveLength k table
  pub bytes : HoldBytes table
  pub make_words : (rows sums : List (List ℕ)) → length rows ≡ k → AreRows rows
      → AreCombinations table rows sums → IsCodeWord k r (rows ++ sums)

-- the table of one of the codes that are built
pub record IsCode (table : List (List ℕ)) : Type 0 where
  pub in_range : IsInRange (length (row_at table 0)) (length table)
  pub coefficients : AreCoefficients (length (row_at table 0)) (length table) table
