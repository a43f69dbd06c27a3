use Rattle.std.specs.Prelude.{◌≡◌, ℕ, ◌+◌, List, length}
use Rattle.cb_gf256.specs.Rows.{rows_at, HaveLength, HoldBytes, AreRows}
use Rattle.cb_gf256.specs.CodeWord.{IsCodeWord}
use Rattle.cb_gf256.specs.Combination.{AreCombinations}

-- word is a code word whose rows at the present positions are these
pub record IsSolution (k r : ℕ) (present : List ℕ) (shown word : List (List ℕ)) : Type 0 where
  pub is_word : IsCodeWord k r word
  pub agrees : rows_at word present ≡ shown

-- the table of weights for these present positions: row p has a factor for each present row, with
-- which each code word is restored from its present rows, and a code word is made of any present
-- rows
pub record AreWeights (k r : ℕ) (present : List ℕ) (table : List (List ℕ)) : Type 0 where
  pub positions : length table ≡ k + r
  pub factors : HaveLength k table
  pub bytes : HoldBytes table
  pub restore : (word : List (List ℕ)) → IsCodeWord k r word → HoldBytes word
      → AreCombinations table (rows_at word present) word
  pub solve : (shown word : List (List ℕ)) → length shown ≡ k → AreRows shown
      → AreCombinations table shown word → IsSolution k r present shown word
