-- What the calls of the code make.
use Rattle.std.specs.Prelude.{◌≡◌, ℕ, ◌⊎◌, List, ◌++◌}
use Rattle.cb_gf256.specs.CodeWord.{IsCodeWord}
use Rattle.cb_gf256.specs.Combination.{AreCombinations}
use Rattle.cb_gf256.specs.Rows.{HoldBytes}
use Rattle.cb_code.specs.Coefficients.{AreCoefficients}
use Rattle.cb_erase.specs.Weights.{IsSolution}
use Rattle.cb_scrub.specs.Wrong.{IsOneWrong, IsWordBut}
use Rattle.cb_scrub.specs.Mended.{mended}

-- the parities of these data rows: the sums that the code's table makes of them, with which they
-- are a code word, and no other rows of bytes are
pub record AreParities (k r : ℕ) (rows parities : List (List ℕ)) : Type 0 where
  pub sums : (table : List (List ℕ)) × AreCoefficients k r table
      × AreCombinations table rows parities
  pub word : IsCodeWord k r (rows ++ parities)
  pub only : (others : List (List ℕ)) → HoldBytes others → IsCodeWord k r (rows ++ others)
      → others ≡ parities

-- the one code word that agrees with these rows at the present positions
pub record IsOnlySolution (k r : ℕ) (present : List ℕ) (shown word : List (List ℕ)) : Type 0 where
  pub solution : IsSolution k r present shown word
  pub only : (other : List (List ℕ)) → HoldBytes other
      → IsSolution k r present shown other → other ≡ word

-- the rows with the one at a position mended
pub record IsMendedAt (r : ℕ) (rows : List (List ℕ)) (position : ℕ) (now : List (List ℕ)) : Type 0
  where
    pub sum : now ≡ mended rows position
    pub word : IsOneWrong r rows position → IsWordBut r rows position now
    pub only : (other : ℕ) (word : List (List ℕ)) → IsOneWrong r rows position
        → IsWordBut r rows other word → word ≡ now

-- 1 tells that the rows are a code word, and 0 that they are none
abbrev pub TellsWord : ℕ → ℕ → List (List ℕ) → ℕ → Type 0
TellsWord k r rows told =
    ((told ≡ 1) × IsCodeWord k r rows) ⊎ ((told ≡ 0) × ¬ (IsCodeWord k r rows))
