-- What an examination finds.
use Rattle.std.specs.Prelude.{◌≡◌, ◌≢◌, ℕ, ◌<◌, List, length}
use Rattle.cb_gf256.specs.Rows.{row_at}
use Rattle.cb_gf256.specs.CodeWord.{syndrome}
use Rattle.cb_scrub.specs.declared.found.Found.{Found}
use Rattle.cb_scrub.specs.declared.found.Found.TheVariants.{Clean, One, Many}
use Rattle.cb_scrub.specs.Wrong.{IsWord, IsOneWrong, AreZero}

-- the first syndrome that is not 0: in the least column, and there of the least power
pub record IsFirstSum (r : ℕ) (rows : List (List ℕ)) (power column sum : ℕ) : Type 0 where
  pub below : power < r
  pub inside : column < length (row_at rows 0)
  pub value : sum ≡ syndrome power rows column
  pub wrong : sum ≢ 0
  pub columns : AreZero r rows 0 column
  pub powers : (j : ℕ) → j < power → syndrome j rows column ≡ 0

-- Clean where the rows are a code word, One where one row alone is wrong, and Many where neither
-- holds, with the first syndrome that is not 0
abbrev pub IsFinding : ℕ → List (List ℕ) → Found → Type 0
IsFinding r rows Clean = IsWord r rows
IsFinding r rows (One position) = IsOneWrong r rows position
IsFinding r rows (Many power column sum) =
    IsFirstSum r rows power column sum × ((position : ℕ) → ¬ (IsOneWrong r rows position))

-- what is found where a code word agrees with the rows at every position but this one: the rows are
-- that word, or the row at that position is found
abbrev pub IsMended : List (List ℕ) → ℕ → List (List ℕ) → Found → Type 0
IsMended rows position word Clean = word ≡ rows
IsMended rows position word (One found) = found ≡ position
IsMended rows position word (Many power column sum) = ⊥
