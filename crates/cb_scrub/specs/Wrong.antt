-- Rows that are no code word, and those that are one but for a row.
use Rattle.std.specs.Prelude.{◌≡◌, ◌≢◌, ℕ, ◌-◌, ◌<◌, ◌≤◌, List, length}
use Rattle.cb_gf256.specs.Rows.{row_at, HoldBytes, AreRows}
use Rattle.cb_gf256.specs.CodeWord.{syndrome, IsCodeWord}

-- rows of one length, of which the last r are the parities
pub record HaveParities (r : ℕ) (rows : List (List ℕ)) : Type 0 where
  pub are_rows : AreRows rows
  pub some : 1 ≤ r
  pub most : r ≤ 4
  pub more : r < length rows
  pub few : length rows ≤ 20

-- the rows, of which the last r are the parities, are a code word
abbrev pub IsWord : ℕ → List (List ℕ) → Type 0
IsWord r rows = IsCodeWord (length rows - r) r rows

-- a code word that agrees with the rows at every position but this one
pub record IsWordBut (r : ℕ) (rows : List (List ℕ)) (position : ℕ) (word : List (List ℕ)) : Type 0
  where
    pub inside : position < length rows
    pub code_word : IsCodeWord (length rows - r) r word
    pub bytes : HoldBytes word
    pub agrees : (i : ℕ) → i < length rows → i ≢ position → row_at word i ≡ row_at rows i

-- one row alone is wrong: with two parities or more, the rows are no code word, and some code word
-- agrees with them at every position but this one
pub record IsOneWrong (r : ℕ) (rows : List (List ℕ)) (position : ℕ) : Type 0 where
  pub parities : 2 ≤ r
  pub wrong : ¬ (IsWord r rows)
  pub agreeing : (word : List (List ℕ)) × IsWordBut r rows position word

-- the syndromes of the powers below r are 0 in the columns from one to before another
abbrev pub AreZero : ℕ → List (List ℕ) → ℕ → ℕ → Type 0
AreZero r rows from to =
    (j column : ℕ) → j < r → from ≤ column → column < to → syndrome j rows column ≡ 0

-- the first column from one on, of so many, in which a syndrome of the powers below r is not 0
pub record IsFirstWrong (r : ℕ) (rows : List (List ℕ)) (from column len : ℕ) : Type 0 where
  pub least : from ≤ column
  pub inside : column < len
  pub before : AreZero r rows from column
  pub wrong : ¬ ((j : ℕ) → j < r → syndrome j rows column ≡ 0)
