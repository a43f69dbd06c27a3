use Rattle.std.specs.Prelude.{◌≡◌, ℕ, ◌^◌, ◌<◌, List}
use Rattle.std.specs.Prelude.{[], length, All, map, slice_index, slice_index_or}

-- the row at position i
abbrev pub row_at : List (List ℕ) → ℕ → List ℕ
row_at rows i = slice_index_or rows i []

-- the byte of row i at a column
abbrev pub byte_at : List (List ℕ) → ℕ → ℕ → ℕ
byte_at rows i column = slice_index (row_at rows i) column

-- each row has this many bytes
abbrev pub HaveLength : ℕ → List (List ℕ) → Type 0
HaveLength len rows = All (λ row. length row ≡ len) rows

-- each number of each row is a byte
abbrev pub HoldBytes : List (List ℕ) → Type 0
HoldBytes rows = All (All (λ x. x < 2 ^ 8)) rows

-- rows of bytes, all as long as the first
pub record AreRows (rows : List (List ℕ)) : Type 0 where
  pub equal_lengths : HaveLength (length (row_at rows 0)) rows
  pub bytes : HoldBytes rows

-- the rows at these positions
abbrev pub rows_at : List (List ℕ) → List ℕ → List (List ℕ)
rows_at rows positions = map (row_at rows) positions
