use Rattle.std.specs.Prelude.{ℕ, ◌*◌, zero, suc, List, [], ◌∷◌, ◌++◌, length, take, drop}
use Rattle.std.specs.List.{concat}
use Rattle.cb_gf256.specs.Rows.{row_at}

-- a block of bytes cut into this many rows of this length, one after another
abbrev pub cut_rows : ℕ → ℕ → List ℕ → List (List ℕ)
cut_rows zero len block = []
cut_rows (suc count) len block = take len block ∷ cut_rows count len (drop len block)

-- the block with these bytes written over it from a place on
abbrev pub overwritten : List ℕ → ℕ → List ℕ → List ℕ
overwritten block at bytes = take at block ++ (bytes ++ drop (length bytes) (drop at block))

-- the rows with these bytes written over the block from the start of row i on: over row i alone,
-- where they are as many as a row has
unfoldable pub with_row : List (List ℕ) → ℕ → List ℕ → List (List ℕ)
with_row rows i bytes =
    let len = length (row_at rows i) in
    cut_rows (length rows) len (overwritten (concat rows) (i * len) bytes)
