-- What a mended row is.
use Rattle.std.specs.Prelude.{ℕ, ◌==◌, if◌then◌else◌, List, length, map, slice_set}
use Rattle.std.specs.List.{range_with_len}
use Rattle.cb_gf256.specs.Sum.{sum_over}
use Rattle.cb_gf256.specs.Rows.{row_at, byte_at}

-- the byte at a column of the sum of all rows but the one at a position
abbrev pub sum_of_others : List (List ℕ) → ℕ → ℕ → ℕ
sum_of_others rows position column =
    sum_over (length rows) (λ i. if i == position then 0 else byte_at rows i column)

-- the sum of all rows but the one at a position
abbrev pub row_of_others : List (List ℕ) → ℕ → List ℕ
row_of_others rows position =
    map (sum_of_others rows position) (range_with_len 0 (length (row_at rows 0)))

-- the rows with the one at a position replaced by the sum of all others
abbrev pub mended : List (List ℕ) → ℕ → List (List ℕ)
mended rows position = slice_set rows position (row_of_others rows position)
