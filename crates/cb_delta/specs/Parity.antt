use Rattle.std.specs.Prelude.{◌≡◌, ℕ, ◌<◌, List, length, slice_index}
use Rattle.cb_gf256.specs.Combination.{combination}

-- parity is the sum of the rows, each times its factor
abbrev pub IsParity : List ℕ → List (List ℕ) → List ℕ → Type 0
IsParity factors rows parity =
    (column : ℕ) → column < length parity
    → slice_index parity column ≡ combination factors rows column
