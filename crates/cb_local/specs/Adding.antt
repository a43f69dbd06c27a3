-- The delta of one data row, added to all parities.
use Rattle.std.specs.Prelude.{◌≡◌, ℕ, ◌<◌, List, length}
use Rattle.cb_gf256.specs.Row.{row_sum, scaled_row}
use Rattle.cb_gf256.specs.Rows.{byte_at, row_at}

-- to each parity the delta is added, times the coefficient of the position in it
pub record IsDeltaAdded (table : List (List ℕ)) (position : ℕ) (delta : List ℕ)
    (old new : List (List ℕ)) : Type 0 where
  pub count : length new ≡ length old
  pub rows : (j : ℕ) → j < length old
      → row_at new j ≡ row_sum (row_at old j) (scaled_row (byte_at table j position) delta)
