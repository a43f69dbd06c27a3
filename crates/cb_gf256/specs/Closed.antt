use Rattle.std.specs.Prelude.{◌≡◌, ℕ, ◌<◌, List, length}
use Rattle.cb_gf256.specs.Sum.{sum_over}
use Rattle.cb_gf256.specs.Rows.{row_at, byte_at}

-- a table of factors is closed: it has rows, and their factors add up to 1 at each place
pub record IsClosed (table : List (List ℕ)) : Type 0 where
  pub some : 0 < length table
  pub ones : (i : ℕ) → i < length (row_at table 0)
      → sum_over (length table) (λ j. byte_at table j i) ≡ 1
