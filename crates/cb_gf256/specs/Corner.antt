use Rattle.std.specs.Prelude.{◌≡◌, ℕ, ◌≤◌, List, length, map, take}
use Rattle.cb_gf256.specs.Rows.{HaveLength}

-- the first k places of the first n rows of a table
abbrev pub corner : ℕ → ℕ → List (List ℕ) → List (List ℕ)
corner k n table = map (take k) (take n table)

-- a table of four rows of sixteen places, of which the first k of the first n are used
pub record HasCorner (k n : ℕ) (table : List (List ℕ)) : Type 0 where
  pub width : k ≤ 16
  pub height : n ≤ 4
  pub rows : length table ≡ 4
  pub places : HaveLength 16 table
