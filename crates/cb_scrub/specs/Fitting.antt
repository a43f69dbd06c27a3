-- Syndromes of one wrong row.
use Rattle.std.specs.Prelude.{◌≡◌, ℕ, ◌*◌, ◌<◌, ◌≤◌, List}
use Rattle.cb_gf256.specs.Product.{◌⊗◌}
use Rattle.cb_gf256.specs.Power.{power}
use Rattle.cb_gf256.specs.CodeWord.{syndrome}

-- at a column the syndrome of each power j from 1 to below r is 2^(position*j) times that of
-- power 0
abbrev pub FitsAt : ℕ → List (List ℕ) → ℕ → ℕ → Type 0
FitsAt r rows position column =
    (j : ℕ) → 1 ≤ j → j < r
    → syndrome j rows column ≡ power 2 (position * j) ⊗ syndrome 0 rows column

-- the same in the columns from one to before another
abbrev pub FitsColumns : ℕ → List (List ℕ) → ℕ → ℕ → ℕ → Type 0
FitsColumns r rows position from to =
    (column : ℕ) → from ≤ column → column < to → FitsAt r rows position column
