use Rattle.std.specs.Prelude.{◌≡◌, ◌≢◌, ℕ, ◌+◌, ◌<◌, ◌≤◌, List, length, slice_index}
use Rattle.cb_gf256.specs.Rows.{row_at, byte_at}
use Rattle.cb_gf256.specs.Combination.{combination}

-- w bytes from the place at on, v j, are put into each row at the first m targets; what stood
-- before that place and after those bytes, and all other rows, stay
pub record Placed (w at : ℕ) (targets : List ℕ) (v : ℕ → ℕ → ℕ) (before now : List (List ℕ))
    (m : ℕ) : Type 0 where
  pub count : length now ≡ length before
  pub lengths : (i : ℕ) → length (row_at now i) ≡ length (row_at before i)
  pub placed : (j l : ℕ) → j < m → l < w → byte_at now (slice_index targets j) (at + l) ≡ v j l
  pub front : (i c : ℕ) → c < at → byte_at now i c ≡ byte_at before i c
  pub back : (i c : ℕ) → at + w ≤ c → byte_at now i c ≡ byte_at before i c
  pub others : (i : ℕ) → ((j : ℕ) → j < m → slice_index targets j ≢ i)
      → row_at now i ≡ row_at before i

-- from one column to before another, the rows at the targets are the sums of the shown rows; all
-- other rows are as they were
pub record Combined (table shown : List (List ℕ)) (targets : List ℕ) (before now : List (List ℕ))
    (from to : ℕ) : Type 0 where
  pub count : length now ≡ length before
  pub lengths : (i : ℕ) → length (row_at now i) ≡ length (row_at before i)
  pub sums : (j c : ℕ) → j < length targets → from ≤ c → c < to
      → byte_at now (slice_index targets j) c ≡ combination (row_at table j) shown c
  pub others : (i : ℕ) → ((j : ℕ) → j < length targets → slice_index targets j ≢ i)
      → row_at now i ≡ row_at before i

-- the same, and from the one column to before the other the rows at the sources are the shown ones
pub record Restored (table shown : List (List ℕ)) (targets sources : List ℕ)
    (before now : List (List ℕ)) (from to : ℕ) : Type 0 where
  pub count : length now ≡ length before
  pub lengths : (i : ℕ) → length (row_at now i) ≡ length (row_at before i)
  pub sums : (j c : ℕ) → j < length targets → from ≤ c → c < to
      → byte_at now (slice_index targets j) c ≡ combination (row_at table j) shown c
  pub kept : (i c : ℕ) → i < length sources → from ≤ c → c < to
      → byte_at now (slice_index sources i) c ≡ byte_at shown i c
  pub others : (i : ℕ) → ((j : ℕ) → j < length targets → slice_index targets j ≢ i)
      → ((j : ℕ) → j < length sources → slice_index sources j ≢ i)
      → row_at now i ≡ row_at before i

-- no source is a target
abbrev pub AreDisjoint : List ℕ → List ℕ → Type 0
AreDisjoint sources targets = (i j : ℕ) → i < length sources → j < length targets
    → slice_index sources i ≢ slice_index targets j
