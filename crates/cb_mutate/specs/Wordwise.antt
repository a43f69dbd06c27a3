-- Which words of an object a write stores.
use Rattle.std.specs.Prelude.{◌≡◌, ℕ, ◌+◌, ◌*◌, ◌^◌, ◌<◌, List, slice_index}

-- the word of this number begins before the end of so many bytes from the byte number `at` on, and
-- ends after their beginning
abbrev pub IsReached : ℕ → ℕ → ℕ → Type 0
IsReached i at count = (8 * i < at + count) × (at < 8 * i + 8)

-- of the new words those that these bytes reach are words of 64 bits, and each other is the old one
pub record IsWordwise (old : List ℕ) (at count : ℕ) (new : List ℕ) : Type 0 where
  pub small : (i : ℕ) → IsReached i at count → slice_index new i < 2 ^ 64
  pub others : (i : ℕ) → ¬ (IsReached i at count) → slice_index new i ≡ slice_index old i
