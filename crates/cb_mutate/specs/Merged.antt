-- One write on a word of eight bytes.
use Rattle.std.specs.Prelude.{◌≡◌, ◌⊎◌, ℕ, ◌+◌, ◌-◌, ◌<◌, ◌≤◌, List, length, slice_index}
use Rattle.std.specs.Int.{to_le_bytes, w64}

-- the bytes below n, of eight that begin at the byte `first` of an object, with one write
pub record IsMixed (n : ℕ) (old : List ℕ) (first at : ℕ) (bytes : List ℕ) (new : List ℕ) : Type 0
  where
    pub sized : length new ≡ 8
    pub bytes_below : (j : ℕ) → slice_index new j < 256
    pub inside : (j : ℕ) → j < n → at ≤ first + j → first + j < at + length bytes
        → slice_index new j ≡ slice_index bytes (first + j - at)
    pub outside : (j : ℕ) → j < 8 → (n ≤ j) ⊎ ((first + j < at) ⊎ (at + length bytes ≤ first + j))
        → slice_index new j ≡ slice_index old j

-- the word with one write
abbrev pub IsWordMerged : ℕ → ℕ → ℕ → List ℕ → ℕ → Type 0
IsWordMerged old first at bytes new =
    IsMixed 8 (to_le_bytes w64 old) first at bytes (to_le_bytes w64 new)
