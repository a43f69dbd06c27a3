-- The words in which bytes are kept.
use Rattle.std.specs.Prelude.{◌≡◌, ℕ, ◌+◌, ◌*◌, ◌^◌, ◌<◌, List, length, slice_index}
use Rattle.std.specs.Int.{to_le_bytes, w64}
use Rattle.cb_world.specs.Memory.{words_for, bytes_in, IsPacked}

-- the word's eight bytes are those from the byte number 8 * i on, and zeros past the last one
abbrev pub IsWordAt : List ℕ → ℕ → ℕ → Type 0
IsWordAt bytes i word =
    (j : ℕ) → j < 8 → slice_index (to_le_bytes w64 word) j ≡ slice_index bytes (8 * i + j)

-- the words hold these bytes, the first one lowest, and zeros past the last one
pub record AreWordsOf (bytes words : List ℕ) : Type 0 where
  pub count : length words ≡ words_for (length bytes)
  pub first_bytes : bytes_in words (length bytes) ≡ bytes
  pub packed : IsPacked (length bytes) words
  pub below : (i : ℕ) → slice_index words i < 2 ^ 64
