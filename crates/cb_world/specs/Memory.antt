-- Memory is a list of words of eight bytes. An object of some bytes takes as many words from its
-- place on as hold them.
use Rattle.std.specs.Prelude.{◌≡◌, ℕ, zero, suc, ◌+◌, ◌*◌, ◌/◌, ◌%◌, ◌<◌, ◌≤◌, List, [], ◌∷◌, length, map, slice_index, slice_set}
use Rattle.std.specs.List.{range_with_len}
use Rattle.std.specs.Int.{to_le_bytes, w64}

-- n words from the place p on
unfoldable pub window : List ℕ → ℕ → ℕ → List ℕ
window memory p zero = []
window memory p (suc n) = slice_index memory p ∷ window memory (p + 1) n

-- the memory with these words from the place p on
unfoldable pub put : List ℕ → ℕ → List ℕ → List ℕ
put memory p [] = memory
put memory p (x ∷ xs) = put (slice_set memory p x) (p + 1) xs

-- how many words hold so many bytes
abbrev pub words_for : ℕ → ℕ
words_for len = (len + 7) / 8

-- the byte at a position: a word holds eight, the first one lowest
abbrev pub memory_byte : List ℕ → ℕ → ℕ
memory_byte words p = slice_index (to_le_bytes w64 (slice_index words (p / 8))) (p % 8)

-- the first bytes of some words
unfoldable pub bytes_in : List ℕ → ℕ → List ℕ
bytes_in words len = map (memory_byte words) (range_with_len 0 len)

-- the bytes of the words past the first len are 0
abbrev pub IsPacked : ℕ → List ℕ → Type 0
IsPacked len words = (p : ℕ) → len ≤ p → p < 8 * length words → memory_byte words p ≡ 0
