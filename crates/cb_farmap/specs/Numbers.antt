-- The numbers and the pairs of an object of 1,024 bytes: each number has eight bytes, the lowest
-- first, and a pair is its key and then its value.
use Rattle.std.specs.Prelude.{ℕ, ◌+◌, ◌*◌, List, map}
use Rattle.std.specs.List.{range_with_len}
use Rattle.byteorder.specs.Endian.{little_from}

-- the number with this index
abbrev pub number_at : List ℕ → ℕ → ℕ
number_at bytes i = little_from (8 * i) 8 bytes

-- the 128 numbers
abbrev pub numbers : List ℕ → List ℕ
numbers bytes = map (number_at bytes) (range_with_len 0 128)

-- the pair with this index
abbrev pub pair_at : List ℕ → ℕ → ℕ × ℕ
pair_at bytes p = (number_at bytes (2 * p), number_at bytes (2 * p + 1))

-- the 64 pairs
abbrev pub pairs : List ℕ → List (ℕ × ℕ)
pairs bytes = map (pair_at bytes) (range_with_len 0 64)
