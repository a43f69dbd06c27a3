-- The bytes of a pair, and those of an object that has one pair.
use Rattle.std.specs.Prelude.{ℕ, List, ◌++◌, replicate}
use Rattle.byteorder.specs.Endian.{little_bytes}
use Rattle.cb_farmap.specs.Pairs.{Pair}

-- the key, and then the value
abbrev pub pair_bytes : Pair → List ℕ
pair_bytes p = little_bytes 8 p.0 ++ little_bytes 8 p.1

-- a pair, and zeros after it
abbrev pub object_bytes : Pair → List ℕ
object_bytes p = pair_bytes p ++ replicate 1008 0
