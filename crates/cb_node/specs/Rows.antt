-- The rows of one node, by their keys.
use Rattle.std.specs.Prelude.{ℕ, List}
use Rattle.std.specs.Coded.{Coded, coded_ℕ, coded_list}
use Rattle.std.specs.Ordering.{nat_cmp}
use Rattle.std.specs.FinMap as map

-- a finite map from keys to rows, each a list of bytes
abbrev pub RowsByKey : Type 0
RowsByKey = map.FinMap nat_cmp (List ℕ)

abbrev pub rows_code : Coded RowsByKey
rows_code = map.code coded_ℕ (coded_list coded_ℕ)
