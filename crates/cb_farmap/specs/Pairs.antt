-- Pairs of a bucket, and the map that buckets of pairs have together.
use Rattle.std.specs.Prelude.{◌≡◌, ℕ, ◌+◌, ◌-◌, ◌%◌, ◌<◌, ◌==◌, List, [], ◌∷◌, length, get_or, slice_set, take, Option, Some, None}
use Rattle.std.specs.FinMap as map
use Rattle.std.specs.List.{AllByRecursion, flat_map, position_from}
use Rattle.std.specs.Ordering.{nat_cmp}

-- a key and its value
abbrev pub Pair : Type 0
Pair = ℕ × ℕ

-- the pair with this index
abbrev pub pair_of : List Pair → ℕ → Pair
pair_of pairs i = get_or pairs i (0, 0)

-- the index of the first pair with this key
abbrev pub place_of : ℕ → List Pair → Option ℕ
place_of key pairs = position_from (λ (p : Pair). p.0 == key) 0 pairs

-- no key stands twice
abbrev pub NoKeyTwice : List Pair → Type 0
NoKeyTwice pairs = (i j : ℕ) → i < length pairs → j < length pairs
    → (pair_of pairs i).0 ≡ (pair_of pairs j).0 → i ≡ j

-- the pairs without the one with this index: the last one is in its place
abbrev pub dropped : List Pair → ℕ → List Pair
dropped pairs i = take (length pairs - 1) (slice_set pairs i (pair_of pairs (length pairs - 1)))

-- the keys of these pairs belong into the bucket with this number, of so many
abbrev pub BelongTo : ℕ → ℕ → List Pair → Type 0
BelongTo many i pairs = AllByRecursion (λ (p : Pair). p.0 % many ≡ i) pairs

-- and so for all buckets from this one on
abbrev pub AreAtHome : ℕ → ℕ → List (List Pair) → Type 0
AreAtHome many i [] = Unit {0}
AreAtHome many i (pairs ∷ buckets) = BelongTo many i pairs × AreAtHome many (i + 1) buckets

-- the map of all pairs
abbrev pub map_of_pairs : List (List Pair) → map.FinMap nat_cmp ℕ
map_of_pairs buckets = map.from_entries (flat_map (λ pairs. pairs) buckets)

-- each key stands in its own bucket, and once
pub record AreBuckets (buckets : List (List Pair)) : Type 0 where
  pub home : AreAtHome (length buckets) 0 buckets
  pub single : AllByRecursion NoKeyTwice buckets

-- none of the pairs has the key
abbrev pub HasNot : ℕ → List Pair → Type 0
HasNot key pairs = (i : ℕ) → i < length pairs → (pair_of pairs i).0 ≡ key → ⊥

-- this one has it, and none before
abbrev pub IsFirst : ℕ → List Pair → ℕ → Type 0
IsFirst key pairs i = (i < length pairs) × ((pair_of pairs i).0 ≡ key)
    × ((j : ℕ) → j < i → (pair_of pairs j).0 ≡ key → ⊥)

-- where the key stands first, if anywhere
abbrev pub IsSought : ℕ → List Pair → Option ℕ → Type 0
IsSought key pairs None = HasNot key pairs
IsSought key pairs (Some i) = IsFirst key pairs i
