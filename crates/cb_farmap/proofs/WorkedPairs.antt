-- Pairs of buckets as worked examples: what meets the definitions, and what breaks a part alone.
use Rattle.std.proofs.Common.{◌≡◌, ℕ, zero, suc, List, [], ◌∷◌, length, Some, None, refl, arith}
use Rattle.std.specs.FinMap as finite
use Rattle.std.specs.Cmp.{nat_cmp_total}
use Rattle.std.specs.List.{flat_map}
use Rattle.std.specs.Ordering.{nat_cmp}
use Rattle.cb_farmap.specs.BucketChanges.{dropped_at, put_at, value_in}
use Rattle.cb_farmap.specs.Pairs.{AreAtHome, AreBuckets, NoKeyTwice, Pair, dropped, map_of_pairs, place_of}
use Rattle.cb_farmap.specs.Plans.{objects_to}

-- three pairs
abbrev three : List Pair
three = (5, 6) ∷ (69, 7) ∷ (133, 8) ∷ []

-- ---- where a key stands
first_place : place_of 5 three ≡ Some 0
first_place = refl

last_place : place_of 133 three ≡ Some 2
last_place = refl

no_place : place_of 6 three ≡ None
no_place = refl

value_there : value_in three (place_of 69 three) ≡ Some 7
value_there = refl

-- ---- a pair is put: in the place of its key, or behind the others
put_over : put_at three (69, 9) (place_of 69 three) ≡ (5, 6) ∷ (69, 9) ∷ (133, 8) ∷ []
put_over = refl

put_behind : put_at three (6, 9) (place_of 6 three) ≡ (5, 6) ∷ (69, 7) ∷ (133, 8) ∷ (6, 9) ∷ []
put_behind = refl

-- ---- a pair is dropped: the last one goes into the gap, or was the one
first_dropped : dropped_at three (place_of 5 three) ≡ (133, 8) ∷ (69, 7) ∷ []
first_dropped = refl

last_dropped : dropped_at three (place_of 133 three) ≡ (5, 6) ∷ (69, 7) ∷ []
last_dropped = refl

none_dropped : dropped_at three (place_of 6 three) ≡ three
none_dropped = refl

alone_dropped : dropped ((5, 6) ∷ []) 0 ≡ []
alone_dropped = refl

-- ---- how many objects of 64 pairs are read
none_to_read : objects_to 0 None ≡ 0
none_to_read = refl

full_to_read : objects_to 64 None ≡ 1
full_to_read = refl

more_to_read : objects_to 65 None ≡ 2
more_to_read = refl

up_to_first : objects_to 65 (Some 63) ≡ 1
up_to_first = refl

up_to_second : objects_to 65 (Some 64) ≡ 2
up_to_second = refl

-- ---- two buckets
abbrev two : List (List Pair)
two = ((2, 1) ∷ (4, 3) ∷ []) ∷ ((1, 5) ∷ []) ∷ []

abbrev one_key : List Pair
one_key = (1, 5) ∷ []

single_one : NoKeyTwice one_key
single_one i j a b same = omega (arith, a, b)

single_two : NoKeyTwice ((2, 1) ∷ (4, 3) ∷ [])
single_two zero zero a b same = refl
single_two zero (suc zero) a b same = absurd (let z : 2 ≡ 4 = same in omega (arith, z))
single_two (suc zero) zero a b same = absurd (let z : 4 ≡ 2 = same in omega (arith, z))
single_two (suc zero) (suc zero) a b same = refl
single_two zero (suc (suc j)) a b same = absurd (omega (arith, b))
single_two (suc zero) (suc (suc j)) a b same = absurd (omega (arith, b))
single_two (suc (suc i)) j a b same = absurd (omega (arith, a))

two_are : AreBuckets two
two_are = record { home = ((refl, (refl, tt)), ((refl, tt), tt)); single = (single_two, (single_one, tt)) }

-- a key in the other bucket
abbrev away : List (List Pair)
away = ((1, 5) ∷ []) ∷ [] ∷ []

away_alone : NoKeyTwice []
away_alone i j a b same = absurd (omega (arith, a))

away_is_single : NoKeyTwice ((1, 5) ∷ []) × NoKeyTwice []
away_is_single = (single_one, away_alone)

away_not_home : AreAtHome (length away) 0 away → ⊥
away_not_home home = let z : 1 ≡ 0 = home.0.0 in omega (arith, z)

-- a key that stands twice in its own
abbrev double : List (List Pair)
double = ((2, 1) ∷ (2, 3) ∷ []) ∷ [] ∷ []

double_home : AreAtHome (length double) 0 double
double_home = ((refl, (refl, tt)), (tt, tt))

double_not_single : NoKeyTwice ((2, 1) ∷ (2, 3) ∷ []) → ⊥
double_not_single single = let z : 0 ≡ 1 = single 0 1 (omega arith) (omega arith) refl in omega (arith, z)

-- ---- and their map
told : (key : ℕ) → finite.get (map_of_pairs two) key ≡ finite.find nat_cmp key (flat_map (λ pairs. pairs) two)
told key = finite.get-from_entries nat_cmp_total (flat_map (λ pairs. pairs) two) key

one_told : finite.get (map_of_pairs two) 1 ≡ Some 5
one_told = told 1

four_told : finite.get (map_of_pairs two) 4 ≡ Some 3
four_told = told 4

none_told : finite.get (map_of_pairs two) 3 ≡ None
none_told = told 3
