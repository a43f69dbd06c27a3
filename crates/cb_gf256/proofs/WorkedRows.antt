-- Rows, their sums and tables of factors at worked values: what meets each definition, and for each part what breaks it alone.
use Rattle.std.proofs.Common.{◌≡◌, ℕ, zero, suc, ◌*◌, ◌<◌, List, [], ◌∷◌, get_or, replicate, refl, arith}
use Rattle.std.proofs.lemmas.Simd.{get_or-replicate}
use Rattle.cb_gf256.specs.Sum.{sum_over}
use Rattle.cb_gf256.specs.Product.{◌⊗◌}
use Rattle.cb_gf256.specs.Power.{power}
use Rattle.cb_gf256.specs.Row.{row_sum, scaled_row}
use Rattle.cb_gf256.specs.Rows.{row_at, rows_at, byte_at, HaveLength, AreRows}
use Rattle.cb_gf256.specs.Block.{cut_rows, with_row}
use Rattle.cb_gf256.specs.Corner.{corner}
use Rattle.cb_gf256.specs.Lanes.{HasLanes}
use Rattle.cb_gf256.specs.Closed.{IsClosed}
use Rattle.cb_gf256.specs.Combination.{combination, AreCombinations}
use Rattle.cb_gf256.specs.CodeWord.{IsCodeWord, syndrome}
use Rattle.cb_gf256.specs.InRange.{IsInRange}
use Rattle.cb_gf256.specs.Positions.{ArePositions}
use Rattle.cb_gf256.specs.Lagrange.{IsLagrangeFactor, differences, points}
use Rattle.cb_gf256.specs.Halves.{half_products}
use Rattle.cb_gf256.specs.Polynomial.{evaluated}

-- ---- sums and products of rows
row_sums : row_sum (1 ∷ 2 ∷ 255 ∷ []) (1 ∷ 4 ∷ 15 ∷ []) ≡ 0 ∷ 6 ∷ 240 ∷ []
row_sums = refl

scaled : scaled_row 0x02 (0x80 ∷ 0x01 ∷ []) ≡ 0x1D ∷ 0x02 ∷ []
unfolding ◌⊗◌
scaled = refl

sum_of_three : sum_over 3 (λ i. 2 * i) ≡ 6
sum_of_three = refl

cut : cut_rows 2 3 (1 ∷ 2 ∷ 3 ∷ 4 ∷ 5 ∷ 6 ∷ []) ≡ (1 ∷ 2 ∷ 3 ∷ []) ∷ (4 ∷ 5 ∷ 6 ∷ []) ∷ []
cut = refl

written : with_row ((1 ∷ 2 ∷ []) ∷ (3 ∷ 4 ∷ []) ∷ []) 1 (7 ∷ 8 ∷ []) ≡ (1 ∷ 2 ∷ []) ∷ (7 ∷ 8 ∷ []) ∷ []
unfolding with_row
written = refl

in_the_corner : corner 2 1 ((1 ∷ 2 ∷ 3 ∷ []) ∷ (4 ∷ 5 ∷ 6 ∷ []) ∷ []) ≡ (1 ∷ 2 ∷ []) ∷ []
in_the_corner = refl

chosen : rows_at ((1 ∷ []) ∷ (2 ∷ []) ∷ (3 ∷ []) ∷ []) (2 ∷ 0 ∷ []) ≡ (3 ∷ []) ∷ (1 ∷ []) ∷ []
chosen = refl

-- 1 + 2 x + 3 x^2 at 2: 01 + 04 + 0C
at_two : evaluated (0x01 ∷ 0x02 ∷ 0x03 ∷ []) 0x02 ≡ 0x09
unfolding ◌⊗◌
at_two = refl

halves_of_two : get_or (half_products 0x02) 8 0 ≡ 0x10
unfolding ◌⊗◌ half_products
halves_of_two = refl

high_half_of_two : get_or (half_products 0x02) 24 0 ≡ 0x1D
unfolding ◌⊗◌ half_products
high_half_of_two = refl

-- ---- rows of bytes of equal length
pub no_longer_row : AreRows ((1 ∷ []) ∷ (2 ∷ 3 ∷ []) ∷ []) → ⊥
no_longer_row h = absurd (omega (arith, h.equal_lengths 1 [] (omega arith)))

pub no_larger_byte : AreRows ((1 ∷ []) ∷ (256 ∷ []) ∷ []) → ⊥
no_larger_byte h = absurd (omega (arith, h.bytes 1 [] (omega arith) 0 0 (omega arith)))

-- ---- the sums of a table: C8 01 + 8F 01 = 47
abbrev shown : List (List ℕ)
shown = (0x01 ∷ []) ∷ (0x01 ∷ []) ∷ []

abbrev table : List (List ℕ)
table = (0xC8 ∷ 0x8F ∷ []) ∷ []

sum_is_47 : combination (0xC8 ∷ 0x8F ∷ []) shown 0 ≡ 0x47
unfolding ◌⊗◌
sum_is_47 = refl

first_of_table : (j column : ℕ) → j < 1 → column < 1 → byte_at ((0x47 ∷ []) ∷ []) j column ≡ combination (row_at table j) shown column
unfolding ◌⊗◌
first_of_table zero zero p q = refl
first_of_table zero (suc column) p q = absurd (omega arith)
first_of_table (suc j) column p q = absurd (omega arith)

one_row : HaveLength 1 ((0x47 ∷ []) ∷ [])
one_row zero d h = refl
one_row (suc k) d h = absurd (omega arith)

pub is_the_sum : AreCombinations table shown ((0x47 ∷ []) ∷ [])
is_the_sum = record { count = refl; equal_lengths = one_row; values = first_of_table }

pub no_sum_is_left_out : AreCombinations table shown [] → ⊥
no_sum_is_left_out h = absurd (omega (arith, h.count))

pub no_longer_sum : AreCombinations table shown ((0x47 ∷ 0x00 ∷ []) ∷ []) → ⊥
no_longer_sum h = absurd (omega (arith, h.equal_lengths 0 [] (omega arith)))

pub no_other_sum : AreCombinations table shown ((0x46 ∷ []) ∷ []) → ⊥
no_other_sum h = absurd (omega (arith, h.values 0 0 (omega arith) (omega arith), sum_is_47))

-- ---- a code word
pub no_parity_more : IsCodeWord 2 1 ((0x01 ∷ []) ∷ (0x00 ∷ []) ∷ (0xC8 ∷ []) ∷ (0xC9 ∷ []) ∷ []) → ⊥
no_parity_more h = absurd (omega (arith, h.count))

-- rows without a byte, but for a last one
pub no_longer_parity : IsCodeWord 1 1 ([] ∷ (0x01 ∷ []) ∷ []) → ⊥
no_longer_parity h = absurd (omega (arith, h.equal_lengths 1 [] (omega arith)))

-- the sum of all rows is 0, and the sum with the powers of 2 is not: 01 + 04 00 + 08 01
second_syndrome : syndrome 1 ((0x01 ∷ []) ∷ (0x00 ∷ []) ∷ (0x00 ∷ []) ∷ (0x01 ∷ []) ∷ []) 0 ≡ 0x09
unfolding ◌⊗◌ power
second_syndrome = refl

pub no_second_syndrome : IsCodeWord 2 2 ((0x01 ∷ []) ∷ (0x00 ∷ []) ∷ (0x00 ∷ []) ∷ (0x01 ∷ []) ∷ []) → ⊥
no_second_syndrome h = absurd (omega (arith, h.syndromes_zero 1 0 (omega arith) (omega arith), second_syndrome))

-- the first column is one of a code word, and the second is not
last_column : syndrome 0 ((0x01 ∷ 0x01 ∷ []) ∷ (0x01 ∷ 0x00 ∷ []) ∷ []) 1 ≡ 0x01
unfolding ◌⊗◌ power
last_column = refl

pub no_last_column : IsCodeWord 1 1 ((0x01 ∷ 0x01 ∷ []) ∷ (0x01 ∷ 0x00 ∷ []) ∷ []) → ⊥
no_last_column h = absurd (omega (arith, h.syndromes_zero 0 1 (omega arith) (omega arith), last_column))

-- ---- the codes that are built
pub least_code : IsInRange 1 1
least_code = record { data_least = omega arith; data_most = omega arith; parities_least = omega arith; parities_most = omega arith }

pub greatest_code : IsInRange 16 4
greatest_code = record { data_least = omega arith; data_most = omega arith; parities_least = omega arith; parities_most = omega arith }

pub no_code_without_data : IsInRange 0 1 → ⊥
no_code_without_data h = absurd (omega (arith, h.data_least))

pub no_longer_code : IsInRange 17 1 → ⊥
no_longer_code h = absurd (omega (arith, h.data_most))

pub no_code_without_parities : IsInRange 1 0 → ⊥
no_code_without_parities h = absurd (omega (arith, h.parities_least))

pub no_code_of_five_parities : IsInRange 1 5 → ⊥
no_code_of_five_parities h = absurd (omega (arith, h.parities_most))

-- ---- positions
pub no_position_too_few : ArePositions 4 2 (1 ∷ []) → ⊥
no_position_too_few h = absurd (omega (arith, h.count))

pub no_position_twice : ArePositions 4 2 (1 ∷ 1 ∷ []) → ⊥
no_position_twice h = absurd (omega (arith, h.ascend 0 (omega arith)))

pub no_position_beyond : ArePositions 4 2 (1 ∷ 4 ∷ []) → ⊥
no_position_beyond h = absurd (omega (arith, h.below 1 0 (omega arith)))

-- ---- Lagrange's factors for the lost positions 2 and 3: C8 is the factor of position 0 in row 2
abbrev pub lost_two_three : ℕ → ℕ
lost_two_three zero = 2
lost_two_three (suc m) = 3

quotient_is : differences 2 (points lost_two_three) 0 (power 2 2) ⊗ 0xC8 ≡ differences 2 (points lost_two_three) 0 (power 2 0)
unfolding ◌⊗◌ power
quotient_is = refl

pub factor_C8 : IsLagrangeFactor 2 lost_two_three 0 0 0xC8
factor_C8 = record { byte = omega arith; quotient = quotient_is }

others_quotient : differences 2 (points lost_two_three) 0 (power 2 2) ⊗ 0xC9 ≡ 0x05
unfolding ◌⊗◌ power
others_quotient = refl

own_difference : differences 2 (points lost_two_three) 0 (power 2 0) ≡ 0x09
unfolding ◌⊗◌ power
own_difference = refl

pub no_other_factor : IsLagrangeFactor 2 lost_two_three 0 0 0xC9 → ⊥
no_other_factor h = absurd (omega (arith, h.quotient, others_quotient, own_difference))

-- ---- a closed table: 1 + 0 and 2 + 3 are 1
abbrev closed_table : List (List ℕ)
closed_table = (1 ∷ 2 ∷ []) ∷ (0 ∷ 3 ∷ []) ∷ []

ones_there : (i : ℕ) → i < 2 → sum_over 2 (λ j. byte_at closed_table j i) ≡ 1
ones_there zero h = refl
ones_there (suc zero) h = refl
ones_there (suc (suc i)) h = absurd (omega arith)

pub is_closed_table : IsClosed closed_table
is_closed_table = record { some = omega arith; ones = ones_there }

pub no_table_without_rows : IsClosed [] → ⊥
no_table_without_rows h = absurd (omega (arith, h.some))

-- 2 + 2 is 0
pub no_table_of_other_ones : IsClosed ((1 ∷ 2 ∷ []) ∷ (0 ∷ 2 ∷ []) ∷ []) → ⊥
no_table_of_other_ones h = absurd (omega (arith, h.ones 1 (omega arith)))

-- ---- a block of sevens
pub sevens : HasLanes (replicate 64 7) (λ l. 7)
sevens = record { count = refl; each = λ l h. get_or-replicate 64 l 7 0 h }

pub no_block_of_63 : HasLanes (replicate 63 7) (λ l. get_or (replicate 63 7) l 0) → ⊥
no_block_of_63 h = absurd (omega (arith, h.count))

pub no_other_lanes : HasLanes (replicate 64 7) (λ l. l) → ⊥
no_other_lanes h = absurd (omega (arith, h.each 0 (omega arith)))
