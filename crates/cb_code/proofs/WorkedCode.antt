-- Tables at worked values: one that meets the definition, and for each part one of one data row and one parity that breaks it alone.
use Rattle.std.proofs.Common.{◌≡◌, ℕ, zero, suc, ◌^◌, ◌+◌, ◌<◌, get_or, List, [], ◌∷◌, length, replicate, refl, arith}
use Rattle.cb_gf256.specs.Product.{◌⊗◌}
use Rattle.cb_gf256.specs.Power.{power}
use Rattle.cb_gf256.specs.Rows.{row_at, byte_at, HaveLength}
use Rattle.cb_gf256.specs.CodeWord.{syndrome}
use Rattle.cb_gf256.specs.Combination.{combination}
use Rattle.cb_gf256.specs.InRange.{IsInRange}
use Rattle.cb_gf256.specs.Lagrange.{differences, points}
use Rattle.cb_code.specs.Coefficients.{AreCoefficients, IsCode}
use Rattle.cb_code.proofs.Tables.{coefficients_of, is_code}

-- ---- the table of two data rows and two parities: each coefficient is Lagrange's factor of a data
-- position for a parity's
abbrev parities : List ℕ
parities = 2 ∷ 3 ∷ []

abbrev at_parity : ℕ → ℕ
at_parity e = get_or parities e 0

abbrev places : List (List ℕ)
places =
    (0xC8 ∷ 0x8F ∷ replicate 14 0) ∷ (0xC9 ∷ 0x8E ∷ replicate 14 0) ∷ replicate 16 0 ∷ replicate 16 0 ∷ []

two_by_two : IsInRange 2 2
two_by_two = record { data_least = omega arith; data_most = omega arith; parities_least = omega arith; parities_most = omega arith }

parity_at : (e : ℕ) → e < 2 → at_parity e ≡ 2 + e
parity_at zero l = refl
parity_at (suc zero) l = refl
parity_at (suc (suc e)) l = absurd (omega arith)

sixteen_places : HaveLength 16 places
sixteen_places zero d l = refl
sixteen_places (suc zero) d l = refl
sixteen_places (suc (suc zero)) d l = refl
sixteen_places (suc (suc (suc zero))) d l = refl
sixteen_places (suc (suc (suc (suc k)))) d l = absurd (omega arith)

quotients : (m i : ℕ) → m < 2 → i < 2
    → differences 2 (points at_parity) m (power 2 (at_parity m)) ⊗ byte_at places m i ≡ differences 2 (points at_parity) m (power 2 i)
unfolding ◌⊗◌ power
quotients zero zero p q = refl
quotients zero (suc zero) p q = refl
quotients (suc zero) zero p q = refl
quotients (suc zero) (suc zero) p q = refl
quotients (suc (suc m)) i p q = absurd (omega arith)
quotients m (suc (suc i)) p q = absurd (omega arith)

factor_bytes : (m i : ℕ) → m < 2 → i < 2 → byte_at places m i < 256
factor_bytes zero zero p q = omega arith
factor_bytes zero (suc zero) p q = omega arith
factor_bytes (suc zero) zero p q = omega arith
factor_bytes (suc zero) (suc zero) p q = omega arith
factor_bytes (suc (suc m)) i p q = absurd (omega arith)
factor_bytes m (suc (suc i)) p q = absurd (omega arith)

pub of_two_and_two : AreCoefficients 2 2 ((0xC8 ∷ 0x8F ∷ []) ∷ (0xC9 ∷ 0x8E ∷ []) ∷ [])
of_two_and_two =
    coefficients_of 2 2 parities places two_by_two refl parity_at refl sixteen_places
    (λ m i p q. record { byte = factor_bytes m i p q; quotient = quotients m i p q })

pub is_the_code : IsCode ((0xC8 ∷ 0x8F ∷ []) ∷ (0xC9 ∷ 0x8E ∷ []) ∷ [])
is_the_code = is_code 2 2 ((0xC8 ∷ 0x8F ∷ []) ∷ (0xC9 ∷ 0x8E ∷ []) ∷ []) two_by_two of_two_and_two

-- ---- tables that are not

pub no_table_without_rows : AreCoefficients 1 1 [] → ⊥
no_table_without_rows h = absurd (omega (arith, h.parities))

pub no_row_of_two : AreCoefficients 1 1 ((0x01 ∷ 0x00 ∷ []) ∷ []) → ⊥
no_row_of_two h = absurd (omega (arith, h.positions 0 [] (omega arith)))

pub no_larger_coefficient : AreCoefficients 1 1 ((0x101 ∷ []) ∷ []) → ⊥
no_larger_coefficient h = absurd (omega (arith, h.bytes 0 [] (omega arith) 0 0 (omega arith)))

-- with the coefficient 2 the data 01 have the parity 02, and 01 + 02 is not 00
abbrev shown : List (List ℕ)
shown = (0x01 ∷ []) ∷ []

one_long : HaveLength 1 shown
one_long zero d h = refl
one_long (suc i) d h = absurd (omega arith)

all_bytes : (i : ℕ) (d : List ℕ) → i < length shown → (c z : ℕ) → c < length (get_or shown i d) → get_or (get_or shown i d) c z < 2 ^ 8
all_bytes zero d h zero z k = omega arith
all_bytes zero d h (suc c) z k = absurd (omega arith)
all_bytes (suc i) d h c z k = absurd (omega arith)

doubled_long : HaveLength 1 ((0x02 ∷ []) ∷ [])
doubled_long zero d h = refl
doubled_long (suc i) d h = absurd (omega arith)

doubled : (j column : ℕ) → j < 1 → column < 1 → byte_at ((0x02 ∷ []) ∷ []) j column ≡ combination (row_at ((0x02 ∷ []) ∷ []) j) shown column
unfolding ◌⊗◌
doubled zero zero p q = refl
doubled zero (suc column) p q = absurd (omega arith)
doubled (suc j) column p q = absurd (omega arith)

sum_is_three : syndrome 0 ((0x01 ∷ []) ∷ (0x02 ∷ []) ∷ []) 0 ≡ 0x03
unfolding ◌⊗◌ power
sum_is_three = refl

pub no_other_coefficient : AreCoefficients 1 1 ((0x02 ∷ []) ∷ []) → ⊥
no_other_coefficient h =
    let word = h.make_words shown ((0x02 ∷ []) ∷ []) refl (record { equal_lengths = one_long; bytes = λ i d q c z k. all_bytes i d q c z k }) (record { count = refl; equal_lengths = doubled_long; values = doubled }) in
    absurd (omega (arith, word.syndromes_zero 0 0 (omega arith) (omega arith), sum_is_three))

-- a table without rows is that of no code
pub no_code_without_parities : IsCode [] → ⊥
no_code_without_parities h = absurd (omega (arith, h.in_range.parities_least))

pub no_code_of_larger_coefficients : IsCode ((0x101 ∷ []) ∷ []) → ⊥
no_code_of_larger_coefficients h = no_larger_coefficient h.coefficients
