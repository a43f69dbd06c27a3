-- Solutions and weights at worked values: what meets each definition, and for each part what breaks it alone.
use Rattle.std.proofs.Common.{◌≡◌, ℕ, zero, suc, ◌^◌, ◌+◌, ◌<◌, ◌==◌, if◌then◌else◌, get_or, slice_index, List, [], ◌∷◌, length, All, refl, ap, arith}
use Rattle.cb_gf256.specs.Product.{◌⊗◌}
use Rattle.cb_gf256.specs.Power.{power}
use Rattle.cb_gf256.specs.Rows.{byte_at, HaveLength}
use Rattle.cb_gf256.specs.CodeWord.{IsCodeWord, syndrome}
use Rattle.cb_gf256.specs.Combination.{combination}
use Rattle.cb_gf256.specs.Positions.{ArePositions}
use Rattle.cb_gf256.specs.Lagrange.{differences, points}
use Rattle.cb_gf256.proofs.PublicLaws.{present, lost, splits}
use Rattle.cb_erase.specs.Weights.{IsSolution, AreWeights}
use Rattle.cb_erase.proofs.Words.{weights_of}

-- the word 05 05
abbrev word : List (List ℕ)
word = (0x05 ∷ []) ∷ (0x05 ∷ []) ∷ []

one_long : HaveLength 1 word
one_long zero d h = refl
one_long (suc zero) d h = refl
one_long (suc (suc i)) d h = absurd (omega arith)

no_syndrome : (j column : ℕ) → j < 1 → column < 1 → syndrome j word column ≡ 0
unfolding ◌⊗◌ power
no_syndrome zero zero p q = refl
no_syndrome zero (suc column) p q = absurd (omega arith)
no_syndrome (suc j) column p q = absurd (omega arith)

is_word : IsCodeWord 1 1 word
is_word = record { count = refl; equal_lengths = one_long; syndromes_zero = no_syndrome }

pub solution : IsSolution 1 1 (1 ∷ []) ((0x05 ∷ []) ∷ []) word
solution = record { is_word = is_word; agrees = refl }

six : (xs : List (List ℕ)) → xs ≡ (0x06 ∷ []) ∷ [] → byte_at xs 0 0 ≡ 6
six xs e = ap (λ rows. byte_at rows 0 0) e

pub no_solution_of_other_rows : IsSolution 1 1 (1 ∷ []) ((0x06 ∷ []) ∷ []) word → ⊥
no_solution_of_other_rows h = absurd (omega (arith, six ((0x05 ∷ []) ∷ []) h.agrees))

sum_is_one : syndrome 0 ((0x04 ∷ []) ∷ (0x05 ∷ []) ∷ []) 0 ≡ 0x01
unfolding ◌⊗◌ power
sum_is_one = refl

pub no_solution_without_a_word : IsSolution 1 1 (1 ∷ []) ((0x05 ∷ []) ∷ []) ((0x04 ∷ []) ∷ (0x05 ∷ []) ∷ []) → ⊥
no_solution_without_a_word h = absurd (omega (arith, h.is_word.syndromes_zero 0 0 (omega arith) (omega arith), sum_is_one))

-- ---- the weights of two data rows and two parities where rows 1 and 2 are present
abbrev weights : List (List ℕ)
weights = (0xBB ∷ 0xD2 ∷ []) ∷ (1 ∷ 0 ∷ []) ∷ (0 ∷ 1 ∷ []) ∷ (0xBA ∷ 0xD3 ∷ []) ∷ []

one_and_two : ArePositions 4 2 (1 ∷ 2 ∷ [])
one_and_two = record { count = refl; ascend = ascending; below = below_four }
  where
    ascending : (i : ℕ) → i + 1 < 2 → slice_index (1 ∷ 2 ∷ []) i < slice_index (1 ∷ 2 ∷ []) (i + 1)
    ascending zero l = omega arith
    ascending (suc i) l = absurd (omega arith)

    below_four : All (λ p. p < 4) (1 ∷ 2 ∷ [])
    below_four zero d l = omega arith
    below_four (suc zero) d l = omega arith
    below_four (suc (suc i)) d l = absurd (omega arith)

two_factors : HaveLength 2 weights
two_factors zero d l = refl
two_factors (suc zero) d l = refl
two_factors (suc (suc zero)) d l = refl
two_factors (suc (suc (suc zero))) d l = refl
two_factors (suc (suc (suc (suc k)))) d l = absurd (omega arith)

weight_bytes : (i : ℕ) (d : List ℕ) → i < 4 → (c z : ℕ) → c < length (get_or weights i d) → get_or (get_or weights i d) c z < 2 ^ 8
weight_bytes zero d h zero z k = omega arith
weight_bytes zero d h (suc zero) z k = omega arith
weight_bytes (suc zero) d h zero z k = omega arith
weight_bytes (suc zero) d h (suc zero) z k = omega arith
weight_bytes (suc (suc zero)) d h zero z k = omega arith
weight_bytes (suc (suc zero)) d h (suc zero) z k = omega arith
weight_bytes (suc (suc (suc zero))) d h zero z k = omega arith
weight_bytes (suc (suc (suc zero))) d h (suc zero) z k = omega arith
weight_bytes i d h (suc (suc c)) z k = absurd (omega (arith, k, two_factors i d h))
weight_bytes (suc (suc (suc (suc i)))) d h c z k = absurd (omega arith)

units : (i j : ℕ) → i < 2 → j < 2 → byte_at weights (present i) j ≡ (if j == i then 1 else 0)
units zero zero p q = refl
units zero (suc zero) p q = refl
units (suc zero) zero p q = refl
units (suc zero) (suc zero) p q = refl
units (suc (suc i)) j p q = absurd (omega arith)
units i (suc (suc j)) p q = absurd (omega arith)

quotients : (e i : ℕ) → e < 2 → i < 2
    → differences 2 (points lost) e (power 2 (lost e)) ⊗ byte_at weights (lost e) i ≡ differences 2 (points lost) e (power 2 (present i))
unfolding ◌⊗◌ power
quotients zero zero p q = refl
quotients zero (suc zero) p q = refl
quotients (suc zero) zero p q = refl
quotients (suc zero) (suc zero) p q = refl
quotients (suc (suc e)) i p q = absurd (omega arith)
quotients e (suc (suc i)) p q = absurd (omega arith)

factor_bytes : (e i : ℕ) → e < 2 → i < 2 → byte_at weights (lost e) i < 256
factor_bytes zero zero p q = omega arith
factor_bytes zero (suc zero) p q = omega arith
factor_bytes (suc zero) zero p q = omega arith
factor_bytes (suc zero) (suc zero) p q = omega arith
factor_bytes (suc (suc e)) i p q = absurd (omega arith)
factor_bytes e (suc (suc i)) p q = absurd (omega arith)

pub of_rows_one_and_two : AreWeights 2 2 (1 ∷ 2 ∷ []) weights
of_rows_one_and_two = weights_of 2 2 (1 ∷ 2 ∷ []) (0 ∷ 3 ∷ []) weights (record {
  range = record { data_least = omega arith; data_most = omega arith; parities_least = omega arith; parities_most = omega arith };
  positions = one_and_two;
  split = splits;
  height = refl;
  width = two_factors;
  bytes = λ i d h c z k. weight_bytes i d h c z k;
  units = units;
  factors = record { factor = λ e i p q. record { byte = factor_bytes e i p q; quotient = quotients e i p q } };
})

-- ---- tables that are none
pub no_weights_too_few : AreWeights 1 1 (0 ∷ []) ((0x01 ∷ []) ∷ []) → ⊥
no_weights_too_few h = absurd (omega (arith, h.positions))

pub no_two_factors : AreWeights 1 1 (0 ∷ []) ((0x01 ∷ []) ∷ (0x01 ∷ 0x00 ∷ []) ∷ []) → ⊥
no_two_factors h = absurd (omega (arith, h.factors 1 [] (omega arith)))

pub no_larger_factor : AreWeights 1 1 (0 ∷ []) ((0x01 ∷ []) ∷ (0x101 ∷ []) ∷ []) → ⊥
no_larger_factor h = absurd (omega (arith, h.bytes 1 [] (omega arith) 0 0 (omega arith)))

word_bytes : (i : ℕ) (d : List ℕ) → i < length word → (c z : ℕ) → c < length (get_or word i d) → get_or (get_or word i d) c z < 2 ^ 8
word_bytes zero d h zero z k = omega arith
word_bytes zero d h (suc c) z k = absurd (omega arith)
word_bytes (suc zero) d h zero z k = omega arith
word_bytes (suc zero) d h (suc c) z k = absurd (omega arith)
word_bytes (suc (suc i)) d h c z k = absurd (omega arith)

twice_five : combination (0x02 ∷ []) ((0x05 ∷ []) ∷ []) 0 ≡ 0x0A
unfolding ◌⊗◌
twice_five = refl

pub no_weight_that_does_not_restore : AreWeights 1 1 (0 ∷ []) ((0x01 ∷ []) ∷ (0x02 ∷ []) ∷ []) → ⊥
no_weight_that_does_not_restore h =
    let made = h.restore word is_word (λ i d q c z k. word_bytes i d q c z k) in
    absurd (omega (arith, made.values 1 0 (omega arith) (omega arith), twice_five))
