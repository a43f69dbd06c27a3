-- Worked examples: the groups of candidates, and the table of a code of two positions.
use Rattle.std.proofs.Common.{◌≡◌, ℕ, zero, suc, ◌^◌, ◌<◌, true, false, Bool, List, [], ◌∷◌, None, Some, refl, subst, ◌∙◌, arith}
use Rattle.std.specs.Prelude.{slice_index_or}
use Rattle.std.proofs.lemmas.Bool.{false≢true}
use Rattle.std.proofs.lemmas.Nat.Bits.{bit_at-suc, bit_at-zero}
use Rattle.cb_compact.specs.declared.candidates.Candidate.{Candidate}
use Rattle.cb_compact.specs.Candidates.{group}
use Rattle.cb_compact.specs.Tables.{AreBitsWithin, AreMarked, AreMasks, IsFilled}

-- set 4 is live at position 0 of two
abbrev first : Candidate
first = record { id = 4; k = 2; r = 1; pages = 1; live = 1 }

-- sets of one code that are live at the same positions are of one group
pub same_positions_are_one_group :
    group first ≡ group (record { id = 9; k = 2; r = 1; pages = 1; live = 1 })
same_positions_are_one_group = refl

one_two : (n : ℕ) → suc n ≡ suc (suc n) → ⊥
one_two n e = omega (arith, e)

-- and not where they are live at others, or are of another code or length
pub other_positions_are_another :
    group first ≡ group (record { id = 9; k = 2; r = 1; pages = 1; live = 2 }) → ⊥
other_positions_are_another e = one_two 0 (λ i. (e i).live)

pub another_code_is_another :
    group first ≡ group (record { id = 9; k = 2; r = 2; pages = 1; live = 1 }) → ⊥
another_code_is_another e = one_two 0 (λ i. (e i).r)

pub another_length_is_another :
    group first ≡ group (record { id = 9; k = 2; r = 1; pages = 2; live = 1 }) → ⊥
another_length_is_another e = one_two 0 (λ i. (e i).pages)

-- ---- what lies within what
pub nothing_lies_within_all : AreBitsWithin 0 3
nothing_lies_within_all i = let z = bit_at-zero i in omega (arith, z)

-- position 0 does not lie within position 1
pub not_within_the_other : AreBitsWithin 1 2 → ⊥
not_within_the_other w = let l = w 0 in omega (arith, l)

one_in_three : AreBitsWithin 1 3
one_in_three zero = omega arith
one_in_three (suc i) = let e = bit_at-suc 1 i ∙ bit_at-zero i in omega (arith, e)

-- ---- the entries that are marked for set 4
same : (a b : Candidate) → Some a ≡ Some b → a ≡ b
same a b e = cc

no_candidate : (c : Candidate) → None ≡ Some c → ⊥
no_candidate c e = cc

abbrev marks : List Bool
marks = false ∷ true ∷ false ∷ true ∷ []

pub its_own_entry_is_marked : AreMarked (first ∷ []) 2 1 1 marks
its_own_entry_is_marked zero c at k r pages =
    subst (λ (d : Candidate). slice_index_or marks d.live false ≡ true) (same first c at) refl
its_own_entry_is_marked (suc i) c at k r pages = absurd (no_candidate c at)

filled : (mask : ℕ) → mask < 2 ^ 2 → AreBitsWithin 1 mask → slice_index_or marks mask false ≡ true
filled zero fits w = absurd (let l = w 0 in omega (arith, l))
filled (suc zero) fits w = refl
filled (suc (suc zero)) fits w = absurd (let l = w 0 in omega (arith, l))
filled (suc (suc (suc zero))) fits w = refl
filled (suc (suc (suc (suc m)))) fits w = absurd (omega (arith, fits))

pub those_that_have_it_within_are_marked : IsFilled (first ∷ []) 2 1 1 marks
those_that_have_it_within_are_marked zero mask c at k r pages fits w =
    subst (λ (d : Candidate). AreBitsWithin d.live mask → slice_index_or marks mask false ≡ true)
    (same first c at) (filled mask fits) w
those_that_have_it_within_are_marked (suc i) mask c at k r pages fits w = absurd (no_candidate c at)

-- where its own entry is not marked
pub not_without_its_own : AreMarked (first ∷ []) 2 1 1 (false ∷ false ∷ true ∷ true ∷ []) → ⊥
not_without_its_own x = false≢true (x 0 first refl refl refl refl)

-- where the entry of both positions is not
pub not_without_the_larger : IsFilled (first ∷ []) 2 1 1 (false ∷ true ∷ false ∷ false ∷ []) → ⊥
not_without_the_larger x = false≢true (x 0 3 first refl refl refl refl (omega arith) one_in_three)

-- ---- a bit for each of at most 16 positions
abbrev with_bits : ℕ → ℕ → Candidate
with_bits k live = record { id = 4; k = k; r = 1; pages = 1; live = live }

pub too_many_positions : AreMasks (with_bits 2 4 ∷ []) → ⊥
too_many_positions x = let l = (x 0 (with_bits 2 4) refl).1 in omega (arith, l)

pub too_wide_a_code : AreMasks (with_bits 17 4 ∷ []) → ⊥
too_wide_a_code x = let l = (x 0 (with_bits 17 4) refl).0 in omega (arith, l)
