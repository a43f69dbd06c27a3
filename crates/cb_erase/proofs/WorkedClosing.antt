-- Closing rows at worked values: what meets each definition, and for each part what breaks it alone.
use Rattle.std.proofs.Common.{◌≡◌, ℕ, zero, suc, List, [], ◌∷◌, refl, arith}
use Rattle.cb_gf256.specs.Product.{◌⊗◌}
use Rattle.cb_gf256.specs.Combination.{combination}
use Rattle.cb_erase.specs.Closing.{closing_sum, Closes}

-- one row, whose byte is 05; by the factor 02 its sum is 0A, so the closing sum is 0F, by the factor 03
abbrev rows : List (List ℕ)
rows = (0x05 ∷ []) ∷ []

abbrev table : List (List ℕ)
table = (0x02 ∷ []) ∷ []

three_times_five : combination (0x03 ∷ []) rows 0 ≡ 0x0F
unfolding ◌⊗◌
three_times_five = refl

closed_five : closing_sum 1 1 table rows 0 ≡ 0x0F
unfolding ◌⊗◌
closed_five = refl

pub closes : Closes 1 1 1 table rows ((0x02 ∷ []) ∷ (0x03 ∷ []) ∷ [])
unfolding ◌⊗◌
closes = record {
  width = elim [ zero ↦ λ h. refl | suc j ↦ λ h. absurd (omega arith) ];
  factors = elim [ zero ↦ elim [ zero ↦ λ h k. refl | suc i ↦ λ h k. absurd (omega arith) ] | suc j ↦ λ i h k. absurd (omega arith) ];
  closing = elim [ zero ↦ λ h. refl | suc c ↦ λ h. absurd (omega arith) ];
}

pub no_closing_of_a_wider_row : Closes 1 1 1 table rows ((0x02 ∷ 0x00 ∷ []) ∷ (0x03 ∷ []) ∷ []) → ⊥
no_closing_of_a_wider_row h = absurd (omega (arith, h.width 0 (omega arith)))

pub no_closing_of_other_factors : Closes 1 1 1 table rows ((0x01 ∷ []) ∷ (0x03 ∷ []) ∷ []) → ⊥
no_closing_of_other_factors h = absurd (omega (arith, h.factors 0 0 (omega arith) (omega arith)))

twice_five : combination (0x02 ∷ []) rows 0 ≡ 0x0A
unfolding ◌⊗◌
twice_five = refl

pub no_closing_by_another_sum : Closes 1 1 1 table rows ((0x02 ∷ []) ∷ (0x02 ∷ []) ∷ []) → ⊥
no_closing_by_another_sum h = absurd (omega (arith, h.closing 0 (omega arith), twice_five, closed_five))
