-- Worked examples: what is taken of a source, and what a sink got of a text.
use Rattle.std.proofs.Common.{◌≡◌, ℕ, zero, suc, List, [], ◌∷◌, length, Some, refl, arith, inl, inr}
use Rattle.cb_cli.specs.Taken.{AreBytesTaken, taken_of}
use Rattle.cb_cli.specs.Fronts.{GetsFront}

taken : AreBytesTaken (Some (1 ∷ 2 ∷ [])) (Some []) (1 ∷ 2 ∷ [])
taken = record { front = refl; few = omega arith; whole = inl refl }

-- a part is left
a_part : AreBytesTaken (Some (1 ∷ 2 ∷ [])) (Some (2 ∷ [])) (1 ∷ []) → ⊥
a_part is = elim is.whole [
  | inl end ↦ absurd (let e : 2 ∷ [] ≡ [] = end in cc)
  | inr most ↦ absurd (let e : 1 ≡ 1048577 = most in cc)
]

-- the first byte is not the source's
another_byte : AreBytesTaken (Some (1 ∷ 2 ∷ [])) (Some []) (3 ∷ 2 ∷ []) → ⊥
another_byte is = absurd (let e = is.front in cc)

-- a byte too many is taken
a_byte_too_many : (all : List ℕ) → length all ≡ 1048578 → AreBytesTaken (Some all) (Some []) all → ⊥
a_byte_too_many all many is = omega (arith, many, is.few)

all_is_taken : taken_of (1 ∷ 2 ∷ []) ≡ 1 ∷ 2 ∷ []
all_is_taken = refl

a_front : GetsFront (Some (9 ∷ [])) (Some (9 ∷ 1 ∷ [])) (1 ∷ 2 ∷ [])
a_front = (1, omega arith, refl)

-- the whole text is no cut
all_of_it : GetsFront (Some []) (Some (1 ∷ [])) (1 ∷ []) → ⊥
all_of_it (zero, lt, e) = absurd cc
all_of_it (suc n, lt, e) = absurd (omega (arith, lt))
