-- Worked examples of where a put ends: what meets the definition, and what breaks one part.
use Rattle.std.proofs.Common.{◌≡◌, ℕ, zero, suc, ◌<◌, List, [], ◌∷◌, length, get_or, refl, arith, inl, inr}
use Rattle.cb_cli.specs.Puts.{IsPutEnd}

-- a line and the start of another
abbrev text : List ℕ
text = 65 ∷ 10 ∷ 66 ∷ []

-- no line ends in it
abbrev word : List ℕ
word = 65 ∷ 66 ∷ 67 ∷ []

behind_a_line : IsPutEnd text 0 2
behind_a_line = record {
  more = omega arith;
  within = omega arith;
  few = omega arith;
  line = λ i from reach inside ends. (at i inside ends, refl);
  all = inl refl;
}
  where
    at : (i : ℕ) → i < 3 → get_or text i 0 ≡ 10 → i < 2
    at zero inside ends = omega arith
    at (suc zero) inside ends = omega arith
    at (suc (suc zero)) inside ends = absurd (omega (arith, ends))
    at (suc (suc (suc i))) inside ends = absurd (omega (arith, inside))

no_line : (i : ℕ) → i < 3 → get_or word i 0 ≡ 10 → ⊥
no_line zero inside ends = omega (arith, ends)
no_line (suc zero) inside ends = omega (arith, ends)
no_line (suc (suc zero)) inside ends = omega (arith, ends)
no_line (suc (suc (suc i))) inside ends = omega (arith, inside)

all_of_a_word : IsPutEnd word 0 3
all_of_a_word = record {
  more = omega arith;
  within = omega arith;
  few = omega arith;
  line = λ i from reach inside ends. absurd (no_line i inside ends);
  all = inr (inl refl);
}

takes_nothing : IsPutEnd text 2 2 → ⊥
takes_nothing z = let no_more = z.more in omega (arith, no_more)

takes_more_than_there_are : IsPutEnd word 0 4096 → ⊥
takes_more_than_there_are z = let past = z.within in omega (arith, past)

takes_too_many : (bytes : List ℕ) → length bytes ≡ 5000 → IsPutEnd bytes 0 5000 → ⊥
takes_too_many bytes long z = let many = z.few in omega (arith, many)

ends_within_a_line : IsPutEnd text 0 3 → ⊥
ends_within_a_line z = let last = (z.line 1 (omega arith) (omega arith) (omega arith) refl).1 in
    omega (arith, last)

loses_the_line : IsPutEnd (10 ∷ 10 ∷ []) 0 1 → ⊥
loses_the_line z = let past = (z.line 1 (omega arith) (omega arith) (omega arith) refl).0 in
    omega (arith, past)

takes_too_few : IsPutEnd word 0 2 → ⊥
takes_too_few z = elim z.all [
  | inl last ↦ omega (arith, last)
  | inr most ↦ elim most [
    | inl whole ↦ omega (arith, whole)
    | inr many ↦ omega (arith, many)
  ]
]
