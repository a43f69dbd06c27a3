-- Worked examples: how calls end, and what they tell of the word 01 00 C8 C9 for k = 2 and r = 2.
use Rattle.std.proofs.Common.{◌≡◌, inl, inr, refl, arith}
use Rattle.cb_gf256.specs.InRange.{IsInRange}
use Rattle.cb_scrub.specs.declared.found.Found.TheVariants.{Clean, One, Many}
use Rattle.cb_scrub.proofs.Laws.{is_word, no_word, one, word}
use Rattle.carbink_c.specs.declared.status.Status.TheVariants.{Done, BadCode, BadLength, BadBuffer, BadPositions, NoMemory}
use Rattle.carbink_c.specs.Status.{Ends, EndsInPlace, IsNumberOf}
use Rattle.carbink_c.specs.Made.{TellsWord}
use Rattle.carbink_c.specs.Found.{told_found}

two_and_two : IsInRange 2 2
two_and_two = record { data_least = omega arith; data_most = omega arith; parities_least = omega arith; parities_most = omega arith }

-- ---- a call that did its work, and one that did not: a part off at a time

done : Ends 2 2 1 (Unit {0}) (Unit {0}) ⊥ (Unit {0}) Done
done = (two_and_two, omega arith, tt, tt, tt)

done_number : IsNumberOf (Ends 2 2 1 (Unit {0}) (Unit {0}) ⊥ (Unit {0})) 0
done_number = (Done, refl, done)

no_code : Ends 0 2 1 (Unit {0}) (Unit {0}) (Unit {0}) (Unit {0}) Done → ⊥
no_code e = absurd (omega (arith, e.0.data_least))

no_bytes : Ends 2 2 0 (Unit {0}) (Unit {0}) (Unit {0}) (Unit {0}) Done → ⊥
no_bytes e = absurd (omega (arith, e.1))

other_size : Ends 2 2 1 ⊥ (Unit {0}) (Unit {0}) (Unit {0}) Done → ⊥
other_size e = e.2

other_places : Ends 2 2 1 (Unit {0}) ⊥ (Unit {0}) (Unit {0}) Done → ⊥
other_places e = e.3

nothing_made : Ends 2 2 1 (Unit {0}) (Unit {0}) (Unit {0}) ⊥ Done → ⊥
nothing_made e = e.4

-- ---- refusals: each where it is the first that is wrong, and none that changed something

code_refused : Ends 0 2 0 ⊥ ⊥ (Unit {0}) ⊥ BadCode
code_refused = (λ h. absurd (omega (arith, h.data_least)), tt)

length_refused : Ends 2 2 0 ⊥ ⊥ (Unit {0}) ⊥ BadLength
length_refused = (two_and_two, refl, tt)

buffer_refused : Ends 2 2 1 ⊥ ⊥ (Unit {0}) ⊥ BadBuffer
buffer_refused = (two_and_two, omega arith, λ x. x, tt)

positions_refused : Ends 2 2 1 (Unit {0}) ⊥ (Unit {0}) ⊥ BadPositions
positions_refused = (two_and_two, omega arith, tt, λ x. x, tt)

memory_lacked : Ends 2 2 1 (Unit {0}) (Unit {0}) (Unit {0}) ⊥ NoMemory
memory_lacked = (two_and_two, omega arith, tt, tt, tt)

changed_and_refused : Ends 2 2 1 (Unit {0}) (Unit {0}) ⊥ (Unit {0}) NoMemory → ⊥
changed_and_refused e = e.4

-- ---- in place: the same, but that no memory and no positions can be lacking

done_in_place : EndsInPlace 2 2 1 (Unit {0}) ⊥ (Unit {0}) Done
done_in_place = (two_and_two, omega arith, tt, tt, tt)

refused_in_place : EndsInPlace 2 2 1 ⊥ (Unit {0}) ⊥ BadBuffer
refused_in_place = (two_and_two, omega arith, λ x. x, tt)

lacking_in_place : EndsInPlace 2 2 1 (Unit {0}) (Unit {0}) (Unit {0}) NoMemory → ⊥
lacking_in_place e = e

misplaced_in_place : EndsInPlace 2 2 1 (Unit {0}) (Unit {0}) (Unit {0}) BadPositions → ⊥
misplaced_in_place e = e

-- ---- what is told

word_told : TellsWord 2 2 word 1
word_told = inl (refl, is_word)

no_word_told : TellsWord 2 2 one 0
no_word_told = inr (refl, no_word)

clean_told : told_found Clean ≡ record { kind = 0; position = 0; power = 0; column = 0; sum = 0 }
clean_told = refl

one_told : told_found (One 2) ≡ record { kind = 1; position = 2; power = 0; column = 0; sum = 0 }
one_told = refl

many_told : told_found (Many 1 7 5) ≡ record { kind = 2; position = 0; power = 1; column = 7; sum = 5 }
many_told = refl
