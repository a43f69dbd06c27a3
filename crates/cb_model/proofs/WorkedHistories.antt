-- Histories of a handle, and lists of changes that break one part of what a history is.
use Rattle.std.proofs.Common.{◌≡◌, [], ◌∷◌, refl, arith, lit≤}
use Rattle.cb_types.specs.declared.request.Request.TheVariants.{Make, Write, Free}
use Rattle.cb_types.specs.declared.reply.Reply.TheVariants.{Made, Version}
use Rattle.cb_model.specs.History.{GoesOn, IsHistory}
use Rattle.cb_model.specs.Legal.{IsLegal}
use Rattle.cb_model.specs.Now.Change.{Create, Overwrite, Remove}
use Rattle.cb_model.proofs.WorkedAnswers.{a, told}

-- a make of two bytes, a write of the last one, and a free
a_history : IsHistory 1 ((1, Create (1 ∷ 2 ∷ [])) ∷ (2, Overwrite 1 (9 ∷ [])) ∷ (3, Remove) ∷ [])
a_history = (refl, (refl, lit≤ tt, (refl, refl)))

of_no_change : IsHistory 1 []
of_no_change = tt

-- the make comes first, and no change comes before it
begins_with_an_overwrite : IsHistory 1 ((1, Overwrite 0 []) ∷ []) → ⊥
begins_with_an_overwrite x = x

begins_with_a_free : IsHistory 1 ((1, Remove) ∷ []) → ⊥
begins_with_a_free x = x

begins_late : IsHistory 1 ((2, Create []) ∷ []) → ⊥
begins_late x = let e : 2 ≡ 1 = x.0 in omega (arith, e)

-- by the versions that were answered, the write and the free come before the make
written_before_the_make : IsLegal 1 2 (told 1 (Make a (1 ∷ [])) (Made (record { n = 0 }) 1)
    ∷ told 1 (Write a 0 (2 ∷ [])) (Version 0) ∷ []) → ⊥
written_before_the_make legal = legal.histories 0

freed_before_the_make : IsLegal 1 2 (told 1 (Make a (1 ∷ [])) (Made (record { n = 0 }) 1)
    ∷ told 1 (Free a) (Version 0) ∷ []) → ⊥
freed_before_the_make legal = legal.histories 0

-- behind the make of one byte
a_second_make : GoesOn 2 1 ((2, Create (1 ∷ [])) ∷ []) → ⊥
a_second_make x = x

a_write_too_late : GoesOn 2 1 ((3, Overwrite 0 (1 ∷ [])) ∷ []) → ⊥
a_write_too_late x = let e : 3 ≡ 2 = x.0 in omega (arith, e)

a_write_past_the_end : GoesOn 2 1 ((2, Overwrite 1 (1 ∷ [])) ∷ []) → ⊥
a_write_past_the_end x = omega (arith, x.1)

a_write_twice_at_a_version : GoesOn 2 1 ((2, Overwrite 0 []) ∷ (2, Overwrite 0 []) ∷ []) → ⊥
a_write_twice_at_a_version x = let e : 2 ≡ 3 = x.2.0 in omega (arith, e)

a_free_too_late : GoesOn 2 1 ((3, Remove) ∷ []) → ⊥
a_free_too_late x = let e : 3 ≡ 2 = x.0 in omega (arith, e)

a_write_behind_a_free : GoesOn 2 1 ((2, Remove) ∷ (3, Overwrite 0 []) ∷ []) → ⊥
a_write_behind_a_free x = absurd (let e : (3, Overwrite 0 []) ∷ [] ≡ [] = x.1 in cc)
