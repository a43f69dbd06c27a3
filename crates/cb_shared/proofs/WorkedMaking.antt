-- Worked makes: what meets each definition, and what breaks one of its parts alone.
use Rattle.std.proofs.Common.{[], ◌∷◌, length, None, Some, inl, refl, ap}
use Rattle.std.proofs.lemmas.Bool.{eqb-false}
use mathlib.Core.Option.{none}
use Rattle.atomic_table.specs.Table.{Step, step}
use Rattle.cb_types.specs.declared.job.Job.TheVariants as jobs
use Rattle.cb_types.specs.declared.reply.Reply.TheVariants as answer
use Rattle.cb_rule.specs.LockSteps.{took_lock}
use Rattle.cb_rule.specs.Slot.{LockSlot, Sat}
use Rattle.cb_shared.specs.Calls.{the_handle}
use Rattle.cb_shared.specs.Making.{MakesNew, TriesNew, took_first}
use Rattle.cb_shared.proofs.WorkedGround.{made, part}
use Rattle.cb_shared.proofs.WorkedUnder.{before, far, has_taken, holder, known, knows_nothing}
use Rattle.cb_shared.proofs.WorkedUnder.{newcomer}

-- ---- a make, whose version is 3, of a pass that has nothing of the object
makes_it : MakesNew 3 (jobs.Make (10 ∷ [])) (answer.Made (the_handle 1) 3) newcomer
makes_it = (refl, knows_nothing 1)

makes_it_later : MakesNew 3 (jobs.Make (10 ∷ [])) (answer.Made (the_handle 1) 4) newcomer → ⊥
makes_it_later x = eqb-false 4 3 refl x.0

makes_what_it_knows : MakesNew 3 (jobs.Make (10 ∷ [])) (answer.Made (the_handle 1) 3) part → ⊥
makes_what_it_knows x = x.1 (inl (made, inl refl, refl))

-- no other answer tells of an object that was made
finds_all_made : MakesNew 3 (jobs.Make (10 ∷ [])) (answer.Full 2) part
finds_all_made = tt

writes_what_it_knows : MakesNew 3 (jobs.Write (the_handle 1) 1 (12 ∷ [])) (answer.Version 4) part
writes_what_it_knows = tt

tries_it : TriesNew 3 (jobs.Make (10 ∷ [])) (Some (answer.Made (the_handle 1) 3)) newcomer
tries_it = makes_it

tries_what_it_knows : TriesNew 3 (jobs.Make (10 ∷ [])) (Some (answer.Made (the_handle 1) 3)) part
    → ⊥
tries_what_it_knows x = makes_what_it_knows x

tries_in_vain : TriesNew 3 (jobs.Make (10 ∷ [])) None part
tries_in_vain = tt

-- ---- the lock is taken where its word is 2, and makes give version 3
abbrev takes_two : Step LockSlot
takes_two = step 1 0 2 1 none

takes_it : took_first 3 takes_two before 2 holder
takes_it = ((λ _. has_taken, λ ne. absurd (ne refl)), λ _. refl)

finds_another_word : took_first 3 takes_two before 4 before
finds_another_word =
    ((λ e. absurd (eqb-false 4 2 refl e), λ _. refl), λ e. absurd (eqb-false 4 2 refl e))

takes_another_first : took_first 4 takes_two before 2 holder → ⊥
takes_another_first x = eqb-false 3 4 refl (x.1 refl)

-- what is known alone, without the far state
abbrev empty_handed : Sat
empty_handed = (took_lock known (far 1) 0 newcomer, [])

takes_no_slot : took_first 3 takes_two before 2 empty_handed → ⊥
takes_no_slot x = eqb-false 0 1 refl (ap (λ (m : Sat). length m.1) (x.0.0 refl).taken)
