-- Worked examples of a filter as a step of the still desk.
use Rattle.std.proofs.Common.{◌≡◌, ℕ, ◌+◌, ◌*◌, true, false, [], ◌∷◌, None, Some, get_or, refl, ap, lit≤, arith}
use Rattle.cb_ptr.specs.declared.word.State.TheVariants as state
use Rattle.cb_types.specs.declared.reply.Reply.TheVariants as answer
use Rattle.cb_world.specs.FarState.{FarState}
use Rattle.cb_world.specs.Memory.{put, window}
use Rattle.cb_world.specs.Placed.{place_in}
use Rattle.cb_world.specs.Plain.{Words}
use Rattle.cb_filter.specs.FilterStep.{cool_word, with_cooled, with_carried_to, RefusesAs, IsFreeIn, IsFilterStep, refused, cools, without_slot, moves}
use Rattle.cb_filter.proofs.WorkedSeats.{config, far, moved, full, seat, slot, stands, gets, in_place, no_slot, word}

-- object 0 has 16 bytes at place 1, and is hot
abbrev near_word : ℕ
near_word = 2 + 4 + 16 * 8192 + 1 * 536870912

abbrev near : Words
near = record {
  settings = config;
  words = near_word ∷ 0 ∷ 0 ∷ [];
  versions = 7 ∷ 0 ∷ 0 ∷ [];
  memory = 1 ∷ 2 ∷ 3 ∷ 9 ∷ 9 ∷ 9 ∷ [];
}

cool : cool_word near_word 4 ≡ 2 + 16 * 8192 + 4 * 536870912
cool = refl

cooled : with_cooled near 0 ≡ record near {
  words = (2 + 16 * 8192 + 1 * 536870912) ∷ 0 ∷ 0 ∷ [];
}
cooled = refl

carried : with_carried_to near 0 4 ≡ record near {
  words = (2 + 16 * 8192 + 4 * 536870912) ∷ 0 ∷ 0 ∷ [];
  memory = 1 ∷ 2 ∷ 3 ∷ 9 ∷ 2 ∷ 3 ∷ [];
}
unfolding put window
carried = refl

-- ---- refusals
refuses_unmade : RefusesAs state.Empty 0 0 answer.Unmade
refuses_unmade = refl

refuses_freed : RefusesAs state.Empty 0 5 answer.NotHere
refuses_freed = refl

refuses_freed_as_unmade : ¬ (RefusesAs state.Empty 0 5 answer.Unmade)
refuses_freed_as_unmade e = absurd (let z : answer.Unmade ≡ answer.NotHere = e in cc)

refuses_far : RefusesAs state.Far 1 5 answer.NotHere
refuses_far = refl

refuses_moving : RefusesAs state.Moving 3 5 answer.Moving
refuses_moving = refl

refuses_moving_as_far : ¬ (RefusesAs state.Moving 3 5 answer.NotHere)
refuses_moving_as_far e = absurd (let z : answer.NotHere ≡ answer.Moving = e in cc)

refuses_pinned : RefusesAs state.Here (near_word + 24) 7 (answer.Pinned 3)
refuses_pinned = (lit≤ tt, refl)

refuses_without_pins : ¬ (RefusesAs state.Here near_word 7 (answer.Pinned 0))
refuses_without_pins x = absurd (omega (arith, x.0))

-- ---- steps
-- object 0 is in the hot span of frame 1, with this word
abbrev desk : ℕ → Words
desk w = record near { words = w ∷ 0 ∷ 0 ∷ [] }

free_in : IsFreeIn (desk word) far 0 seat
free_in = record { free = (refl, refl); stands = stands }

free_in_with_a_pin : ¬ (IsFreeIn (desk (word + 12)) far 0 seat)
free_in_with_a_pin x = absurd (let z : 1 ≡ 0 = x.free.1 in omega (arith, z))

free_in_and_claimed : ¬ (IsFreeIn (desk (word + 1)) far 0 seat)
free_in_and_claimed x = absurd (let z : state.Moving ≡ state.Here = x.free.0 in cc)

free_in_of_another : ¬ (IsFreeIn (desk word) far 0 (record seat { number = 1 }))
free_in_of_another x = absurd (let z : None ≡ Some 0 = x.stands.named in cc)

-- a cold word: it moves; a hot one: it stays; a cold one where all is full
step_moves : IsFilterStep (desk word) (with_carried_to (desk word) 0 (place_in slot)) far moved 0
    answer.Moved
step_moves = moves seat slot free_in gets refl

step_cools : IsFilterStep (desk (word + 4)) (desk word) far far 0 answer.Same
step_cools = cools seat (record { free = (refl, refl); stands = stands }) in_place refl

step_without_slot : IsFilterStep (desk word) (desk word) full full 0 (answer.NoSlot 3)
step_without_slot = without_slot seat
    (record { free = (refl, refl); stands = record { there = refl; named = refl } }) no_slot refl

step_unmade : IsFilterStep (desk word) (desk word) far far 2 answer.Unmade
step_unmade = refused refl refl refl

step_pinned : IsFilterStep (desk (word + 12)) (desk (word + 12)) far far 0 (answer.Pinned 1)
step_pinned = refused (lit≤ tt, refl) refl refl

-- an object that is here was made
step_of_none : ¬ (IsFilterStep (desk word) (desk word) far far 0 answer.Unmade)
step_of_none (refused a e f) = absurd (omega (arith, a.0))
step_of_none (cools p a b e) = absurd (let z : answer.Unmade ≡ answer.Same = b.reply in cc)
step_of_none (without_slot p a b e) =
    absurd (let z : answer.Unmade ≡ answer.NoSlot 3 = b.reply in cc)
step_of_none (moves p q a b e) = absurd (let z : answer.Unmade ≡ answer.Moved = b.reply in cc)

-- a refusal changes no word, and not the far state
refused_with_a_store : ¬ (IsFilterStep (desk (word + 12))
    (record (desk (word + 12)) { memory = [] }) far far 0 (answer.Pinned 1))
refused_with_a_store (refused a e f) = absurd (let z : 0 ≡ 1 =
    ap (λ (q : Words). get_or q.memory 0 0) e in omega (arith, z))
refused_with_a_store (cools p a b e) = absurd (let z : 1 ≡ 0 = a.free.1 in omega (arith, z))
refused_with_a_store (without_slot p a b e) = absurd (let z : 1 ≡ 0 = a.free.1 in omega (arith, z))
refused_with_a_store (moves p q a b e) = absurd (let z : 1 ≡ 0 = a.free.1 in omega (arith, z))

refused_with_a_change : ¬ (IsFilterStep (desk (word + 12)) (desk (word + 12)) far moved 0
    (answer.Pinned 1))
refused_with_a_change (refused a e f) = absurd (let z : true ≡ false =
    ap (λ (q : FarState). get_or q.frames 1 false) f in cc)
refused_with_a_change (cools p a b e) = absurd (let z : 1 ≡ 0 = a.free.1 in omega (arith, z))
refused_with_a_change (without_slot p a b e) = absurd (let z : 1 ≡ 0 = a.free.1 in omega (arith, z))
refused_with_a_change (moves p q a b e) = absurd (let z : 1 ≡ 0 = a.free.1 in omega (arith, z))
