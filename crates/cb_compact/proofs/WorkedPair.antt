-- Worked examples: a pair of two sets of two data positions and one parity, at its begin and after
-- its steps; and which candidates match.
use Rattle.std.proofs.Common.{◌≡◌, ℕ, zero, suc, ◌<◌, true, false, [], ◌∷◌, None, Some, refl, arith}
use Rattle.cb_member.specs.declared.names.Shard.{Shard}
use Rattle.cb_set.specs.SetState.{PositionState, SetState, set_of}
use Rattle.cb_world.specs.Joining.{JoiningState}
use Rattle.cb_world.specs.JoinSteps.{with_step}
use Rattle.cb_compact.specs.declared.candidates.Candidate.{Candidate}
use Rattle.cb_compact.specs.Candidates.{AreAlike, CanMatch}
use Rattle.cb_compact.specs.PairStep.{begun_pair, live_positions}
use Rattle.cb_compact.specs.PatchStep.{AreDone, IsNext, has_step, is_undone}

abbrev pub on_node : ℕ → Shard
on_node n = record { node = record { n = n }; incarnation = 0; key = n }

abbrev pub live_with : ℕ → PositionState
live_with h = record { live = true; slots = Some h ∷ [] }

abbrev pub dead : PositionState
dead = record { live = false; slots = [] }

-- a is live at position 0, and b at position 1
abbrev pub set_a : SetState
set_a = set_of 0 1 (on_node 0 ∷ on_node 1 ∷ on_node 2 ∷ []) (live_with 7 ∷ dead ∷ [])

abbrev pub set_b : SetState
set_b = set_of 1 1 (on_node 3 ∷ on_node 4 ∷ on_node 5 ∷ []) (dead ∷ live_with 8 ∷ [])

pub live_in_b : live_positions set_b ≡ 1 ∷ []
live_in_b = refl

abbrev pub begun : JoiningState
begun = begun_pair 0 1 set_a set_b

pub none_is_done : begun.steps ≡ None ∷ None ∷ None ∷ []
none_is_done = refl

pub taken_from_b : begun.taken ≡ 1 ∷ []
taken_from_b = refl

-- ---- which positions have steps
pub none_where_a_stays : has_step begun 2 0 ≡ false
none_where_a_stays = refl

pub one_where_b_is_taken : has_step begun 2 1 ≡ true
one_where_b_is_taken = refl

pub one_for_the_parity : has_step begun 2 2 ≡ true
one_for_the_parity = refl

below_one : (f : ℕ → Type 0) → f 0 → (q : ℕ) → q < 1 → f q
below_one f x zero l = x
below_one f x (suc q) l = absurd (omega (arith, l))

true_false : true ≡ false → ⊥
true_false e = cc

false_true : false ≡ true → ⊥
false_true e = cc

-- the next step is b's position
pub next_is_the_taken : IsNext begun 2 1
next_is_the_taken = record {
  within = omega arith;
  undone = refl;
  least = below_one (λ q. is_undone begun 2 q ≡ false) refl;
}

-- no position without a step is next
pub not_where_a_stays : IsNext begun 2 0 → ⊥
not_where_a_stays x = false_true x.undone

-- and none behind the next one
pub not_the_parity_yet : IsNext begun 2 2 → ⊥
not_the_parity_yet x = true_false (x.least 1 (omega arith))

-- nor one that is not there
pub not_past_the_end : IsNext begun 2 3 → ⊥
not_past_the_end x = let l = x.within in omega (arith, l)

-- ---- after the step
abbrev pub stepped : JoiningState
stepped = with_step begun 1 (on_node 1)

pub next_is_the_parity : IsNext stepped 2 2
next_is_the_parity = record {
  within = omega arith;
  undone = refl;
  least = below_two (λ q. is_undone stepped 2 q ≡ false) refl refl;
}
  where
    below_two : (f : ℕ → Type 0) → f 0 → f 1 → (q : ℕ) → q < 2 → f q
    below_two f x y zero l = x
    below_two f x y (suc zero) l = y
    below_two f x y (suc (suc q)) l = absurd (omega (arith, l))

pub not_twice : IsNext stepped 2 1 → ⊥
not_twice x = false_true x.undone

pub not_done_yet : AreDone stepped 2 → ⊥
not_done_yet x = true_false (x 2 (omega arith))

-- ---- candidates
abbrev of_bits : ℕ → ℕ → ℕ → Candidate
of_bits k r live = record { id = 0; k = k; r = r; pages = 1; live = live }

pub apart_match : CanMatch (of_bits 4 2 5) (of_bits 4 2 10)
apart_match = record { k = refl; r = refl; pages = refl; apart = refl }

pub no_common_position : CanMatch (of_bits 4 2 5) (of_bits 4 2 9) → ⊥
no_common_position x = let e = x.apart in omega (arith, e)

pub no_other_data : CanMatch (of_bits 4 2 5) (of_bits 5 2 10) → ⊥
no_other_data x = let e = x.k in omega (arith, e)

pub no_other_parities : CanMatch (of_bits 4 2 5) (of_bits 4 1 10) → ⊥
no_other_parities x = let e = x.r in omega (arith, e)

pub no_other_length : CanMatch (of_bits 4 2 5) (record (of_bits 4 2 10) { pages = 2 }) → ⊥
no_other_length x = let e = x.pages in omega (arith, e)

pub alike : AreAlike (of_bits 4 2 5) (of_bits 4 2 5)
alike = record { k = refl; r = refl; pages = refl; live = refl }

pub not_alike_elsewhere : AreAlike (of_bits 4 2 5) (of_bits 4 2 10) → ⊥
not_alike_elsewhere x = let e = x.live in omega (arith, e)
