-- Worked examples: the lines of lanes, names of other lanes, names that were made, and losses.
use Rattle.std.proofs.Common.{◌≡◌, ℕ, zero, suc, ◌≤◌, Bool, true, false, ◌&&◌, List, [], ◌∷◌, Some, None, inl, inr, refl, lit≤, arith}
use Rattle.std.specs.List.Sorted.{IsNonDecreasingBy, IsPermutation, SwapsInRange, apply_swaps}
use Rattle.std.proofs.lemmas.Bool.{false≢true}
use Rattle.std.proofs.lemmas.List.Sorted.{IsPermutation-refl}
use Rattle.cb_types.specs.declared.answer.Answer.{Answer}
use Rattle.cb_types.specs.declared.reply.Reply.{Reply}
use Rattle.cb_types.specs.declared.reply.Reply.TheVariants.{Made, Full, EpochAt, Freed}
use Rattle.cb_types.specs.declared.request.Request.{Request}
use Rattle.cb_types.specs.declared.request.Request.TheVariants.{Make, Read, Evict, Crash}
use Rattle.cb_member.specs.declared.names.Loss.{Loss}
use Rattle.cb_script.specs.declared.script.Line.{Line}
use Rattle.cb_model.specs.Legal.{WasTold}
use Rattle.cb_lanes.specs.Lost.{losses_of}
use Rattle.cb_app.specs.ByLane.{AreLanesApart, AreOfOthers, IsApart, IsUsed, Uses, by_lane, flat, lanes_up_to, of_lane}
use Rattle.cb_app.specs.Crew.{handle_told, name_made, names_in}
use Rattle.cb_app.specs.Threaded.{AreLosses}

abbrev a : List ℕ
a = 97 ∷ []

abbrev b : List ℕ
b = 97 ∷ 98 ∷ []

abbrev line : ℕ → ℕ → Request → Line
line lane number request = record { lane = record { n = lane }; line = number; request = request }

abbrev answer : Request → Reply → Answer
answer request reply = record { lane = record { n = 0 }; line = 2; request = request; reply = reply }

abbrev made_a : Line
made_a = line 0 2 (Make a (1 ∷ []))

abbrev made_b : Line
made_b = line 2 3 (Make b (2 ∷ []))

abbrev read_a : Line
read_a = line 1 4 (Read a)

abbrev read_b : Line
read_b = line 2 5 (Read b)

-- ---- lines by lane

abbrev lines : List Line
lines = made_a ∷ made_b ∷ read_a ∷ read_b ∷ []

of_lane_2 : of_lane 2 lines ≡ made_b ∷ read_b ∷ []
of_lane_2 = refl

of_no_lane : of_lane 3 lines ≡ []
of_no_lane = refl

none_of_lane_0 : lanes_up_to 0 lines ≡ []
none_of_lane_0 = refl

up_to_lane_1 : lanes_up_to 1 lines ≡ read_a ∷ []
up_to_lane_1 = refl

lane_0_first : by_lane lines ≡ made_a ∷ read_a ∷ made_b ∷ read_b ∷ []
lane_0_first = refl

a_lane_beyond_15_has_none : by_lane (line 16 2 (Read a) ∷ []) ≡ []
a_lane_beyond_15_has_none = refl

all_of_two_lanes : flat ((read_a ∷ []) ∷ [] ∷ (made_b ∷ read_b ∷ []) ∷ []) ≡ read_a ∷ made_b ∷ read_b ∷ []
all_of_two_lanes = refl

-- ---- names of others

a_read_uses : Uses (Read a) a
a_read_uses = refl

a_read_uses_no_other_name : Uses (Read a) b → ⊥
a_read_uses_no_other_name uses = absurd cc

a_make_uses_no_name : Uses (Make a (1 ∷ [])) a → ⊥
a_make_uses_no_name uses = uses

who_has_no_name_uses_none : Uses Evict a → ⊥
who_has_no_name_uses_none uses = absurd cc

is_used : IsUsed (made_b ∷ read_b ∷ []) b
is_used = inr (inl refl)

made_alone_is_not_used : IsUsed (made_b ∷ []) b → ⊥
made_alone_is_not_used (inl here) = here
made_alone_is_not_used (inr later) = later

is_apart : IsApart (made_a ∷ []) (made_b ∷ read_b ∷ [])
is_apart name (inl here) lane made = here
is_apart name (inr (inr later)) lane made = later
is_apart name (inr (inl uses)) lane (inr later) = later
is_apart name (inr (inl uses)) lane (inl made) = absurd (let is = made.1 in cc)

who_uses_a_name_made_there_is_not : IsApart (made_a ∷ []) (read_a ∷ []) → ⊥
who_uses_a_name_made_there_is_not apart = apart a (inl refl) 0 (inl (refl, refl))

nothing_before : (after : List Line) → IsApart [] after
nothing_before after name used lane made = made

-- lane 2 was not told what lane 1 is answered, but what it is answered itself, and lane 0
not_told : WasTold 1 2 → ⊥
not_told (inl same) = omega (arith, same)
not_told (inr first) = omega (arith, first)

of_others : AreOfOthers (read_a ∷ []) (made_b ∷ read_b ∷ [])
of_others = ((not_told, (not_told, tt)), tt)

of_the_same_lane : AreOfOthers (made_b ∷ []) (read_b ∷ []) → ⊥
of_the_same_lane none = none.0.0 (inl refl)

behind_lane_0 : AreOfOthers (made_a ∷ []) (read_b ∷ []) → ⊥
behind_lane_0 none = none.0.0 (inr refl)

abbrev evict : ℕ → Line
evict lane = line lane 2 Evict

not_made_there : IsApart (evict 1 ∷ []) (made_b ∷ read_b ∷ [])
not_made_there name used lane (inl made) = made.1
not_made_there name used lane (inr later) = later

are_apart : AreLanesApart [] ((evict 1 ∷ []) ∷ (made_b ∷ read_b ∷ []) ∷ [])
are_apart = (nothing_before (evict 1 ∷ []), tt, (not_made_there, ((not_told, (not_told, tt)), tt), tt))

a_lane_in_two : AreLanesApart [] ((evict 2 ∷ []) ∷ (made_b ∷ []) ∷ []) → ⊥
a_lane_in_two are = are.2.1.0.0 (inl refl)

the_last_is_not_apart : AreLanesApart [] ((line 2 2 (Make a (1 ∷ [])) ∷ []) ∷ (read_a ∷ []) ∷ [])
    → ⊥
the_last_is_not_apart are = are.2.0 a (inl refl) 2 (inl (refl, refl))

nor_is_the_first_from_those_before : AreLanesApart (made_a ∷ []) ((read_a ∷ []) ∷ []) → ⊥
nor_is_the_first_from_those_before are = who_uses_a_name_made_there_is_not are.0

-- ---- names that were made

a_handle_is_told : handle_told (Made (record { n = 3 }) 1) ≡ Some (record { n = 3 })
a_handle_is_told = refl

a_refused_make_tells_none : handle_told (Full 1) ≡ None
a_refused_make_tells_none = refl

a_refused_make_has_a_name : name_made (Make a (1 ∷ [])) (Full 1) ≡ record { name = a; handle = None } ∷ []
a_refused_make_has_a_name = refl

a_read_makes_no_name : name_made (Read a) Freed ≡ []
a_read_makes_no_name = refl

in_the_order_of_the_makes : names_in (answer (Make b (1 ∷ [])) (Made (record { n = 0 }) 1) ∷ answer (Read b) Freed
    ∷ answer (Make a (1 ∷ [])) (Full 1) ∷ [])
    ≡ record { name = b; handle = Some (record { n = 0 }) } ∷ record { name = a; handle = None } ∷ []
in_the_order_of_the_makes = refl

-- ---- losses

abbrev loss : ℕ → ℕ → Loss
loss node epoch = record { node = record { n = node }; epoch = record { n = epoch } }

abbrev crash : ℕ → ℕ → Answer
crash node epoch = answer (Crash (record { n = node })) (EpochAt (record { n = epoch }))

-- the crash of epoch 4 was answered before that of epoch 3
abbrev answers : List Answer
answers = crash 0 4 ∷ answer (Read a) Freed ∷ crash 1 3 ∷ []

in_order : IsNonDecreasingBy (λ (l : Loss). l.epoch.n) (loss 1 3 ∷ loss 0 4 ∷ [])
in_order zero zero d le low = lit≤ tt
in_order zero (suc zero) d le low = lit≤ tt
in_order (suc zero) (suc zero) d le low = lit≤ tt
in_order (suc i) zero d le low = absurd (omega (arith, le))
in_order (suc (suc i)) (suc zero) d le low = absurd (omega (arith, le))
in_order i (suc (suc j)) d le low = absurd (omega (arith, low))

exchanged : IsPermutation (losses_of answers) (loss 1 3 ∷ loss 0 4 ∷ [])
exchanged = record { moves = (0, 1) ∷ []; below = (lit≤ tt, lit≤ tt, tt); is = refl }

are_losses : AreLosses (loss 1 3 ∷ loss 0 4 ∷ []) answers
are_losses = record { are = exchanged; in_order = in_order }

-- all crashes, but not by epoch
same_losses : IsPermutation (losses_of answers) (loss 0 4 ∷ loss 1 3 ∷ [])
same_losses = IsPermutation-refl (losses_of answers)

not_in_order : AreLosses (loss 0 4 ∷ loss 1 3 ∷ []) answers → ⊥
not_in_order are = let le : 4 ≤ 3 = are.in_order 0 1 (loss 0 4) (lit≤ tt) (lit≤ tt) in absurd (omega (arith, le))

-- by epoch, but one that did not take place
one_in_order : IsNonDecreasingBy (λ (l : Loss). l.epoch.n) (loss 0 4 ∷ [])
one_in_order zero zero d le low = lit≤ tt
one_in_order (suc i) zero d le low = absurd (omega (arith, le))
one_in_order i (suc j) d le low = absurd (omega (arith, low))

none_moved : (xs : List Loss) (moves : List (ℕ × ℕ)) → SwapsInRange 0 moves → xs ≡ apply_swaps [] moves → xs ≡ []
none_moved xs [] below is = is
none_moved xs (m ∷ moves) below is = let low = below.0 in absurd (omega (arith, low))

-- an answer on no name is to no own line
pub on_no_name : (b : Bool) → (b && false) ≡ true → ⊥
on_no_name true is = false≢true is
on_no_name false is = false≢true is

pub none_from_none : (xs : List Loss) → IsPermutation [] xs → xs ≡ []
none_from_none xs moved = none_moved xs moved.moves moved.below moved.is

a_loss_of_no_crash : AreLosses (loss 0 4 ∷ []) (answer (Read a) Freed ∷ []) → ⊥
a_loss_of_no_crash are = absurd (let none : loss 0 4 ∷ [] ≡ [] = none_from_none (loss 0 4 ∷ []) are.are in cc)
