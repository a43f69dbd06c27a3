-- Worked examples of slots, and of what a filter answers.
use Rattle.std.proofs.Common.{◌≡◌, ◌≢◌, ◌⊎◌, ◌∙◌, ℕ, zero, suc, ◌+◌, ◌*◌, true, false, List, [], ◌∷◌, Some, None, Contains, get_or, refl, sym, ap, lit≤, arith, inl, inr}
use Rattle.cb_class.specs.declared.class.Class.{Class}
use Rattle.cb_class.specs.Class.{pages_of}
use Rattle.cb_frame.specs.Runs.{least_run}
use Rattle.cb_ptr.specs.declared.word.State.TheVariants as state
use Rattle.cb_types.specs.declared.config.Config.{Config}
use Rattle.cb_types.specs.declared.reply.Reply.{Reply}
use Rattle.cb_types.specs.declared.reply.Reply.TheVariants as answer
use Rattle.cb_span.specs.declared.temp.Temp.TheVariants.{Hot, Cold}
use Rattle.cb_span.specs.Contents.{Contents}
use Rattle.cb_world.specs.declared.access.Access.{Access}
use Rattle.cb_world.specs.declared.access.Access.TheVariants.{Looked, Claimed, Told, Stored, Settled}
use Rattle.cb_world.specs.Empty.{empty_far}
use Rattle.cb_world.specs.FarState.{FarState}
use Rattle.cb_world.specs.Placed.{HasRoom, Slot, IsChosen}
use Rattle.cb_world.proofs.Laws.{some_same}
use Rattle.cb_filter.specs.Seats.{Seat, IsSeatOf, temp_for, with_moved}
use Rattle.cb_filter.specs.FilterRule.{EmptyToFilter, AbsentToFilter, IsInPlace, HasNoSlot, GetsSlot, WasClaimed, FilterHere, FilterAs, FilterRule, NeedsMemory}
use Rattle.cb_filter.specs.Refused.{RefusedAs}

-- the class of 1,024 bytes, with four slots a span
abbrev pub largest : Class
largest = record { index = 11 }

abbrev pub config : Config
config = record {
  k = 2;
  r = 1;
  nodes = 3;
  frames = 3;
  room = 4;
  handles = 3;
  turns = 0;
}

-- and one page
pub one_page : pages_of largest ≡ 1
unfolding pages_of
one_page = refl

-- frame 0 holds a cold span with object 1, frame 1 a hot one with object 0 alone, and frame 2 is free
abbrev pub hot_span : Contents
hot_span = record { class = largest; temp = Hot; slots = Some 0 ∷ None ∷ None ∷ None ∷ [] }

abbrev pub cold_span : Contents
cold_span = record { class = largest; temp = Cold; slots = None ∷ Some 1 ∷ None ∷ None ∷ [] }

abbrev pub far : FarState
far = record (empty_far 1 config) {
  made = 2;
  frames = false ∷ false ∷ true ∷ [];
  spans = Some cold_span ∷ Some hot_span ∷ None ∷ [];
}

abbrev pub seat : Seat
seat = record { frame = 1; number = 0; span = hot_span }

pub stands : IsSeatOf far 0 seat
stands = record { there = refl; named = refl }

-- an object that is not there, a span that is in another frame, a slot that is empty
another_object : ¬ (IsSeatOf far 1 seat)
another_object x = absurd (let z : 0 ≡ 1 = some_same 0 1 x.named in omega (arith, z))

another_frame : ¬ (IsSeatOf far 0 (record seat { frame = 2 }))
another_frame x = absurd (no_span hot_span x.there)
  where
    no_span : (y : Contents) → None ≡ Some y → ⊥
    no_span y e = cc

another_number : ¬ (IsSeatOf far 0 (record seat { number = 1 }))
another_number x = absurd (let z : None ≡ Some 0 = x.named in cc)

-- hot objects belong in hot spans, others in cold ones
hot_for : temp_for true ≡ Hot
hot_for = refl

cold_for : temp_for false ≡ Cold
cold_for = refl

-- the first empty slot of the cold span
abbrev pub slot : Slot
slot = record { frame = 0; number = 0; span = cold_span; free = far.frames }

abbrev pub moved : FarState
moved = record far {
  frames = false ∷ true ∷ true ∷ [];
  spans = Some (record cold_span { slots = Some 0 ∷ Some 1 ∷ None ∷ None ∷ [] })
      ∷ None
      ∷ None
      ∷ [];
}

-- the object was alone in its span, which is gone
left_alone : with_moved far seat slot 0 ≡ moved
unfolding pages_of
left_alone = refl

-- beside another object it leaves its slot alone
abbrev shared_span : Contents
shared_span = record hot_span { slots = Some 0 ∷ Some 2 ∷ None ∷ None ∷ [] }

left_another : with_moved far (record seat { span = shared_span }) slot 0 ≡ record far {
  spans = Some (record cold_span { slots = Some 0 ∷ Some 1 ∷ None ∷ None ∷ [] })
      ∷ Some (record hot_span { slots = None ∷ Some 2 ∷ None ∷ None ∷ [] })
      ∷ None
      ∷ [];
}
left_another = refl

-- ---- which slot
pub no_frame : (f : ℕ) → Contains [] f → ⊥
no_frame f c = omega (arith, c.1)

pub hot_cold : Hot ≢ Cold
hot_cold e = cc

pub chosen : IsChosen far largest Cold slot
chosen = inl (record {
  there = refl;
  room = (refl, no_frame 0);
  least = λ f below. absurd (omega (arith, below));
  number = refl;
  of_class = refl;
  of_temp = refl;
  free = refl;
})

pub in_place : IsInPlace far far Hot seat answer.Same
in_place = record { same = refl; reply = refl; state = refl }

in_place_of_a_cold_one : ¬ (IsInPlace far far Cold seat answer.Same)
in_place_of_a_cold_one x = hot_cold x.same

in_place_and_moved : ¬ (IsInPlace far far Hot seat answer.Moved)
in_place_and_moved x = absurd (let z : answer.Moved ≡ answer.Same = x.reply in cc)

in_place_with_a_change : ¬ (IsInPlace far moved Hot seat answer.Same)
in_place_with_a_change x = absurd (let z : true ≡ false =
    ap (λ (q : FarState). get_or q.frames 1 false) x.state in cc)

pub gets : GetsSlot far moved Cold seat 0 slot answer.Moved
gets = record { other = hot_cold; chosen = chosen; reply = refl; state = sym left_alone }

gets_one_like_its_own : ¬ (GetsSlot far moved Hot seat 0 slot answer.Moved)
gets_one_like_its_own x = x.other refl

gets_the_next_one : ¬ (GetsSlot far moved Cold seat 0 (record slot { number = 2 }) answer.Moved)
gets_the_next_one x = next x.chosen
  where
    next : IsChosen far largest Cold (record slot { number = 2 }) → ⊥
    next (inl y) = absurd (let z : 0 ≡ 2 = some_same 0 2 y.number in omega (arith, z))
    next (inr y) = absurd (let z : 2 ≡ 0 = y.number in omega (arith, z))

gets_and_stays : ¬ (GetsSlot far moved Cold seat 0 slot answer.Same)
gets_and_stays x = absurd (let z : answer.Same ≡ answer.Moved = x.reply in cc)

gets_without_a_change : ¬ (GetsSlot far far Cold seat 0 slot answer.Moved)
gets_without_a_change x = absurd (let z : false ≡ true =
    ap (λ (q : FarState). get_or q.frames 1 false) (x.state ∙ left_alone) in cc)

-- the cold span is full, and no frame is free
abbrev pub full_span : Contents
full_span = record cold_span { slots = Some 1 ∷ Some 2 ∷ Some 3 ∷ Some 4 ∷ [] }

abbrev pub full : FarState
full = record far {
  frames = false ∷ false ∷ false ∷ [];
  spans = Some full_span ∷ Some hot_span ∷ None ∷ [];
}

pub no_room : (f : ℕ) → ¬ (HasRoom full largest Cold f)
no_room zero may = absurd (let z : None ≡ Some 23 = may.0 in cc)
no_room (suc zero) may = absurd (let z : 22 ≡ 23 = some_same 22 23 may.0 in omega (arith, z))
no_room (suc (suc zero)) may = absurd (let z : None ≡ Some 23 = may.0 in cc)
no_room (suc (suc (suc f))) may = absurd (let z : None ≡ Some 23 = may.0 in cc)

pub no_slot : HasNoSlot 3 full full Cold seat (answer.NoSlot 3)
no_slot = record {
  other = hot_cold;
  crammed = record { full = no_room; taken = ap (least_run (false ∷ false ∷ false ∷ [])) one_page };
  reply = refl;
  state = refl;
}

no_slot_for_a_hot_one : ¬ (HasNoSlot 3 full full Hot seat (answer.NoSlot 3))
no_slot_for_a_hot_one x = x.other refl

no_slot_beside_an_empty_one : ¬ (HasNoSlot 3 far far Cold seat (answer.NoSlot 3))
no_slot_beside_an_empty_one x = x.crammed.full 0 (refl, no_frame 0)

no_slot_of_four_frames : ¬ (HasNoSlot 3 full full Cold seat (answer.NoSlot 4))
no_slot_of_four_frames x = absurd (let z : 4 ≡ 3 = ap frames_of x.reply in omega (arith, z))
  where
    frames_of : Reply → ℕ
    frames_of (answer.NoSlot n) = n
    frames_of r = 0

no_slot_with_a_change : ¬ (HasNoSlot 3 full far Cold seat (answer.NoSlot 3))
no_slot_with_a_change x = absurd (let z : true ≡ false =
    ap (λ (q : FarState). get_or q.frames 2 false) x.state in cc)

-- ---- by the word
-- the object is at place 512 with 1,024 bytes, not hot
abbrev pub word : ℕ
word = 2 + 1024 * 8192 + 512 * 536870912

abbrev pinned_word : ℕ
pinned_word = word + 4 + 2 * 8

abbrev pub claim : List Access
claim = Claimed 0 word 7 [] ∷ Settled 0 word ∷ []

was_claimed : WasClaimed 0 word claim
was_claimed = (refl, (7, [], inr (refl, refl, refl)))

not_claimed : ¬ (WasClaimed 0 word (Looked 0 word ∷ []))
not_claimed x = x.1.2

claimed_with_pins : ¬ (WasClaimed 0 pinned_word claim)
claimed_with_pins x = absurd (let z : 2 ≡ 0 = x.0 in omega (arith, z))

-- it moves, since its word is not hot
here_moves : FilterHere 3 0 word far moved answer.Moved claim
here_moves = inr (was_claimed, (seat, stands, inr (inr (slot, gets))))

here_pinned : FilterHere 3 0 pinned_word far far (answer.Pinned 2) (Looked 0 pinned_word ∷ [])
here_pinned = inl (lit≤ tt, refl, refl)

here_pinned_and_changed : ¬ (FilterHere 3 0 pinned_word far moved (answer.Pinned 2)
    (Looked 0 pinned_word ∷ []))
here_pinned_and_changed (inl x) = absurd (let z : true ≡ false =
    ap (λ (q : FarState). get_or q.frames 1 false) x.2 in cc)
here_pinned_and_changed (inr x) = x.0.1.2

here_with_another_count : ¬ (FilterHere 3 0 pinned_word far far (answer.Pinned 1)
    (Looked 0 pinned_word ∷ []))
here_with_another_count (inl x) = absurd (let z : 1 ≡ 2 = ap count_of x.1 in omega (arith, z))
  where
    count_of : Reply → ℕ
    count_of (answer.Pinned n) = n
    count_of r = 0
here_with_another_count (inr x) = x.0.1.2

-- an object that is not here
never_made : AbsentToFilter state.Empty 0 (Looked 0 0 ∷ Told 0 0 ∷ []) answer.Unmade
never_made = (0, inr (refl, refl), refl)

freed : AbsentToFilter state.Empty 0 (Looked 0 0 ∷ Told 0 9 ∷ []) answer.NotHere
freed = (9, inr (refl, refl), refl)

freed_is_not_unmade : ¬ (EmptyToFilter 9 answer.Unmade)
freed_is_not_unmade e = absurd (let z : answer.Unmade ≡ answer.NotHere = e in cc)

unmade_is_not_freed : ¬ (EmptyToFilter 0 answer.NotHere)
unmade_is_not_freed e = absurd (let z : answer.NotHere ≡ answer.Unmade = e in cc)

untold : ¬ (AbsentToFilter state.Empty 0 (Looked 0 0 ∷ []) answer.Unmade)
untold x = x.1

far_away : AbsentToFilter state.Far 0 [] answer.NotHere
far_away = refl

far_away_is_not_moving : ¬ (AbsentToFilter state.Far 0 [] answer.Moving)
far_away_is_not_moving e = absurd (let z : answer.Moving ≡ answer.NotHere = e in cc)

moving : AbsentToFilter state.Moving 0 [] answer.Moving
moving = refl

moving_is_here : ¬ (AbsentToFilter state.Here 0 [] answer.Moving)
moving_is_here x = x

refused_moving : FilterAs state.Moving 3 0 (word + 1) far far answer.Moving []
refused_moving = (refl, refl)

refused_with_a_change : ¬ (FilterAs state.Moving 3 0 (word + 1) far moved answer.Moving [])
refused_with_a_change x = absurd (let z : true ≡ false =
    ap (λ (q : FarState). get_or q.frames 1 false) x.1 in cc)

refused_pinned : RefusedAs state.Here 0 pinned_word [] (answer.Pinned 2)
refused_pinned = (lit≤ tt, refl)

refused_without_pins : ¬ (RefusedAs state.Here 0 word [] (answer.Pinned 0))
refused_without_pins x = absurd (omega (arith, x.0))

-- ---- the rule
rule : FilterRule 3 0 far moved answer.Moved claim
rule = record {
  word = word;
  found = inr ((refl, refl), ((λ x e. e), tt));
  settles_last = (tt, tt, tt, tt);
  unmade = λ e. absurd cc;
  answer = here_moves;
}

rule_of_none : FilterRule 3 0 far far answer.Unmade (Looked 0 0 ∷ Told 0 0 ∷ [])
rule_of_none = record {
  word = 0;
  found = inr ((refl, refl), ((λ x e. e), tt));
  settles_last = tt;
  unmade = λ e. tt;
  answer = (never_made, refl);
}

-- nothing was found; a word was stored behind the pointer word; an object that was never made was
-- changed
rule_without_a_look : ¬ (FilterRule 3 0 far far answer.Unmade (Told 0 0 ∷ []))
rule_without_a_look x = found x.found
  where
    found : ⊥ ⊎ (⊥ × Unit {0}) → ⊥
    found (inl y) = y
    found (inr y) = y.0

rule_with_a_late_store : ¬ (FilterRule 3 0 far far answer.Unmade
    (Looked 0 0 ∷ Told 0 0 ∷ Settled 0 0 ∷ Stored 0 0 ∷ []))
rule_with_a_late_store x = x.settles_last.1

rule_of_a_change : ¬ (FilterRule 3 0 far far answer.Unmade (Looked 0 0 ∷ Told 0 0 ∷ Settled 0 0 ∷ []))
rule_of_a_change x = x.unmade refl

-- ---- no memory
-- the cold span is full, and frame 2 is free
abbrev pub short : FarState
short = record full { frames = false ∷ false ∷ true ∷ [] }

no_memory : NeedsMemory 0 short short claim
no_memory = record {
  word = word;
  found = inr ((refl, refl), ((λ x e. e), tt));
  claimed = was_claimed;
  seat = seat;
  stands = record { there = refl; named = refl };
  other = hot_cold;
  needs = record { full = no_room; first = 2; some_free = ap (least_run short.frames) one_page };
  state = refl;
}

no_memory_with_a_change : ¬ (NeedsMemory 0 short moved claim)
no_memory_with_a_change x = absurd (let z : true ≡ false =
    ap (λ (q : FarState). get_or q.frames 1 false) x.state in cc)

no_memory_without_a_claim : ¬ (NeedsMemory 0 short short (Looked 0 word ∷ []))
no_memory_without_a_claim x = x.claimed.1.2
