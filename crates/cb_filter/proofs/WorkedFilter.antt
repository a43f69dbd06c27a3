-- Worked examples of what a filter does, of copied words, and of the parts of a filter.
use Rattle.std.proofs.Common.{subst, ◌∙◌, ◌≡◌, ◌≢◌, ℕ, zero, suc, Bool, ◌+◌, ◌*◌, ◌^◌, ◌<◌, true, false, List, [], ◌∷◌, None, Some, length, get_or, refl, ap, lit<, lit≤, arith, inl, inr}
use Rattle.cb_class.specs.Class.{slots_of, pages_of, bytes_of, words_of}
use Rattle.cb_frame.specs.FreeFrames.{IsFreeFrame}
use Rattle.cb_ptr.specs.declared.word.State.TheVariants as state
use Rattle.cb_types.specs.declared.reply.Reply.TheVariants as answer
use Rattle.cb_span.specs.declared.temp.Temp.TheVariants.{Hot, Cold}
use Rattle.cb_world.specs.declared.entry.Entry.{Entry}
use Rattle.cb_world.specs.declared.object.Object.{Object}
use Rattle.cb_world.specs.declared.object.Object.TheVariants as is
use Rattle.cb_world.specs.declared.access.Access.{Access}
use Rattle.cb_world.specs.declared.access.Access.TheVariants.{Looked, Claimed, Loaded, Stored, Stamped, Settled}
use Rattle.cb_world.specs.declared.shown.Shown.{Shown}
use Rattle.cb_world.specs.Memory.{put}
use Rattle.cb_world.specs.Shown.{Avoids, object_at, never}
use Rattle.cb_world.specs.FarState.{FarState}
use Rattle.cb_world.specs.Placed.{place_in}
use Rattle.cb_world.specs.Played.{played}
use Rattle.cb_world.specs.Looks.{NoLook}
use Rattle.cb_world.specs.Touches.{SettlesLast}
use Rattle.cb_world.specs.Allowed.{Allowed}
use Rattle.cb_world.specs.Settling.{MaySettle}
use Rattle.cb_world.proofs.Laws.{length_put}
use Rattle.cb_filter.specs.declared.planning.Plan.TheVariants as plan
use Rattle.cb_filter.specs.FilterEffect.{IsCooled, IsMoved, FilterEffect}
use Rattle.cb_filter.specs.Copies.{copied_from, IsCoolWord, IsVacant}
use Rattle.cb_filter.specs.Plans.{LiesAtPlace, Plans, Wants}
use Rattle.cb_filter.specs.ClaimEnds.{IsKnownAt, ClaimEnds, IsSettledBack, IsCarried, SeatEnds}
use Rattle.cb_filter.proofs.Settled.{now_fields}
use Rattle.cb_filter.proofs.WorkedSeats.{far, moved, full, short, seat, slot, stands, chosen, gets, in_place, hot_cold, no_room}

-- object 0 has 16 bytes at place 512, and its word was hot; object 1 lies at place 128
abbrev s : Shown
s = record {
  first = 1;
  objects = is.Here 16 512 ∷ is.Here 16 128 ∷ never ∷ [];
  hots = false ∷ false ∷ false ∷ [];
  versions = 4 ∷ 3 ∷ 0 ∷ [];
  memory = 1 ∷ 2 ∷ 3 ∷ [];
}

abbrev cold_word : ℕ
cold_word = 2 + 16 * 8192 + 512 * 536870912

abbrev hot_word : ℕ
hot_word = cold_word + 4

-- its claim tells the version 7
abbrev cooling : List Access
cooling = Claimed 0 hot_word 7 [] ∷ Settled 0 cold_word ∷ []

abbrev t : Shown
t = record s { versions = 7 ∷ 3 ∷ 0 ∷ [] }

cooled : IsCooled 0 cooling s t
unfolding put
cooled = record {
  objects = refl;
  hots = refl;
  versions = refl;
  memory = refl;
  nothing = λ old. refl;
}

-- an object that moved, a bit that stayed, a version and a word that changed, a version that was
-- written
cooled_elsewhere : ¬ (IsCooled 0 cooling s (record t {
  objects = is.Here 16 0 ∷ is.Here 16 128 ∷ never ∷ [];
}))
cooled_elsewhere x = absurd (let z : 0 ≡ 512 = ap (λ (l : List Object). at (get_or l 0 never))
    x.objects in omega (arith, z))
  where
    at : Object → ℕ
    at (is.Here len place) = place
    at o = 1

still_hot : ¬ (IsCooled 0 cooling s (record t { hots = true ∷ false ∷ false ∷ [] }))
still_hot x = absurd (let z : true ≡ false = ap (λ (l : List Bool). get_or l 0 false) x.hots in cc)

cooled_at_another_version : ¬ (IsCooled 0 cooling s s)
cooled_at_another_version x =
    absurd (let z : 4 ≡ 7 = ap (λ (l : List ℕ). get_or l 0 0) x.versions in omega (arith, z))

cooled_with_a_store : ¬ (IsCooled 0 cooling s (record t { memory = 1 ∷ 9 ∷ 3 ∷ [] }))
unfolding put
cooled_with_a_store x =
    absurd (let z : 9 ≡ 2 = ap (λ (l : List ℕ). get_or l 1 0) x.memory in omega (arith, z))

cooled_and_written : ¬ (IsCooled 0
    (Claimed 0 hot_word 7 [] ∷ Stamped 0 8 ∷ Settled 0 cold_word ∷ []) s t)
unfolding put
cooled_and_written x = absurd (let z : 1 ≡ 0 = ap (λ (l : List Entry). length l) (x.nothing [])
    in omega (arith, z))

-- ---- moved
abbrev moving : List Access
moving = Claimed 0 cold_word 7 (5 ∷ 6 ∷ []) ∷ Settled 0 (2 + 16 * 8192) ∷ []

abbrev there : Shown
there = record s {
  objects = is.Here 16 0 ∷ is.Here 16 128 ∷ never ∷ [];
  versions = 7 ∷ 3 ∷ 0 ∷ [];
  memory = 5 ∷ 6 ∷ 3 ∷ [];
}

moves : IsMoved 0 far moved moving s there
unfolding put words_of bytes_of pages_of
moves = record {
  word = cold_word;
  version = 7;
  words = 5 ∷ 6 ∷ [];
  seat = seat;
  slot = slot;
  found = inr ((refl, refl), ((λ x e. e), tt));
  taken = inr (refl, refl, refl);
  stood = stands;
  other = hot_cold;
  chosen = chosen;
  state = refl;
  objects = refl;
  hots = refl;
  versions = refl;
  memory = refl;
  nothing = λ old. refl;
}

moved_without_a_claim : ¬ (IsMoved 0 far moved (Looked 0 cold_word ∷ []) s there)
moved_without_a_claim x = x.taken

moved_hot : ¬ (IsMoved 0 far moved moving s (record there { hots = true ∷ false ∷ false ∷ [] }))
moved_hot x = absurd (let z : true ≡ false = ap (λ (l : List Bool). get_or l 0 false) x.hots in cc)

moved_at_another_version : ¬ (IsMoved 0 far moved moving s (record there {
  versions = 8 ∷ 3 ∷ 0 ∷ [];
}))
moved_at_another_version x =
    absurd (let z : 8 ≡ 7 = ap (λ (l : List ℕ). get_or l 0 0) x.versions in omega (arith, z))

moved_and_written : ¬ (IsMoved 0 far moved
    (Claimed 0 cold_word 7 [] ∷ Stamped 0 8 ∷ Settled 0 (2 + 16 * 8192) ∷ []) s there)
unfolding put
moved_and_written x = absurd (let z : 1 ≡ 0 = ap (λ (l : List Entry). length l) (x.nothing [])
    in omega (arith, z))

moved_with_another : ¬ (IsMoved 0 far moved moving s (record there {
  objects = is.Here 16 0 ∷ never ∷ never ∷ [];
}))
moved_with_another x = absurd (let z : 1 ≡ 128 = ap (λ (l : List Object). at (get_or l 1 never))
    x.objects in omega (arith, z))
  where
    at : Object → ℕ
    at (is.Here len place) = place
    at o = 1

moved_with_fewer_words : ¬ (IsMoved 0 far moved moving s (record there { memory = [] }))
unfolding put
moved_with_fewer_words x = absurd (let z : 0 ≡ 3 =
    ap (λ (l : List ℕ). length l) x.memory ∙ length_put s.memory (place_in x.slot) x.words in
    omega (arith, z))

-- ---- the effect
effect : FilterEffect 0 far far answer.Same cooling s t
unfolding put
effect = record { change = cooled; same_now = λ k. now_fields t t far k refl refl refl }

effect_without_a_change : ¬ (FilterEffect 0 far far answer.Same cooling s
    (record t { hots = true ∷ false ∷ false ∷ [] }))
effect_without_a_change x = still_hot x.change

-- ---- copies
copies : copied_from 512 0 (5 ∷ 6 ∷ [])
    ≡ Loaded 512 5 ∷ Stored 0 5 ∷ Loaded 513 6 ∷ Stored 1 6 ∷ []
copies = refl

cool : IsCoolWord hot_word 512 cold_word
cool = record {
  state = refl;
  pins = refl;
  len = refl;
  at = refl;
  hot = refl;
  below = lit< tt;
}

cool_and_claimed : ¬ (IsCoolWord hot_word 512 (cold_word + 1))
cool_and_claimed x = absurd (let z : state.Moving ≡ state.Here = x.state in cc)

cool_with_a_pin : ¬ (IsCoolWord hot_word 512 (cold_word + 8))
cool_with_a_pin x = absurd (let z : 1 ≡ 0 = x.pins in omega (arith, z))

cool_of_another_length : ¬ (IsCoolWord hot_word 512 (cold_word + 8192))
cool_of_another_length x = absurd (let z : 17 ≡ 16 = x.len in omega (arith, z))

cool_elsewhere : ¬ (IsCoolWord hot_word 0 cold_word)
cool_elsewhere x = absurd (let z : 512 ≡ 0 = x.at in omega (arith, z))

cool_and_hot : ¬ (IsCoolWord hot_word 512 hot_word)
cool_and_hot x = absurd (let z : true ≡ false = x.hot in cc)

cool_with_a_high_bit : ¬ (IsCoolWord hot_word 512 (cold_word + 2 ^ 53))
cool_with_a_high_bit x = absurd (omega (arith, x.below))

-- object 0 may lie at the first two words
vacant : IsVacant s 0 cold_word 0
vacant = record {
  within = lit≤ tt;
  alone = λ p covers. (omega (arith, covers.1), λ k off. other k p covers.1 off);
  apart = λ p mine yours. omega (arith, mine.1, yours.0);
}
  where
    other : (k p : ℕ) → p < 2 → k ≢ 0 → Avoids p (object_at s k)
    other zero p below off = absurd (off refl)
    other (suc zero) p below off = λ covers. omega (arith, covers.0, below)
    other (suc (suc zero)) p below off = tt
    other (suc (suc (suc k))) p below off = tt

vacant_past_the_end : ¬ (IsVacant s 0 cold_word 2)
vacant_past_the_end x = absurd (omega (arith, x.within))

-- another object lies there; and the object itself
vacant_where_another_lies : ¬ (IsVacant (record s {
  objects = is.Here 16 512 ∷ is.Here 16 1 ∷ never ∷ [];
}) 0 cold_word 0)
vacant_where_another_lies x =
    (x.alone 1 (lit≤ tt, lit< tt)).1 1 (λ e. omega (arith, e)) (lit≤ tt, lit< tt)

vacant_where_it_lies : ¬ (IsVacant (record s {
  objects = is.Here 16 0 ∷ is.Here 16 128 ∷ never ∷ [];
}) 0 (2 + 16 * 8192) 1)
vacant_where_it_lies x = x.apart 1 (lit≤ tt, lit< tt) (lit≤ tt, lit< tt)

-- ---- plans
lies : LiesAtPlace far 512 seat
unfolding slots_of pages_of bytes_of words_of
lies = record {
  there = refl;
  at = refl;
  inside = lit< tt;
  valid = record { in_table = lit< tt; sized = refl };
  within = lit< tt;
  counted = lit< tt;
  alone = λ g behind to. absurd (omega (arith, behind, to));
  busy = λ g from to free. let one : g ≡ 1 = omega (arith, from, to) in
      let z : false ≡ true = subst (IsFreeFrame far.frames) one free in cc;
}

lies_elsewhere : ¬ (LiesAtPlace far 640 seat)
unfolding words_of bytes_of
lies_elsewhere x = absurd (let z : 640 ≡ 512 = x.at in omega (arith, z))

plans_same : Plans far far Hot 0 seat plan.Same
plans_same = (refl, refl)

plans_same_of_another : ¬ (Plans far far Cold 0 seat plan.Same)
plans_same_of_another x = hot_cold x.0

plans_none : Plans full full Cold 0 seat plan.NoSlot
unfolding pages_of
plans_none = (hot_cold, record { full = no_room; taken = refl }, refl)

plans_none_of_its_own : ¬ (Plans full full Hot 0 seat plan.NoSlot)
plans_none_of_its_own x = x.0 refl

-- the object has both slots
abbrev both : FarState
both = record moved { frames = far.frames; spans = get_or moved.spans 0 None ∷ get_or far.spans 1 None ∷ None ∷ [] }

plans_move : Plans far both Cold 0 seat (plan.Move 0)
unfolding words_of bytes_of
plans_move = (slot, hot_cold, chosen, refl, refl)

plans_move_of_its_own : ¬ (Plans far both Hot 0 seat (plan.Move 0))
plans_move_of_its_own x = x.1 refl

wants : Wants short Cold seat
unfolding pages_of
wants = (hot_cold, record { full = no_room; first = 2; some_free = refl })

wants_where_none_is_free : ¬ (Wants full Cold seat)
unfolding pages_of
wants_where_none_is_free x = absurd (let z : None ≡ Some x.1.first = x.1.some_free in cc)

-- ---- ends
abbrev claimed : Shown
claimed = record s {
  objects = is.Claimed 16 512 7 [] ∷ is.Here 16 128 ∷ never ∷ [];
  versions = 7 ∷ 3 ∷ 0 ∷ [];
}

back : IsSettledBack claimed 0 hot_word false (Settled 0 cold_word ∷ []) t
back = record { settled = refl; nothing = λ old. refl }

back_and_hot : ¬ (IsSettledBack claimed 0 hot_word true (Settled 0 cold_word ∷ []) t)
back_and_hot x = absurd (let z : false ≡ true =
    ap (λ (q : Shown). get_or q.hots 0 false) x.settled in cc)

back_and_written : ¬ (IsSettledBack claimed 0 hot_word false
    (Stamped 0 8 ∷ Settled 0 cold_word ∷ []) t)
back_and_written x = absurd (let z : 1 ≡ 0 = ap (λ (l : List Entry). length l) (x.nothing []) in
    omega (arith, z))

carried : IsCarried claimed 0 cold_word 0 (5 ∷ 6 ∷ []) (Settled 0 (2 + 16 * 8192) ∷ []) there
unfolding put
carried = record { settled = refl; nothing = λ old. refl }

carried_elsewhere : ¬ (IsCarried claimed 0 cold_word 1 (5 ∷ 6 ∷ [])
    (Settled 0 (2 + 16 * 8192) ∷ []) there)
unfolding put
carried_elsewhere x = absurd (let z : 5 ≡ 1 =
    ap (λ (q : Shown). get_or q.memory 0 0) x.settled in omega (arith, z))

carried_and_written : ¬ (IsCarried claimed 0 cold_word 0 (5 ∷ 6 ∷ [])
    (Stamped 0 8 ∷ Settled 0 (2 + 16 * 8192) ∷ []) there)
carried_and_written x = absurd (let z : 1 ≡ 0 = ap (λ (l : List Entry). length l) (x.nothing []) in
    omega (arith, z))

-- it moves, is settled where it was, or goes back
ends_moved : SeatEnds 3 far moved 0 cold_word seat answer.Moved (Settled 0 (2 + 16 * 8192) ∷ [])
    claimed there (5 ∷ 6 ∷ [])
unfolding words_of bytes_of
ends_moved = inr (inr (slot, gets, carried))

ends_same : SeatEnds 3 far far 0 hot_word seat answer.Same (Settled 0 cold_word ∷ []) claimed t []
ends_same = inl (in_place, back)

ends_same_of_a_cold_one : ¬ (SeatEnds 3 far far 0 cold_word seat answer.Same
    (Settled 0 cold_word ∷ []) claimed t [])
ends_same_of_a_cold_one (inl x) = hot_cold x.0.same
ends_same_of_a_cold_one (inr (inl x)) = absurd (let z : answer.Same ≡ answer.NoSlot 3 = x.0.reply in
    cc)
ends_same_of_a_cold_one (inr (inr x)) = absurd (let z : answer.Same ≡ answer.Moved = x.1.reply in
    cc)

-- ---- the events behind a claim
abbrev Ending : (List Access → Type 0) → (Shown → Type 0) → Type 0
Ending runs knows = ClaimEnds runs (λ q v words. knows q) 0 (λ es q u words. u ≡ played es q)

ends : Ending (λ es. es ≡ Settled 0 cold_word ∷ []) (λ q. MaySettle q 0 cold_word)
ends = record {
  events = Settled 0 cold_word ∷ [];
  ran = refl;
  no_look = ((λ w e. e), tt);
  looks_first = (tt, tt);
  settles_last = (tt, tt, tt, tt);
  quiet = λ q. refl;
  allowed = λ q v words k. (k, tt);
  ends_so = λ q v words k. refl;
}

-- a look, a late store, and a word at which no object may be settled
ends_with_a_look : ¬ (Ending (λ es. es ≡ Looked 0 1 ∷ []) (λ q. Unit {0}))
ends_with_a_look x = (subst (NoLook 0) x.ran x.no_look).0 1 (refl, refl)

ends_with_a_store : ¬ (Ending (λ es. es ≡ Settled 0 cold_word ∷ Stored 0 1 ∷ [])
    (λ q. MaySettle q 0 cold_word))
ends_with_a_store x = (subst SettlesLast x.ran x.settles_last).1

ends_while_moving : ¬ (Ending (λ es. es ≡ Settled 0 3 ∷ []) (λ q. Unit {0}))
ends_while_moving x = (subst (Allowed s) x.ran (x.allowed s 0 [] tt)).0

-- an object that is not claimed is not known so
known_and_here : ¬ (IsKnownAt s far 0 cold_word 4 [])
known_and_here x = here x.claimed.object
  where
    here : is.Here 16 512 ≡ is.Claimed 16 512 4 [] → ⊥
    here e = cc
