-- The laws of a span's contents that the crates above cite.
use Rattle.std.proofs.Common.{Bool, ◌≡◌, ◌≢◌, ℕ, suc, ◌+◌, ◌<◌, ◌≤◌, true, false, List, [], ◌∷◌, Option, count_by, get_or, Some, None, is_none, is_some, length, set, replicate, refl, ap, sym, ◌∙◌, arith, inl, inr, if◌then◌else◌}
use Rattle.std.specs.List.{position_or_len}
use Rattle.std.proofs.lemmas.Bool.{cases_lt, false≢true, le-ltb, lt-ltb}
use Rattle.std.proofs.lemmas.List.{get_or-set_other, get_or-set_same, get_or-replicate, get_or_past, length-replicate, length-set, set-get_or, set-set}
use Rattle.std.proofs.lemmas.List.Folds.{sum_by-replicate}
use Rattle.std.proofs.lemmas.List.Quantifiers.{position-Some}
use Rattle.std.proofs.lemmas.List.Sums.{count_by-le-length, fails_before_first, passes_at_first, position_or_len_is, sum_by-cons, sum_by-set}
use Rattle.cb_class.specs.declared.class.Class.{Class}
use Rattle.cb_class.specs.Class.{IsClass, slots_of}
use Rattle.cb_class.proofs.Laws.{slots_at_most}
use Rattle.cb_span.specs.declared.temp.Temp.{Temp}
use Rattle.cb_span.specs.Contents.{Contents, IsSpan, handle_at, least_empty, live_count, new_span, span_of, with_cleared, with_placed}
pub use Rattle.cb_span.proofs.Places.{frame_of-slot_place, frames_apart, same_slot, slot_in-slot_place}

-- an option that holds nothing is None
none_unless : (o : Option ℕ) → ((x : ℕ) → o ≡ Some x → ⊥) → o ≡ None
none_unless None never = refl
none_unless (Some x) never = absurd (never x refl)

-- what the test for None tells
none_from_test : (o : Option ℕ) → is_none o ≡ true → o ≡ None
none_from_test None holds = refl
none_from_test (Some x) holds = absurd (false≢true holds)

some_from_test : (o : Option ℕ) → is_none o ≡ false → is_some o ≡ true
some_from_test None fails = absurd (false≢true (sym fails))
some_from_test (Some x) fails = refl

pub test_from_none : (o : Option ℕ) → is_some o ≡ false → is_none o ≡ true
test_from_none None fails = refl
test_from_none (Some x) fails = absurd (false≢true (sym fails))

-- a taken slot is in range
pub slot_in_range : (span : Contents) (slot handle : ℕ) → handle_at span slot ≡ Some handle
    → slot < length span.slots
slot_in_range span slot handle taken = elim (cases_lt slot (length span.slots)) [
  | inl within ↦ within
  | inr past ↦ absurd (let empty : handle_at span slot ≡ None =
      get_or_past span.slots slot None past in cc)
]

-- a span has at most 256 slots
pub slots-le : (span : Contents) → IsSpan span → length span.slots ≤ 256
slots-le span valid = omega (arith, valid.sized, slots_at_most span.class valid.in_table)

-- a new span is a span, and what is placed or cleared stays one
pub IsSpan-new_span : (class : Class) (temp : Temp) → IsClass class → IsSpan (new_span class temp)
IsSpan-new_span class temp known =
    record { in_table = known; sized = length-replicate (slots_of class) None }

pub IsSpan-with_placed : (span : Contents) (slot handle : ℕ) → IsSpan span
    → IsSpan (with_placed span slot handle)
IsSpan-with_placed span slot handle valid =
    record {
      in_table = valid.in_table;
      sized =
          length-set span.slots slot (Some handle) ∙ valid.sized;
    }

pub IsSpan-with_cleared : (span : Contents) (slot : ℕ) → IsSpan span
    → IsSpan (with_cleared span slot)
IsSpan-with_cleared span slot valid =
    record { in_table = valid.in_table; sized = length-set span.slots slot None ∙ valid.sized }

-- what the slots hold after a change of one
pub handle_at-new_span : (class : Class) (temp : Temp) (slot : ℕ)
    → handle_at (new_span class temp) slot ≡ None
handle_at-new_span class temp slot = elim (cases_lt slot (slots_of class)) [
  | inl within ↦ get_or-replicate (slots_of class) slot None None within
  | inr past ↦ get_or_past (replicate (slots_of class) None) slot None
      (omega (arith, length-replicate {A = Option ℕ} (slots_of class) None))
]

pub handle_at-with_placed : (span : Contents) (slot handle : ℕ) → slot < length span.slots
    → handle_at (with_placed span slot handle) slot ≡ Some handle
handle_at-with_placed span slot handle within =
    get_or-set_same span.slots slot (Some handle) None within

pub handle_at-with_placed_other : (span : Contents) (slot handle other : ℕ) → other ≢ slot
    → handle_at (with_placed span slot handle) other ≡ handle_at span other
handle_at-with_placed_other span slot handle other apart =
    get_or-set_other span.slots slot other (Some handle) None apart

pub handle_at-with_cleared : (span : Contents) (slot : ℕ)
    → handle_at (with_cleared span slot) slot ≡ None
handle_at-with_cleared span slot = elim (cases_lt slot (length span.slots)) [
  | inl within ↦ get_or-set_same span.slots slot None None within
  | inr past ↦ get_or_past (set span.slots slot None) slot None
      (omega (arith, length-set span.slots slot None))
]

pub handle_at-with_cleared_other : (span : Contents) (slot other : ℕ) → other ≢ slot
    → handle_at (with_cleared span slot) other ≡ handle_at span other
handle_at-with_cleared_other span slot other apart =
    get_or-set_other span.slots slot other None None apart

-- the span with these slots
abbrev with_slots : Contents → List (Option ℕ) → Contents
with_slots span slots = record { class = span.class; temp = span.temp; slots = slots }

-- two writes to one slot, of which the last is what stood there
write_back : (span : Contents) (slot : ℕ) (other back : Option ℕ) → handle_at span slot ≡ back
    → with_slots span (set (set span.slots slot other) slot back) ≡ span
write_back span slot other back was =
    ap (with_slots span)
    (set-set span.slots slot other back ∙ ap (set span.slots slot) (sym was)
    ∙ set-get_or span.slots slot None)

-- to clear a slot that was placed into leaves the span as it was, and so does placing back what was
-- cleared
pub cleared-placed : (span : Contents) (slot handle : ℕ) → handle_at span slot ≡ None
    → with_cleared (with_placed span slot handle) slot ≡ span
cleared-placed span slot handle empty = write_back span slot (Some handle) None empty

pub placed-cleared : (span : Contents) (slot handle : ℕ) → handle_at span slot ≡ Some handle
    → with_placed (with_cleared span slot) slot handle ≡ span
placed-cleared span slot handle taken = write_back span slot None (Some handle) taken

-- to clear an empty slot changes nothing
pub with_cleared_empty : (span : Contents) (slot : ℕ) → handle_at span slot ≡ None
    → with_cleared span slot ≡ span
with_cleared_empty span slot empty =
    ap (with_slots span) (ap (set span.slots slot) (sym empty) ∙ set-get_or span.slots slot None)

-- how a slot is counted
abbrev counted : Option ℕ → ℕ
counted o = if is_some o then 1 else 0

pub live_count-new_span : (class : Class) (temp : Temp) → live_count (new_span class temp) ≡ 0
live_count-new_span class temp = omega (arith, sum_by-replicate counted (slots_of class) None)

-- one slot more is taken
pub live_count-with_placed : (span : Contents) (slot handle : ℕ) → slot < length span.slots
    → handle_at span slot ≡ None → live_count (with_placed span slot handle) ≡ live_count span + 1
live_count-with_placed span slot handle within empty =
    let change = sum_by-set counted span.slots slot (Some handle) None within in
    let was : counted (handle_at span slot) ≡ 0 = ap counted empty in
    omega (arith, change, was)

-- one slot fewer is taken
pub live_count-with_cleared : (span : Contents) (slot handle : ℕ)
    → handle_at span slot ≡ Some handle → live_count (with_cleared span slot) + 1 ≡ live_count span
live_count-with_cleared span slot handle taken =
    let change = sum_by-set counted span.slots slot None None
    (slot_in_range span slot handle taken) in
    let was : counted (handle_at span slot) ≡ 1 = ap counted taken in
    omega (arith, change, was)

pub live_count-le : (span : Contents) → live_count span ≤ length span.slots
live_count-le span = count_by-le-length is_some span.slots

-- a span with a taken slot has a count above 0, and one with the count 0 has none
pub live_count-pos : (span : Contents) (slot handle : ℕ) → handle_at span slot ≡ Some handle
    → 1 ≤ live_count span
live_count-pos span slot handle taken =
    omega (arith, live_count-with_cleared span slot handle taken)

pub all_empty : (span : Contents) → live_count span ≡ 0 → (slot : ℕ) → handle_at span slot ≡ None
all_empty span none slot =
    none_unless (handle_at span slot)
    (λ handle taken. omega (arith, live_count-pos span slot handle taken))

count_by-all_none : (slots : List (Option ℕ))
    → ((k : ℕ) → k < length slots → get_or slots k None ≡ None) → count_by is_some slots ≡ 0
count_by-all_none [] empty = refl
count_by-all_none (o ∷ slots) empty =
    let first : counted o ≡ 0 = ap counted (empty 0 (omega arith)) in
    let rest : count_by is_some slots ≡ 0 =
    count_by-all_none slots (λ k within. empty (suc k) (omega arith)) in
    omega (arith, sum_by-cons counted o slots, first, rest)

count_by-all_some : (slots : List (Option ℕ))
    → ((k : ℕ) → k < length slots → is_some (get_or slots k None) ≡ true)
    → count_by is_some slots ≡ length slots
count_by-all_some [] taken = refl
count_by-all_some (o ∷ slots) taken =
    let first : counted o ≡ 1 =
    ap (λ (b : Bool). if b then 1 else 0) (taken 0 (omega arith)) in
    let rest : count_by is_some slots ≡ length slots =
    count_by-all_some slots (λ k within. taken (suc k) (omega arith)) in
    omega (arith, sum_by-cons counted o slots, first, rest)

-- a span each of whose slots is empty has the count 0
pub none_taken : (span : Contents) → ((slot : ℕ) → handle_at span slot ≡ None)
    → live_count span ≡ 0
none_taken span empty = count_by-all_none span.slots (λ k within. empty k)

-- a span each of whose slots is taken has the count of its slots
pub live_count_full : (span : Contents)
    → ((slot : ℕ) → slot < length span.slots → is_some (handle_at span slot) ≡ true)
    → live_count span ≡ length span.slots
live_count_full span taken = count_by-all_some span.slots taken

-- the least empty slot is in range and empty, and every slot below it is taken
pub least_empty-Some : (span : Contents) (slot : ℕ) → least_empty span ≡ Some slot
    → (slot < length span.slots) × (handle_at span slot ≡ None)
    × ((k : ℕ) → k < slot → is_some (handle_at span k) ≡ true)
least_empty-Some span slot found =
    let first : (slot < length span.slots) × (is_none (handle_at span slot) ≡ true)
    × ((k : ℕ) → k < slot → is_none (handle_at span k) ≡ false) =
    position-Some is_none span.slots slot None found in (
      first.0,
      none_from_test (handle_at span slot) first.1,
      λ k below. some_from_test
          (handle_at span k) (first.2 k below),
    )

-- where there is no least empty slot, every slot in range is taken
pub least_empty-None : (span : Contents) → least_empty span ≡ None → (slot : ℕ)
    → slot < length span.slots → is_some (handle_at span slot) ≡ true
least_empty-None span full slot within =
    let place = position_or_len is_none span.slots in
    elim (cases_lt place (length span.slots)) [
      | inl inside ↦ absurd
          (let found : least_empty span ≡ Some place =
          rw (lt-ltb place (length span.slots) inside) refl in cc)
      | inr past ↦ some_from_test (handle_at span slot)
          (fails_before_first is_none span.slots slot None (omega arith))
    ]

-- an empty slot in range below which all are taken is the least
pub least_empty-is : (span : Contents) (slot : ℕ) → slot < length span.slots
    → handle_at span slot ≡ None
    → ((k : ℕ) → k < slot → is_none (handle_at span k) ≡ false) → least_empty span ≡ Some slot
least_empty-is span slot within empty before =
    let place : position_or_len is_none span.slots ≡ slot =
    position_or_len_is is_none span.slots slot None (omega arith) before
    (λ _. ap is_none empty) in
    rw (place, lt-ltb slot (length span.slots) within) refl

-- a span that is full by its count has no empty slot
pub least_empty_full : (span : Contents) → live_count span ≡ length span.slots
    → least_empty span ≡ None
least_empty_full span full =
    let place = position_or_len is_none span.slots in
    elim (cases_lt place (length span.slots)) [
      | inl inside ↦
          let empty : handle_at span place ≡ None =
          none_from_test (handle_at span place)
          (passes_at_first is_none span.slots None inside) in
          let more = live_count-with_placed span place 0 inside empty in
          let most = live_count-le (with_placed span place 0) in
          absurd (omega (arith, more, most, full, length-set span.slots place (Some 0)))
      | inr past ↦ rw (le-ltb place (length span.slots) past) refl
    ]

-- a span has no least empty slot exactly where all its slots are taken
pub all_taken : (span : Contents) → live_count span ≡ length span.slots
    → (slot : ℕ) → slot < length span.slots → is_some (handle_at span slot) ≡ true
all_taken span full = least_empty-None span (least_empty_full span full)

pub live_count-no_empty : (span : Contents) → least_empty span ≡ None
    → live_count span ≡ length span.slots
live_count-no_empty span none = live_count_full span (least_empty-None span none)

-- the span of a span's own parts is that span
pub span_of-parts : (span : Contents) → span_of span.class span.temp span.slots ≡ span
span_of-parts span = refl

-- a slot table of the class's length makes a span
pub IsSpan-span_of : (class : Class) (temp : Temp) (slots : List (Option ℕ)) → IsClass class
    → length slots ≡ slots_of class → IsSpan (span_of class temp slots)
IsSpan-span_of class temp slots known sized = record { in_table = known; sized = sized }
