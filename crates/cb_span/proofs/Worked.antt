-- Worked spans: what meets each definition, and what breaks one of its parts alone.
use Rattle.std.proofs.Common.{◌≡◌, ℕ, List, [], ◌∷◌, Option, Some, None, refl, arith}
use Rattle.cb_class.specs.declared.class.Class.{Class}
use Rattle.cb_class.specs.Class.{bytes_of, pages_of, slots_of, words_of}
use Rattle.cb_span.specs.declared.temp.Temp.TheVariants.{Hot, Cold}
use Rattle.cb_span.specs.Contents.{Contents, IsSpan, handle_at, least_empty, live_count, new_span, span_of, with_cleared, with_placed}
use Rattle.cb_span.specs.Kept.{IsKept}
use Rattle.cb_span.specs.Places.{frame_of, slot_in, slot_place}

-- a span of slots of 1,024 bytes, with objects in slots 0 and 2
abbrev largest : Class
largest = record { index = 11 }

abbrev slots : List (Option ℕ)
slots = Some 7 ∷ None ∷ Some 9 ∷ None ∷ []

abbrev span : Contents
span = span_of largest Cold slots

is_span : IsSpan span
unfolding slots_of pages_of bytes_of
is_span = record { in_table = omega arith; sized = refl }

no_such_class : ¬ (IsSpan (span_of (record { index = 16 }) Cold slots))
no_such_class h = absurd (omega (arith, h.in_table))

a_slot_too_many : ¬ (IsSpan (span_of largest Cold (None ∷ slots)))
unfolding slots_of pages_of bytes_of
a_slot_too_many h = absurd (omega (arith, h.sized))

fresh : new_span largest Hot ≡ span_of largest Hot (None ∷ None ∷ None ∷ None ∷ [])
unfolding slots_of pages_of bytes_of
fresh = refl

taken : handle_at span 2 ≡ Some 9
taken = refl

empty : handle_at span 1 ≡ None
empty = refl

past_the_last : handle_at span 4 ≡ None
past_the_last = refl

placed : with_placed span 1 8 ≡ span_of largest Cold (Some 7 ∷ Some 8 ∷ Some 9 ∷ None ∷ [])
placed = refl

cleared : with_cleared span 2 ≡ span_of largest Cold (Some 7 ∷ None ∷ None ∷ None ∷ [])
cleared = refl

first_hole : least_empty span ≡ Some 1
first_hole = refl

no_hole : least_empty (span_of largest Cold (Some 1 ∷ Some 2 ∷ [])) ≡ None
no_hole = refl

two : live_count span ≡ 2
two = refl

-- what is kept beside the slots: two are taken, and all below slot 1
kept : IsKept span 2 1
kept = record {
  valid = is_span;
  counted = refl;
  within = omega arith;
  taken = λ k below. let only : k ≡ 0 = omega arith in rw only refl;
}

one_counted : ¬ (IsKept span 1 1)
one_counted h = absurd (omega (arith, h.counted))

hole_below : ¬ (IsKept span 2 2)
hole_below h = absurd (let hole = h.taken 1 (omega arith) in cc)

below_past_the_last : ¬ (IsKept span 2 5)
below_past_the_last h = absurd (omega (arith, h.within))

-- slots of 48 bytes have 6 words, and frame 3 begins at memory word 1536
abbrev small : Class
small = record { index = 2 }

place : slot_place small 3 84 ≡ 2040
unfolding words_of bytes_of
place = refl

frame : frame_of 2040 ≡ 3
frame = refl

last_word_of_the_frame_before : frame_of 1535 ≡ 2
last_word_of_the_frame_before = refl

slot : slot_in small 3 2040 ≡ 84
unfolding words_of bytes_of
slot = refl

last_word_of_the_first_slot : slot_in small 3 1541 ≡ 0
unfolding words_of bytes_of
last_word_of_the_first_slot = refl

-- of a span that begins one frame earlier it is a later slot
slot_of_an_earlier_span : slot_in small 2 2040 ≡ 169
unfolding words_of bytes_of
slot_of_an_earlier_span = refl

-- slots of 4,096 bytes have 512 words, and those of a span that begins at frame 3 are frames 3 to 6
abbrev widest : Class
widest = record { index = 15 }

last_frame_of_a_run : slot_place widest 3 3 ≡ 3072
unfolding words_of bytes_of
last_frame_of_a_run = refl

frame_of_the_last_slot : frame_of 3072 ≡ 6
frame_of_the_last_slot = refl

slot_behind_the_first_frame : slot_in widest 3 3583 ≡ 3
unfolding words_of bytes_of
slot_behind_the_first_frame = refl
