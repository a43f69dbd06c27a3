-- Lists of answers that are legal, and lists that break one part of what legal means.
use Rattle.std.proofs.Common.{◌≡◌, ℕ, zero, suc, eqb, false, List, [], ◌∷◌, ◌++◌, refl, arith, inl, inr}
use Rattle.std.proofs.lemmas.Bool.{ne_eqb}
use Rattle.cb_types.specs.declared.answer.Answer.{Answer}
use Rattle.cb_types.specs.declared.request.Request.{Request}
use Rattle.cb_types.specs.declared.request.Request.TheVariants.{Make, Read, Write, Free, Pin}
use Rattle.cb_types.specs.declared.reply.Reply.{Reply}
use Rattle.cb_types.specs.declared.reply.Reply.TheVariants.{Made, Version, Bytes, Full, Unmade, Freed, Moving, Range, Worn}
use Rattle.cb_model.specs.Called.{calls_of, history}
use Rattle.cb_model.specs.History.{IsHistory}
use Rattle.cb_model.specs.Legal.{Follow, IsLegal, IsLegalInOrder}
use Rattle.cb_model.proofs.Order.{legal_in_order}

-- an answer to a lane
abbrev pub told : ℕ → Request → Reply → Answer
told lane request reply = record { lane = record { n = lane }; line = 0; request = request; reply = reply }

abbrev pub a : List ℕ
a = 97 ∷ []

abbrev b : List ℕ
b = 98 ∷ []

abbrev made : ℕ → ℕ → Reply
made handle version = Made (record { n = handle }) version

-- every reply of the map, by two lanes, with two handles to give
abbrev whole : List Answer
whole =
    told 0 (Make a (10 ∷ 11 ∷ [])) (made 0 1)
    ∷ told 1 (Read a) (Bytes 1 (10 ∷ 11 ∷ []))
    ∷ told 1 (Write a 0 (255 ∷ 238 ∷ [])) (Version 2)
    ∷ told 1 (Write a 1 (1 ∷ 2 ∷ [])) (Range 2)
    ∷ told 2 (Write a 2 []) (Version 3)
    ∷ told 1 (Pin a) (Version 3)
    ∷ told 1 (Read a) (Bytes 3 (255 ∷ 238 ∷ []))
    ∷ told 1 (Make b (7 ∷ [])) (made 1 1)
    ∷ told 2 (Free a) (Version 4)
    ∷ told 2 (Free a) Freed
    ∷ told 1 (Read a) Freed
    ∷ told 2 (Make (99 ∷ []) (1 ∷ [])) (Full 2)
    ∷ told 2 (Read (99 ∷ [])) Unmade
    ∷ []

whole_follows : Follow 1 2 [] (calls_of whole)
whole_follows = (
  record { reply = (refl, omega arith, refl); unmade = tt },
  (
    record { reply = (refl, refl); unmade = tt },
    (
      record { reply = (omega arith, refl); unmade = tt },
      (
        record { reply = (omega arith, refl); unmade = tt },
        (
          record { reply = (omega arith, refl); unmade = tt },
          (
            record { reply = refl; unmade = tt },
            (
              record { reply = (refl, refl); unmade = tt },
              (
                record { reply = (refl, omega arith, refl); unmade = tt },
                (
                  record { reply = refl; unmade = tt },
                  (
                    record { reply = tt; unmade = tt },
                    (
                      record { reply = tt; unmade = tt },
                      (
                        record { reply = (refl, refl); unmade = tt },
                        (
                          record { reply = tt; unmade = tt },
                          tt,
                        ),
                      ),
                    ),
                  ),
                ),
              ),
            ),
          ),
        ),
      ),
    ),
  ),
)

whole_is_legal : IsLegalInOrder 1 2 whole
whole_is_legal = legal_in_order 1 2 whole whole_follows

-- ---- histories

two_makes_of_one_handle : IsLegal 1 2 (told 1 (Make a (1 ∷ [])) (made 0 1) ∷ told 1 (Make b (2 ∷ [])) (made 0 1) ∷ [])
    → ⊥
two_makes_of_one_handle legal = (legal.histories 0).1

a_make_past_the_first_version : IsLegal 1 2 (told 1 (Make a (1 ∷ [])) (made 0 2) ∷ []) → ⊥
a_make_past_the_first_version legal = absurd (let e = (legal.histories 0).0 in cc)

a_version_left_out : IsLegal 1 2 (told 1 (Make a (1 ∷ [])) (made 0 1) ∷ told 1 (Write a 0 (2 ∷ [])) (Version 3) ∷ [])
    → ⊥
a_version_left_out legal = absurd (let e = (legal.histories 0).1.0 in cc)

two_writes_at_one_version : IsLegal 1 2 (told 1 (Make a (1 ∷ [])) (made 0 1) ∷ told 1 (Write a 0 (2 ∷ [])) (Version 2) ∷ told 2 (Write a 0 (3 ∷ [])) (Version 2) ∷ [])
    → ⊥
two_writes_at_one_version legal = absurd (let e = (legal.histories 0).1.2.0 in cc)

a_write_past_the_end : IsLegal 1 2 (told 1 (Make a (1 ∷ [])) (made 0 1) ∷ told 1 (Write a 1 (2 ∷ [])) (Version 2) ∷ [])
    → ⊥
a_write_past_the_end legal = absurd (let within = (legal.histories 0).1.1 in omega (arith, within))

a_write_behind_a_free : IsLegal 1 2 (told 1 (Make a (1 ∷ [])) (made 0 1) ∷ told 1 (Free a) (Version 2) ∷ told 2 (Write a 0 (2 ∷ [])) (Version 3) ∷ [])
    → ⊥
a_write_behind_a_free legal = absurd (let e = (legal.histories 0).1.1 in cc)

-- ---- what is told

bytes_of_another_version : IsLegal 1 2 (told 1 (Make a (1 ∷ [])) (made 0 1) ∷ told 1 (Write a 0 (2 ∷ [])) (Version 2) ∷ told 1 (Read a) (Bytes 2 (1 ∷ [])) ∷ [])
    → ⊥
bytes_of_another_version legal = absurd (let e = legal.told.1.1.0 in cc)

a_version_that_never_was : IsLegal 1 2 (told 1 (Make a (1 ∷ [])) (made 0 1) ∷ told 1 (Read a) (Bytes 2 (1 ∷ [])) ∷ [])
    → ⊥
a_version_that_never_was legal = absurd (let e = legal.told.1.0 in cc)

bytes_of_a_free : IsLegal 1 2 (told 1 (Make a (1 ∷ [])) (made 0 1) ∷ told 1 (Free a) (Version 2) ∷ told 2 (Read a) (Bytes 2 (1 ∷ [])) ∷ [])
    → ⊥
bytes_of_a_free legal = absurd (let e = legal.told.1.1.0 in cc)

a_pin_of_a_free : IsLegal 1 2 (told 1 (Make a (1 ∷ [])) (made 0 1) ∷ told 1 (Free a) (Version 2) ∷ told 2 (Pin a) (Version 2) ∷ [])
    → ⊥
a_pin_of_a_free legal = absurd (let e = legal.told.1.1.0.1 in cc)

freed_with_no_free : IsLegal 1 2 (told 1 (Make a (1 ∷ [])) (made 0 1) ∷ told 1 (Read a) Freed ∷ [])
    → ⊥
freed_with_no_free legal = absurd (let e = legal.told.1.0.1 in cc)

a_range_of_another_length : IsLegal 1 2 (told 1 (Make a (1 ∷ [])) (made 0 1) ∷ told 1 (Write a 2 (2 ∷ [])) (Range 2) ∷ [])
    → ⊥
a_range_of_another_length legal = absurd (let e = legal.told.1.0.0 in cc)

a_range_of_a_write_that_fits : IsLegal 1 2 (told 1 (Make a (1 ∷ [])) (made 0 1) ∷ told 1 (Write a 0 (2 ∷ [])) (Range 1) ∷ [])
    → ⊥
a_range_of_a_write_that_fits legal = absurd (let past = legal.told.1.0.1 in omega (arith, past))

unmade_for_a_made_name : IsLegal 1 2 (told 1 (Make a (1 ∷ [])) (made 0 1) ∷ told 1 (Read a) Unmade ∷ [])
    → ⊥
unmade_for_a_made_name legal = legal.told.1.0

another_refusal_where_the_make_was_refused : IsLegal 1 0 (told 1 (Make a (1 ∷ [])) (Full 0) ∷ told 1 (Read a) Moving ∷ [])
    → ⊥
another_refusal_where_the_make_was_refused legal = legal.told.1.0

full_with_a_handle_left : IsLegal 1 2 (told 1 (Make a (1 ∷ [])) (made 0 1) ∷ told 1 (Make b (1 ∷ [])) (Full 2) ∷ [])
    → ⊥
full_with_a_handle_left legal = absurd (let e = legal.told.1.0.0 in cc)

full_with_another_number : IsLegal 1 1 (told 1 (Make a (1 ∷ [])) (made 0 1) ∷ told 1 (Make b (1 ∷ [])) (Full 2) ∷ [])
    → ⊥
full_with_another_number legal = absurd (let e = legal.told.1.0.1 in cc)

a_handle_past_the_last : IsLegal 1 2 (told 1 (Make a (1 ∷ [])) (made 2 1) ∷ []) → ⊥
a_handle_past_the_last legal = absurd (let lt = legal.told.0 in omega (arith, lt))

a_reply_of_another_line : IsLegal 1 2 (told 1 (Make a (1 ∷ [])) (made 0 1) ∷ told 1 (Read a) (Version 1) ∷ [])
    → ⊥
a_reply_of_another_line legal = legal.told.1.0

-- ---- what a lane is told, one answer after the other

abbrev made_and_written : List Answer
made_and_written =
    told 2 (Make a (1 ∷ [])) (made 0 1) ∷ told 2 (Write a 0 (2 ∷ [])) (Version 2) ∷ []

a_version_that_falls : IsLegal 1 2 (made_and_written ++ told 1 (Read a) (Bytes 2 (2 ∷ [])) ∷ told 1 (Read a) (Bytes 1 (1 ∷ [])) ∷ [])
    → ⊥
a_version_that_falls legal =
    absurd (let le = legal.rising.1.1.0.0 0 (inl refl) refl refl 2 refl in omega (arith, le))

a_version_below_what_lane_0_was_told : IsLegal 1 2 (made_and_written ++ told 0 (Read a) (Bytes 2 (2 ∷ [])) ∷ told 1 (Read a) (Bytes 1 (1 ∷ [])) ∷ [])
    → ⊥
a_version_below_what_lane_0_was_told legal =
    absurd (let le = legal.rising.1.1.0.0 0 (inr refl) refl refl 2 refl in omega (arith, le))

a_write_at_a_version_that_its_lane_was_told : IsLegal 1 2 (told 1 (Make a (1 ∷ [])) (made 0 1) ∷ told 1 (Read a) (Bytes 2 (2 ∷ [])) ∷ told 1 (Write a 0 (2 ∷ [])) (Version 2) ∷ [])
    → ⊥
a_write_at_a_version_that_its_lane_was_told legal =
    absurd (let lt = legal.rising.1.0.0 0 (inl refl) refl refl 2 refl in omega (arith, lt))

bytes_behind_freed : IsLegal 1 2 (told 2 (Make a (1 ∷ [])) (made 0 1) ∷ told 2 (Free a) (Version 2) ∷ told 1 (Read a) Freed ∷ told 1 (Read a) (Bytes 1 (1 ∷ [])) ∷ [])
    → ⊥
bytes_behind_freed legal = absurd (let e = legal.rising.1.1.0.0 0 (inl refl) refl refl in cc)

-- ---- in order

-- the list is legal, but the read was answered late
abbrev late : List Answer
late = made_and_written ++ told 1 (Read a) (Bytes 1 (1 ∷ [])) ∷ []

late_is_legal : IsLegal 1 2 late
late_is_legal = record {
  histories = each;
  told = (omega arith, (tt, (refl, tt)));
  rising = (
    (λ h teller earlier later v e. (let one : 1 ≡ v = cc in omega arith), (λ h teller earlier later v e. (let one : 1 ≡ v = cc in omega arith), tt)),
    ((λ h teller earlier later. elim teller [ inl same ↦ absurd cc | inr first ↦ absurd cc ], tt), (tt, tt)),
  );
} where
  each : (h : ℕ) → IsHistory 1 (history (calls_of late) h)
  each zero = (refl, (refl, omega arith, tt))
  each (suc h) =
      let other : eqb (suc h) 0 ≡ false = ne_eqb (suc h) 0 (λ e. omega arith) in rw other tt

late_is_out_of_order : IsLegalInOrder 1 2 late → ⊥
late_is_out_of_order legal = absurd (let e = legal.in_order.1.1.0.reply.0 in cc)

a_handle_left_out : IsLegalInOrder 1 2 (told 1 (Make a (1 ∷ [])) (made 1 1) ∷ []) → ⊥
a_handle_left_out legal = absurd (let e = legal.in_order.0.reply.0 in cc)

a_refusal_of_what_was_freed : IsLegalInOrder 1 2 (told 1 (Make a (1 ∷ [])) (made 0 1) ∷ told 1 (Free a) (Version 2) ∷ told 1 (Read a) Moving ∷ [])
    → ⊥
a_refusal_of_what_was_freed legal = legal.in_order.1.1.0.reply

a_refused_make_where_all_were_made : IsLegalInOrder 1 1 (told 1 (Make a (1 ∷ [])) (made 0 1) ∷ told 1 (Make b (1 ∷ [])) Worn ∷ [])
    → ⊥
a_refused_make_where_all_were_made legal =
    absurd (let lt = legal.in_order.1.0.reply in omega (arith, lt))
