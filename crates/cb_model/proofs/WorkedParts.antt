-- For each part of what one order means, and of what times show, a value that breaks that part alone.
use Rattle.std.proofs.Common.{◌≡◌, ℕ, zero, suc, ◌≤◌, List, [], ◌∷◌, ◌++◌, get_or, Option, Some, None, refl, arith, inl, inr, ap}
use Rattle.std.specs.Prelude.{◌≢◌}
use Rattle.std.specs.List.{AllByRecursion}
use Rattle.std.proofs.lemmas.Bool.{ne_eqb}
use Rattle.cb_types.specs.declared.answer.Answer.{Answer}
use Rattle.cb_types.specs.declared.request.Request.TheVariants.{Make, Read, Write}
use Rattle.cb_types.specs.declared.reply.Reply.{Reply}
use Rattle.cb_types.specs.declared.reply.Reply.TheVariants.{Made, Version, Bytes, Moving}
use Rattle.cb_model.specs.Now.{Change}
use Rattle.cb_model.specs.Now.Change.{Create, Overwrite, Remove}
use Rattle.cb_model.specs.Event.Event.{Makes, Shows, Pins, Writes, Frees, FindsFull, FindsUnmade, FindsFreed, FindsEnd, Refused}
use Rattle.cb_model.specs.Event.Subject.{NewObject, Contents}
use Rattle.cb_model.specs.Event.{Event}
use Rattle.cb_model.specs.Called.{Called}
use Rattle.cb_model.specs.Serial.{IsOrderOf, answers_of}
use Rattle.cb_model.specs.Times.{Timed, AreTimes, IsZeroFirst}
use Rattle.cb_model.specs.Shown.{HandleChange, HaveKnownNames, MakeHistory, ShowsCall}
use Rattle.cb_model.specs.Dated.{IsDated, AreDated, TellsTime}
use Rattle.cb_model.specs.Lanes.{RunsAlone, RunTogether, RunInLanes}
use Rattle.cb_model.proofs.WorkedAnswers.{told, a}
use Rattle.cb_model.proofs.WorkedTimes.{at, b, make_a, make_b, write_a}
use Rattle.cb_model.proofs.WorkedLanes.{answers, changes, lane_0, lane_1, lane_of, read_old, refused}

-- ---- an order of answers

kept_in_order : IsOrderOf answers (make_a ∷ refused ∷ read_old ∷ write_a ∷ [])
kept_in_order = record {
  kept = each;
  others = refused ∷ read_old ∷ write_a ∷ [];
  begins = refl;
} where
  each : (lane : ℕ) → answers_of lane (make_a ∷ refused ∷ read_old ∷ write_a ∷ []) ≡ answers_of lane answers
  each zero = refl
  each (suc zero) = refl
  each (suc (suc zero)) = refl
  each (suc (suc (suc lane))) =
      let one = ne_eqb 1 (suc (suc (suc lane))) (λ e. omega (arith, e)) in
      let two = ne_eqb 2 (suc (suc (suc lane))) (λ e. omega (arith, e)) in simp (one, two) refl

abbrev is_moving : Reply → ℕ
is_moving Moving = 1
is_moving reply = 0

abbrev moves_first : List Answer → ℕ
moves_first [] = 0
moves_first (x ∷ xs) = is_moving x.reply

an_answer_left_out : IsOrderOf answers (make_a ∷ refused ∷ read_old ∷ []) → ⊥
an_answer_left_out is = absurd (let e = is.kept 1 in cc)

two_of_a_lane_exchanged : IsOrderOf answers (make_a ∷ write_a ∷ read_old ∷ refused ∷ []) → ⊥
two_of_a_lane_exchanged is =
    let e : read_old ∷ refused ∷ [] ≡ refused ∷ read_old ∷ [] = is.kept 2 in
    let other : 0 ≡ 1 = ap moves_first e in omega (arith, other)

lane_0_later : IsOrderOf answers (write_a ∷ make_a ∷ refused ∷ read_old ∷ []) → ⊥
lane_0_later is = absurd (let e = is.begins in cc)

-- ---- times

abbrev rest : List Timed → List Timed
rest [] = []
rest (t ∷ ts) = ts

abbrev second : List Timed → ℕ
second (t ∷ u ∷ ts) = u.answer.lane.n
second ts = 0

abbrev write_b : Answer
write_b = told 2 (Write b 0 (6 ∷ [])) (Version 2)

abbrev read_new : Answer
read_new = told 2 (Read a) (Bytes 2 (2 ∷ []))

two_changes_at_one_time : AreTimes 1 2 (at 0 make_a ∷ at 1 make_b ∷ at 2 write_a ∷ at 2 write_b ∷ [])
    → ⊥
two_changes_at_one_time times = absurd (let le : 2 ≤ 1 = times.one 2 in omega (arith, le))

a_reply_of_another_time : AreTimes 1 2 (at 0 make_a ∷ at 1 write_a ∷ at 2 read_old ∷ []) → ⊥
a_reply_of_another_time times = absurd (let e = times.replies.1.1.0.reply.0 in cc)

a_call_before_an_earlier_one : AreTimes 1 2 (at 0 make_a ∷ at 1 write_a ∷ at 2 read_new ∷ at 1 read_old ∷ [])
    → ⊥
a_call_before_an_earlier_one times =
    absurd (let le = times.in_program_order.1.1.0.0 (inl refl) in omega (arith, le))

a_call_before_lane_0 : AreTimes 1 2 (at 0 make_a ∷ at 2 make_b ∷ at 1 write_a ∷ []) → ⊥
a_call_before_lane_0 times =
    absurd (let le = times.in_program_order.1.0.0 (inr refl) in omega (arith, le))

lane_1_first : IsZeroFirst (at 0 make_a ∷ at 1 write_a ∷ at 2 make_b ∷ []) → ⊥
lane_1_first is = none is.zero is.others is.parts is.of_zero is.of_others where
  none : (zs us : List Timed) → at 0 make_a ∷ at 1 write_a ∷ at 2 make_b ∷ [] ≡ zs ++ us
      → AllByRecursion (λ (t : Timed). t.answer.lane.n ≡ 0) zs
      → AllByRecursion (λ (t : Timed). t.answer.lane.n ≢ 0) us → ⊥
  none [] us e first others =
      absurd (let f : at 0 make_a ∷ at 1 write_a ∷ at 2 make_b ∷ [] ≡ us = e in (rw (← f) at others).0 refl)
  none (z ∷ []) us e first others =
      let f : at 1 write_a ∷ at 2 make_b ∷ [] ≡ us = ap (λ (ts : List Timed). rest ts) e in
      (rw (← f) at others).1.0 refl
  none (z ∷ y ∷ zs) us e first others =
      let f : 1 ≡ y.answer.lane.n = ap (λ (ts : List Timed). second ts) e in omega (arith, f, first.1.0)

-- ---- a history

a_change_of_no_call : MakeHistory changes (at 0 make_a ∷ []) → ⊥
a_change_of_no_call each = absurd (let e : 0 ≡ 1 = each 1 in omega (arith, e))

a_call_of_no_change : MakeHistory [] (at 0 make_a ∷ []) → ⊥
a_call_of_no_change each = absurd (let e : 1 ≡ 0 = each 0 in omega (arith, e))

abbrev call : Option ℕ → Event → Called
call handle event = record { lane = 1; handle = handle; event = event }

abbrev byte_in : Change → ℕ
byte_in (Create bytes) = get_or bytes 0 0
byte_in (Overwrite at bytes) = get_or bytes 0 0
byte_in Remove = 0

abbrev byte_of : List HandleChange → ℕ
byte_of [] = 0
byte_of (s ∷ ss) = byte_in s.change.1

shown_then : ShowsCall 1 2 changes 1 (call (Some 0) (Shows 1 (1 ∷ [])))
shown_then = record { reply = (refl, refl); unmade = tt; next = λ e. absurd cc }

shown_too_late : ShowsCall 1 2 changes 2 (call (Some 0) (Shows 1 (1 ∷ []))) → ⊥
shown_too_late shows = absurd (let e = shows.reply.0 in cc)

unmade_with_a_handle : ShowsCall 1 2 [] 0 (call (Some 0) FindsUnmade) → ⊥
unmade_with_a_handle shows = shows.unmade

another_change_is_next : ShowsCall 1 2 changes 0 (call (Some 0) (Makes (9 ∷ []) 1)) → ⊥
another_change_is_next shows =
    let e : 9 ≡ 1 = ap byte_of (shows.next refl) in omega (arith, e)

two_lines_make_a_name : HaveKnownNames (make_a ∷ make_a ∷ []) → ⊥
two_lines_make_a_name names = absurd (let le : 2 ≤ 1 = names.once a in omega (arith, le))

a_name_of_another_lane : HaveKnownNames (told 1 (Make a (1 ∷ [])) (Made (record { n = 0 }) 1) ∷ read_old ∷ [])
    → ⊥
a_name_of_another_lane names =
    elim (names.known.1.0 a refl) [
      | inl made ↦ elim made.1 [ inl same ↦ omega (arith, same) | inr first ↦ omega (arith, first) ]
      | inr none ↦ none
    ]

-- ---- versions

another_handle_than_the_next : TellsTime 2 1 (Some 0) None (Makes (1 ∷ []) 1) → ⊥
another_handle_than_the_next tells = absurd (let e = tells.0 in cc)

a_make_of_an_object_that_there_is : TellsTime 2 1 (Some 1) (Some (1, Create [])) (Makes [] 1) → ⊥
a_make_of_an_object_that_there_is tells = absurd (let e = tells.1 in cc)

an_older_version_is_read : TellsTime 2 1 (Some 0) (Some (2, Overwrite 0 [])) (Shows 1 []) → ⊥
an_older_version_is_read tells = absurd (let e = tells in omega (arith, e))

an_older_version_is_pinned : TellsTime 2 1 (Some 0) (Some (2, Overwrite 0 [])) (Pins 1) → ⊥
an_older_version_is_pinned tells = absurd (let e = tells in omega (arith, e))

a_version_is_left_out : TellsTime 2 1 (Some 0) (Some (1, Create [])) (Writes 0 [] 3) → ⊥
a_version_is_left_out tells =
    absurd (let last = tells.1 in let next = tells.2 in omega (arith, last, next))

a_free_at_the_version_before : TellsTime 2 1 (Some 0) (Some (1, Create [])) (Frees 1) → ⊥
a_free_at_the_version_before tells =
    absurd (let last = tells.1 in let next = tells.2 in omega (arith, last, next))

full_with_a_handle_left : TellsTime 2 1 None None (FindsFull 2) → ⊥
full_with_a_handle_left tells = absurd (let e = tells in omega (arith, e))

freed_where_it_is_there : TellsTime 2 1 (Some 0) (Some (1, Create [])) FindsFreed → ⊥
freed_where_it_is_there tells = tells

range_where_it_was_freed : TellsTime 2 1 (Some 0) (Some (2, Remove)) (FindsEnd 1 [] 0) → ⊥
range_where_it_was_freed tells = tells

refused_where_it_was_freed : TellsTime 2 1 (Some 0) (Some (2, Remove)) (Refused Contents) → ⊥
refused_where_it_was_freed tells = tells

a_make_refused_where_all_were_made : TellsTime 2 2 None None (Refused NewObject) → ⊥
a_make_refused_where_all_were_made tells = absurd (let lt = tells in omega (arith, lt))

another_change_than_the_next : IsDated 2 changes 1 (call (Some 0) (Writes 0 (3 ∷ []) 2)) → ⊥
another_change_than_the_next dated =
    let e : 3 ≡ 2 = ap byte_of (dated.next refl) in omega (arith, e)

-- the bytes of no version: the time tells the version, and the answers are not legal
other_bytes : AreDated 1 2 changes (at 0 make_a ∷ at 1 write_a ∷ at 1 (told 2 (Read a) (Bytes 1 (9 ∷ []))) ∷ [])
    → ⊥
other_bytes dated = absurd (let e = dated.legal.told.1.1.0 in cc)

-- ---- lanes

a_call_of_another_lane : RunsAlone 1 (lane_of 2 (at 1 write_a ∷ [])) → ⊥
a_call_of_another_lane runs = absurd (let e = runs.own.0 in omega (arith, e))

a_call_before_the_clock : RunsAlone 1 (lane_of 1 (at 0 write_a ∷ [])) → ⊥
a_call_before_the_clock runs = absurd (let le = runs.runs.0 in omega (arith, le))

calls_in_another_order : RunsAlone 1 (lane_of 1 (at 2 write_a ∷ at 1 write_a ∷ [])) → ⊥
calls_in_another_order runs = absurd (let le = runs.runs.1.0 in omega (arith, le))

lane_0_again : RunTogether 1 (lane_of 0 [] ∷ []) → ⊥
lane_0_again run = run.1 refl

two_lanes_of_one_number : RunTogether 1 (lane_1 ∷ lane_of 1 [] ∷ []) → ⊥
two_lanes_of_one_number run = run.2.0 refl

another_lane_first : RunInLanes (lane_of 1 []) [] → ⊥
another_lane_first run = absurd (let e = run.is_zero in omega (arith, e))

a_lane_before_lane_0_ended : RunInLanes lane_0 (lane_of 1 (at 0 write_a ∷ []) ∷ []) → ⊥
a_lane_before_lane_0_ended run =
    absurd (let low = run.first.runs.1 in let le = run.others.0.runs.0 in omega (arith, low, le))
