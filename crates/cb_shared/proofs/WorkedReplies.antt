-- Worked replies and jobs: each row of the tables that tell them apart.
use Rattle.std.proofs.Common.{◌≡◌, ℕ, ◌+◌, ◌∙◌, ◌≤◌, Bool, false, List, [], ◌∷◌, None, Some, Ok, Err, refl, ap}
use Rattle.std.proofs.Common.{inl, inr, lit<, lit≤, arith}
use Rattle.std.proofs.lemmas.Bool.{eqb-false}
use Rattle.cb_member.specs.declared.names.Loss.{Loss}
use Rattle.cb_member.specs.declared.no_memory.NoMemory.{NoMemory}
use Rattle.cb_types.specs.declared.job.Job.TheVariants as job
use Rattle.cb_types.specs.declared.reply.Reply.TheVariants as answer
use Rattle.cb_ptr.specs.Word.{state_number}
use Rattle.cb_world.specs.declared.shown.Shown.{Shown}
use Rattle.cb_world.specs.Empty.{empty_far, empty_shown}
use Rattle.cb_shared.specs.declared.answers.WriteAnswer.TheVariants as place
use Rattle.cb_shared.specs.declared.reading.ReadAnswer.TheVariants as found
use Rattle.cb_shared.specs.Calls.{IsAnswerTo, IsCalled, IsLack, IsNoReply, SaysAs, TellsOfIt}
use Rattle.cb_shared.specs.Calls.{the_handle}
use Rattle.cb_shared.specs.Reading.{IsReadRefusal}
use Rattle.cb_shared.specs.Rights.{writes_of}
use Rattle.cb_shared.specs.Turning.{IsReadReply, KnowsIt, PinLacks, Slate, TellsNoPin, answer_of}
use Rattle.cb_shared.specs.Turning.{freed_of, held_by, made_by_turn, made_in, object_of}
use Rattle.cb_shared.specs.Turning.{slate_shows}
use Rattle.cb_shared.specs.UnderLock.{CameThere, IsNoRead, IsReplyTo, IsTriedAgain}
use Rattle.cb_shared.specs.Writing.{IsRoomFor, IsWriteRefusal}
use Rattle.cb_shared.proofs.WorkedGround.{away, calm, full, made, moving, part, pinned, two}

-- ---- a reply of a make, a write or a free that says something of its object
tells_of_it : TellsOfIt (answer.Made (the_handle 1) 3) × TellsOfIt (answer.Version 4)
    × TellsOfIt (answer.Full 2) × TellsOfIt answer.Freed × TellsOfIt (answer.Range 8)
    × TellsOfIt (answer.Pinned 1)
tells_of_it = (tt, tt, tt, tt, tt, tt)

worn_tells_nothing : TellsOfIt answer.Worn → ⊥
worn_tells_nothing t = t

room_tells_nothing : TellsOfIt (answer.NoRoom 1 0 7) → ⊥
room_tells_nothing t = t

moving_tells_nothing : TellsOfIt answer.Moving → ⊥
moving_tells_nothing t = t

bytes_tell_nothing : TellsOfIt (answer.Bytes 3 []) → ⊥
bytes_tell_nothing t = t

crowd_tells_nothing : TellsOfIt answer.Crowded → ⊥
crowd_tells_nothing t = t

lost_tells_nothing : (lost : List Loss)
    → TellsOfIt (answer.Unavailable (record { n = 2 }) lost) → ⊥
lost_tells_nothing lost t = t

-- ---- why it can't be brought in
lacks : (again : Bool) (lost : List Loss)
    → IsLack again (answer.Unavailable (record { n = 2 }) lost) × IsLack again answer.Worn
lacks again lost = (tt, tt)

freed_is_no_lack : IsLack false answer.Freed → ⊥
freed_is_no_lack l = l

version_is_no_lack : IsLack false (answer.Version 3) → ⊥
version_is_no_lack l = l

-- either is an answer, but that a swap has none of the first
worn_answers_all : IsAnswerTo false (job.Make []) answer.Worn
    × IsAnswerTo false (job.Write (the_handle 1) 0 []) (answer.Pinned 1)
    × IsAnswerTo false (job.Swap (the_handle 1)) answer.Worn
worn_answers_all = (inr tt, inl tt, tt)

moving_answers_no_free : IsAnswerTo false (job.Free (the_handle 1)) answer.Moving → ⊥
moving_answers_no_free (inl t) = t
moving_answers_no_free (inr l) = l

version_answers_no_swap : IsAnswerTo false (job.Swap (the_handle 1)) (answer.Version 3) → ⊥
version_answers_no_swap l = l

-- ---- the jobs that calls make turns of
called : IsCalled (job.Make []) × IsCalled (job.Write (the_handle 1) 0 [])
    × IsCalled (job.Free (the_handle 1)) × IsCalled (job.Swap (the_handle 1))
    × IsCalled (job.Read (the_handle 1)) × IsCalled (job.Fetch (the_handle 1)) × IsCalled job.Land
called = (tt, tt, tt, tt, tt, tt, tt)

filters_not_called : IsCalled (job.Filter (the_handle 1)) → ⊥
filters_not_called k = k

-- ---- what a write in place is answered, and the reply that says so
says_all : SaysAs place.Freed answer.Freed × SaysAs (place.Range 8) (answer.Range 8)
    × SaysAs (place.Pinned 1) (answer.Pinned 1) × SaysAs place.Worn answer.Worn
says_all = (refl, refl, refl, refl)

says_another_version : SaysAs (place.Ok 4) (answer.Version 5) → ⊥
says_another_version s = absurd (let e = s in cc)

says_freed_worn : SaysAs place.Freed answer.Worn → ⊥
says_freed_worn s = absurd (let e = s in cc)

says_another_end : SaysAs (place.Range 8) (answer.Range 9) → ⊥
says_another_end s = absurd (let e = s in cc)

says_another_count : SaysAs (place.Pinned 1) (answer.Pinned 2) → ⊥
says_another_count s = absurd (let e = s in cc)

says_worn_freed : SaysAs place.Worn answer.Freed → ⊥
says_worn_freed s = absurd (let e = s in cc)

says_nothing_of_far : SaysAs place.NotHere answer.NotHere → ⊥
says_nothing_of_far s = s

says_nothing_of_moves : SaysAs place.Moving answer.Moving → ⊥
says_nothing_of_moves s = s

no_replies : IsNoReply place.NotHere × IsNoReply place.Moving
no_replies = (tt, tt)

version_is_a_reply : IsNoReply (place.Ok 4) → ⊥
version_is_a_reply r = r

freed_is_a_reply : IsNoReply place.Freed → ⊥
freed_is_a_reply r = r

pins_are_a_reply : IsNoReply (place.Pinned 1) → ⊥
pins_are_a_reply r = r

worn_is_a_reply : IsNoReply place.Worn → ⊥
worn_is_a_reply r = r

-- ---- what a read under a pin is answered in a turn
read_replies : IsReadReply (answer.Bytes 3 []) × IsReadReply answer.Freed
    × IsReadReply answer.Moving × IsReadReply answer.Crowded
read_replies = (tt, tt, tt, tt)

worn_is_no_read_reply : IsReadReply answer.Worn → ⊥
worn_is_no_read_reply r = r

far_is_no_read_reply : IsReadReply answer.NotHere → ⊥
far_is_no_read_reply r = r

module _ (e : NoMemory) where
  replies_to : IsReplyTo (Ok found.Freed) (Ok answer.Freed)
      × IsReplyTo (Ok found.Moving) (Ok answer.Moving)
      × IsReplyTo (Ok found.Crowded) (Ok answer.Crowded) × IsReplyTo (Err e) (Err e)
  replies_to = (refl, refl, refl, refl)

  replies_other_bytes : IsReplyTo (Ok (found.Bytes 3 [])) (Ok (answer.Bytes 4 [])) → ⊥
  replies_other_bytes r = absurd (let i = r in cc)

  replies_freed_moving : IsReplyTo (Ok found.Freed) (Ok answer.Moving) → ⊥
  replies_freed_moving r = absurd (let i = r in cc)

  replies_moving_freed : IsReplyTo (Ok found.Moving) (Ok answer.Freed) → ⊥
  replies_moving_freed r = absurd (let i = r in cc)

  replies_crowded_moving : IsReplyTo (Ok found.Crowded) (Ok answer.Moving) → ⊥
  replies_crowded_moving r = absurd (let i = r in cc)

  replies_no_memory : IsReplyTo (Err e) (Ok answer.Worn) → ⊥
  replies_no_memory r = absurd (let i = r in cc)

  replies_to_far : IsReplyTo (Ok found.NotHere) (Ok answer.NotHere) → ⊥
  replies_to_far r = r

  tried_again : IsTriedAgain (Ok found.NotHere)
  tried_again = tt

  freed_not_tried_again : IsTriedAgain (Ok found.Freed) → ⊥
  freed_not_tried_again t = t

  moving_not_tried_again : IsTriedAgain (Ok found.Moving) → ⊥
  moving_not_tried_again t = t

  crowded_not_tried_again : IsTriedAgain (Ok found.Crowded) → ⊥
  crowded_not_tried_again t = t

  no_memory_not_tried_again : IsTriedAgain (Err e) → ⊥
  no_memory_not_tried_again t = t

  came_there : CameThere (Ok (answer.Swapped 4))
  came_there = inr (4, refl)

  came_without_memory : CameThere (Err e) → ⊥
  came_without_memory k = k

  -- ---- the reply as it stands in a record
  stands_as : (answer_of (Ok answer.Worn) ≡ Some answer.Worn) × (answer_of (Err e) ≡ None)
  stands_as = (refl, refl)

  tells_no_pin : TellsNoPin 1 [] (Ok answer.Freed) × TellsNoPin 1 [] (Ok answer.Worn)
      × TellsNoPin 1 [] (Err e)
  tells_no_pin = (tt, tt, tt)

  freed_by : (freed_of (job.Read (the_handle 1)) (Ok answer.Freed) ≡ Some 1)
      × (freed_of (job.Write (the_handle 1) 0 []) (Ok answer.Freed) ≡ Some 1)
      × (freed_of (job.Swap (the_handle 1)) (Ok answer.Freed) ≡ None)
      × (freed_of (job.Read (the_handle 1)) (Ok answer.Moving) ≡ None)
      × (freed_of (job.Read (the_handle 1)) (Err e) ≡ None)
  freed_by = (refl, refl, refl, refl, refl)

-- ---- the object of a job, and what it makes and writes
objects_of : (object_of (job.Write (the_handle 1) 0 []) ≡ Some 1)
    × (object_of (job.Free (the_handle 1)) ≡ Some 1) × (object_of (job.Make []) ≡ None)
    × (object_of (job.Filter (the_handle 1)) ≡ None) × (object_of job.Evict ≡ None)
objects_of = (refl, refl, refl, refl, refl)

knows_it : KnowsIt (Some 1) part × KnowsIt None part
knows_it = (inl (made, inl refl, refl), tt)

knows_no_other : KnowsIt (Some 0) part → ⊥
knows_no_other (inl (e, inl is, at)) = eqb-false 1 0 refl (ap (λ x. x.handle) is ∙ at)
knows_no_other (inl (e, inr off, at)) = off
knows_no_other (inr (s, off, at)) = off

made_ones : (made_in (Some (answer.Made (the_handle 1) 3)) ≡ 1 ∷ [])
    × (made_in (Some (answer.Version 3)) ≡ []) × (made_in None ≡ [])
    × (made_by_turn (job.Make []) (Some (answer.Full 2)) ≡ [])
    × (made_by_turn (job.Write (the_handle 1) 0 []) (Some (answer.Made (the_handle 1) 3)) ≡ [])
made_ones = (refl, refl, refl, refl, refl)

written_ones : (writes_of (job.Write (the_handle 1) 0 []) (empty_far 3 two) ≡ Some 1)
    × (writes_of (job.Free (the_handle 1)) (empty_far 3 two) ≡ Some 1)
    × (writes_of (job.Make []) (record (empty_far 3 two) { made = 2 }) ≡ Some 2)
    × (writes_of (job.Read (the_handle 1)) (empty_far 3 two) ≡ None)
    × (writes_of (job.Swap (the_handle 1)) (empty_far 3 two) ≡ None)
written_ones = (refl, refl, refl, refl, refl)

any_but_a_read : IsNoRead (job.Make []) × IsNoRead (job.Write (the_handle 1) 0 [])
    × IsNoRead (job.Swap (the_handle 1))
any_but_a_read = (tt, tt, tt)

-- ---- a desk of plain data
abbrev slate : ℕ → Slate
slate first = record { known = empty_shown first two; acts = [] }

shows : slate_shows (slate 3) (empty_shown 3 two)
shows = refl

shows_another : slate_shows (slate 3) (empty_shown 4 two) → ⊥
shows_another s = eqb-false 4 3 refl (ap (λ (k : Shown). k.first) s)

lacks_and_works : PinLacks 1 (held_by (empty_shown 3 two) [] (empty_far 3 two))
    (held_by (empty_shown 3 two) [] (empty_far 4 two)) → ⊥
lacks_and_works l = eqb-false 4 3 refl (ap (λ h. h.far.first) l)

-- ---- why a word refuses a write, and a read
refuses_write : IsWriteRefusal 8 1 0 place.Freed × IsWriteRefusal 8 1 away place.NotHere
    × IsWriteRefusal 8 1 moving place.Moving × IsWriteRefusal 8 1 calm (place.Range 8)
    × IsWriteRefusal 7 1 pinned (place.Pinned 1)
refuses_write = (refl, refl, refl, (refl, refl, lit< tt), ((refl, lit≤ tt), refl, lit≤ tt))

here_as_freed : IsWriteRefusal 8 1 calm place.Freed → ⊥
here_as_freed r = eqb-false 2 0 refl (ap state_number r)

here_as_far : IsWriteRefusal 8 1 calm place.NotHere → ⊥
here_as_far r = eqb-false 2 1 refl (ap state_number r)

here_as_moving : IsWriteRefusal 8 1 calm place.Moving → ⊥
here_as_moving r = eqb-false 2 3 refl (ap state_number r)

pinned_past_its_end : IsWriteRefusal 8 1 pinned (place.Pinned 1) → ⊥
pinned_past_its_end r = let e : 9 ≤ 8 = r.0.1 in omega (arith, e)

pinned_by_more : IsWriteRefusal 7 1 pinned (place.Pinned 2) → ⊥
pinned_by_more r = eqb-false 1 2 refl r.1

pinned_by_none : IsWriteRefusal 7 1 calm (place.Pinned 0) → ⊥
pinned_by_none r = let e : 1 ≤ 0 = r.2 in omega (arith, e)

written_as_refused : IsWriteRefusal 7 1 calm (place.Ok 4) → ⊥
written_as_refused r = r

worn_as_refused : IsWriteRefusal 7 1 calm place.Worn → ⊥
worn_as_refused r = r

room_for_the_last : IsRoomFor 7 1 calm
room_for_the_last = (refl, lit≤ tt)

room_past_the_end : IsRoomFor 8 1 calm → ⊥
room_past_the_end r = let e : 9 ≤ 8 = r.1 in omega (arith, e)

room_while_moving : IsRoomFor 7 1 moving → ⊥
room_while_moving r = eqb-false 3 2 refl (ap state_number r.0)

refuses_read : IsReadRefusal 0 found.Freed × IsReadRefusal away found.NotHere
    × IsReadRefusal moving found.Moving × IsReadRefusal full found.Crowded
refuses_read = (refl, refl, refl, (refl, refl))

here_read_as_freed : IsReadRefusal calm found.Freed → ⊥
here_read_as_freed r = eqb-false 2 0 refl (ap state_number r)

here_read_as_far : IsReadRefusal calm found.NotHere → ⊥
here_read_as_far r = eqb-false 2 1 refl (ap state_number r)

here_read_as_moving : IsReadRefusal calm found.Moving → ⊥
here_read_as_moving r = eqb-false 2 3 refl (ap state_number r)

pinned_as_crowded : IsReadRefusal pinned found.Crowded → ⊥
pinned_as_crowded r = eqb-false 1 1023 refl r.1

moving_as_crowded : IsReadRefusal (full + 1) found.Crowded → ⊥
moving_as_crowded r = eqb-false 3 2 refl (ap state_number r.0)

read_as_refused : IsReadRefusal calm (found.Bytes 3 []) → ⊥
read_as_refused r = r

raced_as_refused : IsReadRefusal calm (found.Raced calm pinned) → ⊥
raced_as_refused r = r
