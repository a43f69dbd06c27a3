-- Worked calls and pins of a pass: what meets each definition, and what breaks one of its parts
-- alone.
use Rattle.std.proofs.Common.{Option}
use Rattle.std.proofs.Common.{◌≡◌, ℕ, ◌+◌, List, [], ◌∷◌, ◌++◌, length, length-append, None, Some}
use Rattle.std.proofs.Common.{Ok, inl, inr, refl, ap, ◌∙◌, lit<, arith, ⊎_elim}
use Rattle.std.proofs.lemmas.Bool.{eqb-false}
use Rattle.cb_types.specs.declared.order.Kept.{Kept}
use Rattle.cb_types.specs.declared.handle.Handle.{Handle}
use Rattle.cb_types.specs.declared.job.Job.{Job}
use Rattle.cb_types.specs.declared.job.Job.TheVariants as job
use Rattle.cb_types.specs.declared.reply.Reply.TheVariants as answer
use Rattle.cb_ptr.specs.Word.{state_number, state_of}
use Rattle.cb_world.specs.declared.entry.Entry.{Entry}
use Rattle.cb_world.specs.Written.{entry}
use Rattle.cb_rule.specs.declared.turn.Turn.{Turn}
use Rattle.cb_rule.specs.declared.view.Look.{Look}
use Rattle.cb_rule.specs.declared.view.View.{View}
use Rattle.cb_rule.specs.Lists.{Each}
use Rattle.cb_rule.specs.Own.{IsAlone}
use Rattle.cb_rule.specs.Steps.{IsNewest, blank, look_at, with_freed_seen, with_look, with_pin}
use Rattle.cb_record.specs.Parts.{Part, grown, nothing_more, sum}
use Rattle.cb_shared.specs.declared.answers.WriteAnswer.TheVariants as place
use Rattle.cb_shared.specs.Calls.{AtThis, Brings, FoundFar, IsAnswerTo, IsInVain, IsUnanswered}
use Rattle.cb_shared.specs.Calls.{again_in}
use Rattle.cb_shared.specs.Reading.{looked, looked_freed}
use Rattle.cb_shared.specs.Turning.{TurnAdds, with_own}
use Rattle.cb_shared.proofs.Laws.{brings_lack, each_brings, read_lacks, so_far, vain_look}
use Rattle.cb_lanes.specs.LineGoes.{Calls, Pins}
use Rattle.cb_lanes.specs.Passing.{CallGives, IsPinnedOnce, PinEnds, PinGoes, PinTries, PinsAtLast}
use Rattle.cb_lanes.specs.Passing.{goes_in}
use Rattle.cb_lanes.proofs.WorkedPassing.{two}
use Rattle.cb_lanes.proofs.WorkedPinTurns.{gets_a_fetch, gets_a_swap}

-- the pointer word of an object of 8 bytes at place 5, Here and Moving; and of one that is Far
abbrev calm : ℕ
calm = 2684420098

abbrev moving : ℕ
moving = 2684420099

abbrev away : ℕ
away = 65537

abbrev one : Handle
one = record { n = 1 }

-- object 1 was made at version 3, by a pass with a part of the share
abbrev made : Entry
made = entry 1 3 8 [] (2826 ∷ [])

abbrev part : View
part = record (blank two) { share = 40; written = made ∷ [] }

shared_part : IsAlone 1 part → ⊥
shared_part l = ⊎_elim (λ (e : 40 ≡ 64). omega (arith, e)) (λ (n : ⊥). n) l

newest_made : IsNewest 1 3 part
newest_made = record {
  written = ((λ _. omega arith), tt);
  seen = tt;
  lone = λ l. absurd (shared_part l);
}

not_second : IsNewest 1 2 part → ⊥
not_second n = let e = n.written.0 refl in omega (arith, e)

abbrev word_in : List Look → ℕ
word_in [] = 0
word_in (l ∷ ls) = l.word

abbrev last_state : View → ℕ
last_state v = state_number (state_of (word_in v.looks))

-- ---- calls: each job adds what its own call adds
no_tries : {o : Option Kept} (on : ℕ → Type 0) (j : Turn → Type 0) → IsInVain o on j nothing_more
no_tries on j = record { looks = []; turns = []; at = tt; of = tt; idle = tt; kept = tt; part = refl }

-- a read that found the object freed, with no turn
reads : CallGives two (job.Read one) part answer.Freed
    (grown (sum nothing_more (looked_freed 1 3 0)) part)
reads = (
  sum nothing_more (looked_freed 1 3 0),
  record {
    before = nothing_more;
    last = looked_freed 1 3 0;
    in_vain = no_tries _ _;
    ends_so = inl (0, 3, refl, newest_made, refl);
    part = refl;
  },
  refl,
)

reads_moving : (v w : View) → CallGives two (job.Read one) v answer.Moving w → ⊥
reads_moving v w (d, x, is) = read_lacks two 1 answer.Moving _ x.last (λ t. t) x.ends_so

-- a write of one byte behind the last one
writes : CallGives two (job.Write one 8 (12 ∷ [])) part (answer.Range 8)
    (grown (sum nothing_more (looked 1 calm)) part)
writes = (
  sum nothing_more (looked 1 calm),
  record {
    before = nothing_more;
    last = looked 1 calm;
    in_vain = no_tries _ _;
    ends_so = inl (
      place.Range 8,
      refl,
      (calm, ((refl, refl, lit< tt), λ l. absurd (shared_part l)), refl),
    );
    part = refl;
  },
  refl,
)

-- a make and a free by turns that answer them; a turn that says no more than that its object moves
-- is made again
abbrev unmade : View
unmade = record (blank two) { share = 40 }

makes : (d : Part) → TurnAdds two (job.Make (10 ∷ [])) (Ok (answer.Made one 3)) unmade d
    → CallGives two (job.Make (10 ∷ [])) unmade (answer.Made one 3)
    (with_own (1 ∷ []) (grown (sum nothing_more d) unmade))
makes d adds = (
  sum nothing_more d,
  record {
    before = nothing_more;
    last = d;
    in_vain = no_tries _ _;
    ends_so = (inl tt, adds);
    part = refl;
  },
  refl,
)

makes_moving : (v w : View) → CallGives two (job.Make (10 ∷ [])) v answer.Moving w → ⊥
makes_moving v w (d, x, is) = ⊎_elim (λ (n : ⊥). n) (λ (n : ⊥). n) x.ends_so.0

frees : (d : Part) → TurnAdds two (job.Free one) (Ok (answer.Version 4)) part d
    → CallGives two (job.Free one) part (answer.Version 4) (grown (sum nothing_more d) part)
frees d adds = (
  sum nothing_more d,
  record {
    before = nothing_more;
    last = d;
    in_vain = no_tries _ _;
    ends_so = (inl tt, adds);
    part = refl;
  },
  refl,
)

frees_moving : (v w : View) → CallGives two (job.Free one) v answer.Moving w → ⊥
frees_moving v w (d, x, is) = ⊎_elim (λ (n : ⊥). n) (λ (n : ⊥). n) x.ends_so.0

-- every other job is one turn, whatever it answers
filters : (d : Part) → TurnAdds two (job.Filter one) (Ok answer.Moving) part d
    → CallGives two (job.Filter one) part answer.Moving (grown d part)
filters d adds = (d, adds, refl)

evicts_without_a_turn : CallGives two job.Evict part answer.Done part → ⊥
evicts_without_a_turn (d, a, is) = eqb-false 0 1 refl (ap (λ (v : View). length v.turns) is
    ∙ ap (λ (e : Part). length (e.turns ++ [])) a.part)

-- ---- a pin at a word, of a version
abbrev taken : ℕ → ℕ → View → View
taken word version v = with_pin 1 word version (2826 ∷ []) (with_look 1 word v)

pinned : IsPinnedOnce 1 3 part (taken calm 3 part)
pinned = record {
  word = calm;
  words = 2826 ∷ [];
  here = refl;
  newest = newest_made;
  left = refl;
}

pinned_moving : IsPinnedOnce 1 3 part (taken moving 3 part) → ⊥
pinned_moving p = eqb-false 3 2 refl (ap last_state p.left ∙ ap state_number p.here)

pinned_older : IsPinnedOnce 1 2 part (taken calm 2 part) → ⊥
pinned_older p = not_second p.newest

pinned_unlooked : IsPinnedOnce 1 3 part (with_pin 1 calm 3 (2826 ∷ []) part) → ⊥
pinned_unlooked p = eqb-false 1 2 refl (ap (λ (v : View). length v.looks) p.left)

pinned_uncounted : IsPinnedOnce 1 3 part (record (taken calm 3 part) { ever = 0 }) → ⊥
pinned_uncounted p = eqb-false 0 1 refl (ap (λ (v : View). v.ever) p.left)

-- ---- the last try of a pin, by its reply
ends_pinned : PinEnds two 1 (answer.Version 3) part (taken calm 3 part)
ends_pinned = pinned

ends_unpinned : PinEnds two 1 (answer.Version 3) part part → ⊥
ends_unpinned p = eqb-false 0 2 refl (ap (λ (v : View). length v.looks) p.left)

ends_freed : PinEnds two 1 answer.Freed part (with_freed_seen 1 3 0 part)
ends_freed = (0, 3, refl, newest_made, refl)

ends_unread : PinEnds two 1 answer.Freed part (with_look 1 0 part) → ⊥
ends_unread x = eqb-false 0 1 refl (ap (λ (v : View). length v.seen) x.4)

-- a pass that is full is told so before a try
ends_full : PinEnds two 1 answer.ScopeFull part part → ⊥
ends_full x = x

-- a turn of each of the three jobs that bring it in, behind a look that found it far
abbrev far : View
far = with_look 1 away part

brings : (j : Job) → Brings 1 j → (d : Part) → TurnAdds two j (Ok answer.Worn) far d
    → PinEnds two 1 answer.Worn far (grown d far)
brings j of d adds = (
  d,
  record { away = (refl, refl); turned = record { job = j; of = of; ends = (lacks d, adds) } },
  refl,
)
  where
    lacks : (d : Part) → IsAnswerTo (again_in d.turns) j answer.Worn
    lacks d = each_brings (λ (k : Job). IsAnswerTo (again_in d.turns) k answer.Worn) 1 j tt tt refl of

ends_refused : (d : Part) → TurnAdds two (job.Fetch one) (Ok answer.Worn) far d
    → PinEnds two 1 answer.Worn far (grown d far)
ends_refused d adds = brings (job.Fetch one) (inr (inl refl)) d adds

ends_unlanded : (d : Part) → TurnAdds two job.Land (Ok answer.Worn) far d
    → PinEnds two 1 answer.Worn far (grown d far)
ends_unlanded d adds = brings job.Land (inr (inr refl)) d adds

ends_unswapped : (d : Part) → TurnAdds two (job.Swap one) (Ok answer.Worn) far d
    → PinEnds two 1 answer.Worn far (grown d far)
ends_unswapped d adds = brings (job.Swap one) (inl refl) d adds

-- a fetch that handed out an order, or was told that the row is at hand, ends no pin
ends_moving : (v w : View) → PinEnds two 1 answer.Moving v w → ⊥
ends_moving v w (d, asks, is) = brings_lack two 1 answer.Moving v d asks.turned

ends_fetched : (v w : View) → PinEnds two 1 (answer.Fetched (record { n = 2 }) 0) v w → ⊥
ends_fetched v w (d, asks, is) =
    brings_lack two 1 (answer.Fetched (record { n = 2 }) 0) v d asks.turned

ends_direct : (v w : View) → PinEnds two 1 answer.Direct v w → ⊥
ends_direct v w (d, asks, is) = brings_lack two 1 answer.Direct v d asks.turned

-- it was not looked at
ends_unlooked : (w : View) → PinEnds two 1 answer.Worn part w → ⊥
ends_unlooked w (d, asks, is) = asks.away

-- or was found being moved, or the newest look was at another object
ends_found_moving : (w : View) → PinEnds two 1 answer.Worn (with_look 1 moving part) w → ⊥
ends_found_moving w (d, asks, is) = eqb-false 3 1 refl (ap state_number asks.away.1)

ends_elsewhere : (w : View) → PinEnds two 1 answer.Worn (with_look 0 away far) w → ⊥
ends_elsewhere w (d, asks, is) = eqb-false 0 1 refl asks.away.0

-- the turn was one of another object, or of another job
not_for_1 : Brings 1 (job.Fetch (record { n = 0 })) → ⊥
not_for_1 (inl e) = cc
not_for_1 (inr (inl e)) = eqb-false 0 1 refl (ap fetched_one e)
  where
    fetched_one : Job → ℕ
    fetched_one (job.Fetch handle) = handle.n
    fetched_one j = 1
not_for_1 (inr (inr e)) = cc

not_by_a_read : Brings 1 (job.Read one) → ⊥
not_by_a_read (inl e) = cc
not_by_a_read (inr (inl e)) = cc
not_by_a_read (inr (inr e)) = cc

-- ---- a pin after a look that found its object being moved
abbrev late : View
late = taken calm 3 (with_look 1 moving part)

tries_in_vain : PinTries two 1 None part (with_look 1 moving part)
tries_in_vain = (
  looked 1 moving,
  record {
    looks = look_at 1 moving ∷ [];
    turns = [];
    at = (refl, tt);
    of = tt;
    idle = tt;
    kept = tt;
    part = refl;
  },
  refl,
)

at_last : PinsAtLast two 1 (answer.Version 3) part late
at_last = record {
  between = with_look 1 moving part;
  in_vain = tries_in_vain;
  ends_so = record {
    word = calm;
    words = 2826 ∷ [];
    here = refl;
    newest = record {
      written = newest_made.written;
      seen = newest_made.seen;
      lone = newest_made.lone;
    };
    left = refl;
  };
}

gives_up : PinsAtLast two 1 (answer.Version 3) part (with_look 1 moving part) → ⊥
gives_up x =
    let e : 0 ≡ x.between.ever + 1 = ap (λ (v : View). v.ever) x.ends_so.left in omega (arith, e)

-- an entry was written on the way
writes_on_the_way : PinsAtLast two 1 (answer.Version 3) part
    (record late { written = made ∷ made ∷ [] })
    → ⊥
writes_on_the_way x = eqb-false 2 1 refl (ap (λ (v : View). length v.written) x.ends_so.left
    ∙ ap (λ (v : View). length v.written) x.in_vain.2
    ∙ ap (λ (d : Part). length (d.written ++ made ∷ [])) x.in_vain.1.part)

-- or another object was looked at
abbrev first : List Look → ℕ
first [] = 1
first (l ∷ ls) = l.handle

abbrev second : List Look → ℕ
second [] = 1
second (l ∷ ls) = first ls

abbrev third : List Look → ℕ
third [] = 1
third (l ∷ ls) = second ls

first_at : (ls : List Look) → Each (λ (l : Look). l.handle ≡ 1) ls → first (ls ++ []) ≡ 1
first_at [] each = refl
first_at (l ∷ ls) each = each.0

looks_elsewhere : PinsAtLast two 1 (answer.Version 3) part (taken calm 3 (with_look 0 moving part))
    → ⊥
looks_elsewhere x = eqb-false 0 1 refl (ap (λ (v : View). third v.looks) x.ends_so.left
    ∙ ap (λ (v : View). first v.looks) x.in_vain.2
    ∙ ap (λ (d : Part). first (d.looks ++ [])) x.in_vain.1.part
    ∙ first_at x.in_vain.1.looks x.in_vain.1.at)

pin_goes : PinGoes two 1 part (answer.Version 3) late
pin_goes = (lit< tt, at_last)

-- ---- one try of a pin
tries_and_pins : PinTries two 1 (Some (answer.Version 3)) part (taken calm 3 part)
tries_and_pins = record {
  between = part;
  in_vain = so_far (AtThis 1) (IsUnanswered (Brings 1)) part;
  ends_so = pinned;
}

-- a look that found it far, and a turn that was told that its row can't be made
tries_and_lacks : (d : Part) → TurnAdds two (job.Fetch one) (Ok answer.Worn) far d
    → PinTries two 1 (Some answer.Worn) part (grown d far)
tries_and_lacks d adds = record {
  between = far;
  in_vain = (looked 1 away, vain_look 1 away (IsUnanswered (Brings 1)), refl);
  ends_so = ends_refused d adds;
}

-- and where nothing was looked at
lacks_unlooked : PinTries two 1 (Some answer.Worn) part part → ⊥
lacks_unlooked x = by x.between.looks (ap (λ (v : View). length v.looks) x.ends_so.2
    ∙ length-append x.ends_so.0.looks x.between.looks) x.ends_so.1.away
  where
    by : (ls : List Look) → 0 ≡ length x.ends_so.0.looks + length ls → FoundFar 1 ls → ⊥
    by [] e away = away
    by (l ∷ ls) e away = omega (arith, e)

pins_in_vain : PinTries two 1 None part (taken calm 3 part) → ⊥
pins_in_vain (d, x, is) = eqb-false 1 0 refl (ap (λ (v : View). v.ever) is
    ∙ ap (λ (e : Part). 0 + e.ever) x.part)

-- ---- what is asked of a pass
abbrev turns_in : Part → List Turn
turns_in d = d.turns

one_more : (d : Part) (t : Turn) → d.turns ≡ t ∷ [] → (grown d far).turns ≡ t ∷ []
one_more d t is = ap (λ (ts : List Turn). ts ++ []) is

asks_a_call : goes_in two (Calls (job.Read one)) part answer.Freed
    (grown (sum nothing_more (looked_freed 1 3 0)) part)
asks_a_call = reads

asks_a_pin : goes_in two (Pins 1) part (answer.Version 3) late
asks_a_pin = (pin_goes, ([], refl, tt))

-- a pin by a turn that fetches the object, and one that swaps it in at once
asks_to_fetch : (d : Part) → TurnAdds two (job.Fetch one) (Ok answer.Worn) far d
    → goes_in two (Pins 1) part answer.Worn (grown d far)
asks_to_fetch d adds = (
  (lit< tt, tries_and_lacks d adds),
  gets_a_fetch adds.turn part (grown d far) (one_more d adds.turn (ap turns_in adds.part))
      adds.job_is,
)

swaps_at_once : (d : Part) → TurnAdds two (job.Swap one) (Ok answer.Worn) far d
    → PinGoes two 1 part answer.Worn (grown d far)
swaps_at_once d adds = (
  lit< tt,
  record {
    between = far;
    in_vain = (looked 1 away, vain_look 1 away (IsUnanswered (Brings 1)), refl);
    ends_so = ends_unswapped d adds;
  },
)

asks_to_swap : (d : Part) → TurnAdds two (job.Swap one) (Ok answer.Worn) far d
    → goes_in two (Pins 1) part answer.Worn (grown d far) → ⊥
asks_to_swap d adds x = gets_a_swap adds.turn part (grown d far)
    (one_more d adds.turn (ap turns_in adds.part)) adds.job_is x.1
