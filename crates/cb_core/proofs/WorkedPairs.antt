-- Worked examples of the jobs at the far state alone: a pair that begins, and one that is given up.
use Rattle.std.proofs.Common.{◌≡◌, ℕ, ◌+◌, List, [], ◌∷◌, ◌++◌, None, Some, get_or, replicate, refl, sym, ap, ◌∙◌, inl, inr, lit<, arith}
use Rattle.std.specs.FinMap as map
use Rattle.std.specs.Ordering.{nat_cmp}
use Rattle.cb_member.specs.Membership.{fresh_members}
use Rattle.cb_set.specs.SetState.{SetState}
use Rattle.cb_types.specs.declared.job.Job.TheVariants.{Make, Free, Pair, Patch, Merge, Part, Compact}
use Rattle.cb_types.specs.declared.reply.Reply.{Reply}
use Rattle.cb_types.specs.declared.reply.Reply.TheVariants as answer
use Rattle.cb_world.specs.declared.access.Access.{Access}
use Rattle.cb_world.specs.Counts.{CountsState}
use Rattle.cb_world.specs.FarState.{FarState}
use Rattle.cb_world.specs.Joining.{JoiningState}
use Rattle.cb_world.specs.Plain.{Words}
use Rattle.cb_world.specs.Seats.{SeatState}
use Rattle.cb_world.specs.Sets.{if_committed, set_in}
use Rattle.cb_world.specs.World.{WorldState}
use Rattle.cb_world.specs.Pairs.{with_no_pair}
use Rattle.cb_compact.proofs.Laws.{begin_laws, part_laws}
use Rattle.cb_world.proofs.Laws.{open_same}
use Rattle.cb_core.specs.FarJobs.{FarLacks, FarStep}
use Rattle.cb_core.specs.Parts.{Holding}
use Rattle.cb_core.specs.Step.{HoldOn, StillStops, StillWorks, TurnStep, worn, done}
use Rattle.cb_core.specs.Turned.{AtFar, AtFarLacks}
use Rattle.cb_core.proofs.StillFarJobs.{known_far}
use Rattle.cb_core.proofs.WordsTold.{far_orders}
use Rattle.cb_core.proofs.WorkedPins.{calm, hot, seat_with}
use Rattle.cb_core.proofs.WorkedRoom.{counts, far_of, span_with, words_are}

-- two objects that are here, and no set
abbrev far : CountsState → FarState
far c = far_of (span_with (Some 0) None) (span_with None (Some 1)) None (fresh_members 2) c

abbrev start : FarState
start = far (counts 0 [])

abbrev holds : FarState → Holding Words
holds f = record { desk = words_are calm hot; far = f }

abbrev warm : FarState → Holding Words
warm f = record { desk = words_are hot hot; far = f }

abbrev more : FarState → FarState
more f = record f { made = f.made + 1 }

word_is : (f g : FarState) → (warm f).desk ≡ (holds g).desk → ⊥
word_is f g same =
    let e : 16390 ≡ 16386 = ap (λ (x : Words). get_or x.words 0 0) same in omega (arith, e)

two_made : (f g : FarState) → f.made ≡ 2 → g.made ≡ 1 → f ≡ g → ⊥
two_made f g two one same =
    let e : 2 ≡ 1 = sym two ∙ ap (λ (x : FarState). x.made) same ∙ one in omega (arith, e)

same_holds : (f : FarState) → HoldOn (holds f) (holds f)
same_holds f s k = (s, k, (λ h. refl), (λ seats ongoing. ongoing), λ o kept. kept)

-- ---- a begin: no two sets can be joined where there is none
no_set : (id : ℕ) (s : SetState) → set_in start.sets id ≡ Some s → ⊥
no_set id s at = none_set s (sym (ap if_committed (map.get-empty nat_cmp id)) ∙ at)
  where
    none_set : (s : SetState) → None ≡ Some s → ⊥
    none_set s e = cc

-- that there are none is noted
abbrev noted : FarState
noted = with_no_pair start

begins : FarStep Pair start noted answer.NoPair
begins = inr (inl (record {
  none = refl;
  no_two = λ i j c d less can. no_set i c can.a_there;
  reply = refl;
  state = refl;
}))

hold_noted : HoldOn (holds start) (holds noted)
hold_noted s k = let keeps = begin_laws.keeps s start noted answer.NoPair k.sound begins in (
  s,
  known_far (words_are calm hot) start noted s k keeps.sound,
  keeps.same_now,
  λ seats ongoing. open_same (words_are calm hot) start noted s seats k
      (known_far (words_are calm hot) start noted s k keeps.sound) ongoing,
  far_orders s start noted k.sound keeps.sound keeps.words,
)

pairs : StillWorks Pair (holds start) answer.NoPair (holds noted)
pairs = (refl, begins, hold_noted)

pairs_and_warms : StillWorks Pair (holds start) answer.NoPair (warm start) → ⊥
pairs_and_warms works = word_is start start works.0

none_is_none : answer.NoPair ≡ answer.NoJoin → ⊥
none_is_none e = cc

-- of no sets no two begin to join, and no pair is joining already
begun : (far new : FarState) (r : Reply) → far ≡ start → FarStep Pair far new r
    → (r ≡ answer.NoPair) × (new ≡ with_no_pair far)
begun far new r e (inl z) = absurd (none_joins z.pair (sym (ap (λ (f : FarState). f.joining) e) ∙ z.there))
  where
    none_joins : (p : JoiningState) → None ≡ Some p → ⊥
    none_joins p e = cc
begun far new r e (inr (inl z)) = (z.reply, z.state)
begun far new r e (inr (inr z)) =
    absurd (no_set z.x z.a (sym (ap (λ (f : FarState). set_in f.sets z.x) e) ∙ z.first.can.a_there))

pairs_as_a_parting : StillWorks Pair (holds start) answer.NoJoin (holds start) → ⊥
pairs_as_a_parting works = none_is_none (sym (begun start start answer.NoJoin refl works.1).0)

pairs_and_makes : StillWorks Pair (holds start) answer.NoPair (holds (more start)) → ⊥
pairs_and_makes works =
    two_made (more start) noted refl refl (begun start (more start) answer.NoPair refl works.1).1

pairs_and_notes_nothing : StillWorks Pair (holds start) answer.NoPair (holds start) → ⊥
pairs_and_notes_nothing works = not_noted _
    (ap (λ (f : FarState). f.survey.no_pair) (begun start start answer.NoPair refl works.1).1)
  where
    not_noted : (n : ℕ) → None ≡ Some n → ⊥
    not_noted n e = cc

-- over a desk that is a number, and which runs nothing
abbrev waits : ℕ → List Access → ℕ → Type 0
waits d es e = e ≡ d

over_a_number : AtFar waits (FarStep Pair) (record { desk = 3; far = start }) answer.NoPair
    (record { desk = 3; far = noted })
over_a_number = (refl, begins)

over_another_number : AtFar waits (FarStep Pair) (record { desk = 3; far = start }) answer.NoPair
    (record { desk = 4; far = start }) → ⊥
over_another_number x = let e : 4 ≡ 3 = x.0 in omega (arith, e)

over_a_number_as_a_parting : AtFar waits (FarStep Pair) (record { desk = 3; far = start })
    answer.NoJoin (record { desk = 3; far = start }) → ⊥
over_a_number_as_a_parting x = none_is_none (sym (begun start start answer.NoJoin refl x.1).0)

-- ---- a parting: sets 0 and 1 are joining, and no step is done
abbrev pair : JoiningState
pair = record { a = 0; b = 1; shards_a = []; shards_b = []; taken = []; steps = [] }

abbrev joined : FarState → FarState
joined f = record f { joining = Some pair }

joins_already : FarStep Pair (joined start) (joined start)
    (answer.Joining (record { n = 0 }) (record { n = 1 }))
joins_already = inl (record { pair = pair; there = refl; reply = refl; state = refl })

gives_up : (c : CountsState) → FarStep Part (joined (far c)) (far c) answer.Done
gives_up c = inr (record { pair = pair; there = refl; reply = refl; state = refl })

hold_on : (c : CountsState) → HoldOn (holds (joined (far c))) (holds (far c))
hold_on c s k = let keeps = part_laws.keeps s (joined (far c)) (far c) answer.Done k.sound (gives_up c) in (
  s,
  known_far (words_are calm hot) (joined (far c)) (far c) s k keeps.sound,
  keeps.same_now,
  λ seats ongoing. open_same (words_are calm hot) (joined (far c)) (far c) s seats k
      (known_far (words_are calm hot) (joined (far c)) (far c) s k keeps.sound) ongoing,
  far_orders s (joined (far c)) (far c) k.sound keeps.sound keeps.words,
)

parts : StillWorks Part (holds (joined start)) answer.Done (holds start)
parts = (refl, gives_up (counts 0 []), hold_on (counts 0 []))

-- where no pair is joining
parts_nothing : StillWorks Part (holds start) answer.NoJoin (holds start)
parts_nothing =
    (refl, inl (record { none = refl; reply = refl; state = refl }), same_holds start)

done_is_none : answer.Done ≡ answer.NoJoin → ⊥
done_is_none e = cc

no_pair : (p : JoiningState) → None ≡ Some p → ⊥
no_pair p e = cc

parts_none : StillWorks Part (holds start) answer.Done (holds start) → ⊥
parts_none (same, inl z, hold) = done_is_none z.reply
parts_none (same, inr z, hold) = no_pair z.pair z.there

-- the pair is no longer joining
parts_and_keeps : StillWorks Part (holds (joined start)) answer.Done (holds (joined start)) → ⊥
parts_and_keeps (same, inl z, hold) = done_is_none z.reply
parts_and_keeps (same, inr z, hold) =
    no_pair pair (sym (ap (λ (f : FarState). f.joining) z.state))

-- where no pair is joining, none is stepped or merged; and no two sets become one in one turn
patches_nothing : StillWorks Patch (holds start) answer.NoJoin (holds start)
patches_nothing =
    (refl, inl (record { none = refl; reply = refl; state = refl }), same_holds start)

merges_nothing : StillWorks Merge (holds start) answer.NoJoin (holds start)
merges_nothing =
    (refl, inl (record { none = refl; reply = refl; state = refl }), same_holds start)

compacts_nothing : StillWorks Compact (holds start) answer.NoPair (holds noted)
compacts_nothing = (
  refl,
  inr (inl (record {
    none = refl;
    no_two = λ i j c d less can. no_set i c can.a_there;
    reply = refl;
    state = refl;
  })),
  hold_noted,
)

-- a turn, which is of kind 14
abbrev idle : List SeatState
idle = seat_with [] ∷ seat_with [] ∷ []

abbrev two : CountsState
two = counts 2 (2 ∷ replicate 18 0)

abbrev third : CountsState
third = counts 3 (2 ∷ replicate 13 0 ++ 1 ∷ replicate 4 0)

abbrev world : FarState → WorldState
world f = record { desk = words_are calm hot; far = f; seats = idle }

parts_in_a_turn : TurnStep Part (world (joined (far two))) answer.Done (world (far third))
parts_in_a_turn = done (lit< tt) (refl, gives_up third, hold_on third) refl

parts_uncounted : TurnStep Part (world (joined (far two))) answer.Done (world (far two)) → ⊥
parts_uncounted (worn end is same) = absurd (omega (arith, end))
parts_uncounted (done few (same, inl z, hold) seats) = done_is_none z.reply
parts_uncounted (done few (same, inr z, hold) seats) =
    let e : 2 ≡ 3 = ap (λ (f : FarState). f.counts.turns) z.state in omega (arith, e)

-- ---- want of memory changes nothing of a pair, and a parting takes none
pair_stops : StillStops Pair (holds start) (holds start)
pair_stops = (refl, refl)

pair_stops_and_warms : StillStops Pair (holds start) (warm start) → ⊥
pair_stops_and_warms stops = word_is start start stops.0

merge_stops_and_makes : StillStops Merge (holds start) (holds (more start)) → ⊥
merge_stops_and_makes stops = two_made (more start) start refl refl stops.1

compact_stops : StillStops Compact (holds start) (holds start)
compact_stops = (refl, refl)

compact_stops_and_makes : StillStops Compact (holds start) (holds (more start)) → ⊥
compact_stops_and_makes stops = two_made (more start) start refl refl stops.1

part_stops : StillStops Part (holds (joined start)) (holds (joined start)) → ⊥
part_stops stops = stops.1

number_stops : AtFarLacks waits (FarLacks Patch) (record { desk = 3; far = start })
    (record { desk = 3; far = start })
number_stops = (refl, refl)

another_number_stops : AtFarLacks waits (FarLacks Patch) (record { desk = 3; far = start })
    (record { desk = 4; far = start }) → ⊥
another_number_stops x = let e : 4 ≡ 3 = x.0 in omega (arith, e)

-- ---- a job that takes a word of local memory is none of these
makes_no_step : (new : FarState) (r : Reply) → FarStep (Make []) start new r → ⊥
makes_no_step new r step = step

frees_no_step : (new : FarState) (r : Reply) → FarStep (Free (record { n = 0 })) start new r → ⊥
frees_no_step new r step = step
