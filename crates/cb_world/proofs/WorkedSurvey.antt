-- Worked examples of what is known of how the committed sets stand: what a dropped set, a crash and a
-- join leave of it, a survey that holds, and for each of its parts one that breaks that part alone.
use Rattle.std.specs.Prelude.{None}
use Rattle.std.proofs.Common.{◌≡◌, ℕ, zero, suc, ◌<◌, ◌≤◌, true, false, [], ◌∷◌, None, Some, refl, sym, ap, ◌∙◌, subst, arith, lit<, lit≤}
use Rattle.std.specs.FinMap as map
use Rattle.cb_member.specs.declared.names.NodeId.{NodeId}
use Rattle.cb_member.specs.declared.names.Shard.{Shard}
use Rattle.cb_member.specs.Membership.{Membership, NodeState, with_crash, with_join}
use Rattle.cb_node.specs.NodesState.{NodesState, empty_nodes, held, with_row, with_rows, with_dropped}
use Rattle.cb_set.specs.SetState.{SetState, PositionState, dead_position, filled_position, set_of}
use Rattle.cb_world.specs.declared.survey.Survey.{Survey}
use Rattle.cb_world.specs.FarState.{FarState}
use Rattle.cb_world.specs.LeftOver.{survey_left, with_left, with_set_dropped}
use Rattle.cb_world.specs.NodeChanges.{crashed_far, joined_far}
use Rattle.cb_world.specs.Sets.{Kept, SetMap, set_in}
use Rattle.cb_world.specs.SetWord.{IsWeak}
use Rattle.cb_world.specs.Survey.{no_survey, survey_after_crash, survey_without}
use Rattle.cb_world.specs.Surveyed.{IsSurvey, gone_below}
use Rattle.cb_world.proofs.Apart.{some_same}
use Rattle.cb_world.proofs.WorkedWorld.{far}

abbrev node : ℕ → NodeId
node n = record { n = n }

abbrev survey : ℕ → ℕ → Survey
survey below gone = record { below = below; gone = gone; no_pair = None }

-- ---- what is known once a set is dropped
nothing_is_known : no_survey ≡ survey 0 0
nothing_is_known = refl

counted_no_more : survey_without (survey 3 2) 1 true ≡ survey 3 1
counted_no_more = refl

last_below : survey_without (survey 3 2) 2 true ≡ survey 3 1
last_below = refl

not_looked_at : survey_without (survey 3 2) 3 true ≡ survey 3 2
not_looked_at = refl

far_beyond : survey_without (survey 3 2) 7 true ≡ survey 3 2
far_beyond = refl

not_broken : survey_without (survey 3 2) 1 false ≡ survey 3 2
not_broken = refl

none_stays_none : survey_without (survey 3 0) 1 true ≡ survey 3 0
none_stays_none = refl

still_nothing : survey_without no_survey 0 true ≡ no_survey
still_nothing = refl

-- ---- sets on six nodes, of which node 1 crashed at epoch 1 and node 2 at epoch 2
abbrev up : NodeState
up = record { up = true; incarnation = 0; crashes = [] }

abbrev crashed : ℕ → NodeState
crashed epoch = record { up = false; incarnation = 0; crashes = record { n = epoch } ∷ [] }

abbrev members : Membership
members = record {
  epoch = 2;
  nodes = up ∷ crashed 1 ∷ crashed 2 ∷ up ∷ up ∷ up ∷ [];
}

abbrev at : ℕ → ℕ → Shard
at n key = record { node = node n; incarnation = 0; key = key }

-- two data positions and a parity, by the nodes of their shards and what the first position holds
abbrev on : ℕ → ℕ → ℕ → PositionState → SetState
on a b c first = set_of 1 1 (at a 7 ∷ at b 8 ∷ at c 9 ∷ []) (first ∷ dead_position ∷ [])

abbrev object : PositionState
object = filled_position (Some 0 ∷ [])

-- it lost nothing; one shard; two, where it has one parity
abbrev whole : SetState
whole = on 0 3 4 object

abbrev weak : SetState
weak = on 0 3 1 object

abbrev gone : SetState
gone = on 1 2 3 object

weak_is : IsWeak members weak
weak_is = record { some_lost = lit≤ tt; few_lost = lit≤ tt }

whole_not_weak : IsWeak members whole → ⊥
whole_not_weak x = let e : 1 ≤ 0 = x.some_lost in omega (arith, e)

gone_not_weak : IsWeak members gone → ⊥
gone_not_weak x = let e : 2 ≤ 1 = x.few_lost in omega (arith, e)

abbrev kept : SetState → Kept
kept set = record { set = set; committed = true }

abbrev three : SetState → SetState → SetState → SetMap
three a b c = map.insert (map.insert (map.insert map.empty 0 (kept a)) 1 (kept b)) 2 (kept c)

-- a far state with these sets, where three numbers were drawn
abbrev with_sets : SetMap → Survey → FarState
with_sets sets survey = record far {
  sets = sets;
  nodes = empty_nodes 6 2;
  members = members;
  counts = record { turns = 0; by_job = []; sets = 3; keys = 10 };
  survey = survey;
}

first_of : (a b c : SetState) → set_in (three a b c) 0 ≡ Some a
first_of a b c = grind (arith, map.gets)

second_of : (a b c : SetState) → set_in (three a b c) 1 ≡ Some b
second_of a b c = grind (arith, map.gets)

third_of : (a b c : SetState) → set_in (three a b c) 2 ≡ Some c
third_of a b c = grind (arith, map.gets)

-- ---- how many are gone
abbrev surveyed : FarState
surveyed = with_sets (three whole gone weak) (survey 2 1)

none_below : gone_below surveyed 1 ≡ 0
none_below = grind (arith, first_of whole gone weak)

one_below : gone_below surveyed 2 ≡ 1
one_below = grind (arith, first_of whole gone weak, second_of whole gone weak)

weak_is_not_counted : gone_below surveyed 3 ≡ 1
weak_is_not_counted = grind (
  arith,
  first_of whole gone weak,
  second_of whole gone weak,
  third_of whole gone weak,
)

both_below : gone_below (with_sets (three gone gone weak) no_survey) 2 ≡ 2
both_below = grind (arith, first_of gone gone weak, second_of gone gone weak)

-- one that is kept for a batch is not there yet
abbrev uncommitted : SetMap
uncommitted = map.insert map.empty 0 (record { set = gone; committed = false })

kept_alone : set_in uncommitted 0 ≡ None
kept_alone = grind (arith, map.gets)

kept_is_not_counted : gone_below (with_sets uncommitted no_survey) 1 ≡ 0
kept_is_not_counted = grind (arith, kept_alone)

-- ---- a survey that holds: of the sets below 2 none is weak and one is gone
no_weak_below : (id : ℕ) (set : SetState) → id < 2 → set_in (three whole gone weak) id ≡ Some set
    → ¬ (IsWeak members set)
no_weak_below zero set l e x = whole_not_weak (subst (IsWeak members)
    (some_same set whole (sym e ∙ first_of whole gone weak)) x)
no_weak_below (suc zero) set l e x = gone_not_weak (subst (IsWeak members)
    (some_same set gone (sym e ∙ second_of whole gone weak)) x)
no_weak_below (suc (suc n)) set l e x = absurd (omega (arith, l))

holds : IsSurvey surveyed (survey 2 1)
holds = record { drawn = lit≤ tt; none = no_weak_below; counted = sym one_below }

-- one of the two numbers was not drawn
past_the_drawn : ¬ (IsSurvey (record surveyed { counts = record surveyed.counts { sets = 1 } }) (survey 2 1))
past_the_drawn x = absurd (let l : 2 ≤ 1 = x.drawn in omega (arith, l))

-- the third set is weak, and as many are gone below 3
over_a_weak_one : ¬ (IsSurvey surveyed (survey 3 1))
over_a_weak_one x = x.none 2 weak (lit< tt) (third_of whole gone weak) weak_is

counts_too_many : ¬ (IsSurvey surveyed (survey 2 2))
counts_too_many x = absurd (let e : 2 ≡ gone_below surveyed 2 = x.counted in
    let n = one_below in omega (arith, e, n))

counts_too_few : ¬ (IsSurvey surveyed (survey 2 0))
counts_too_few x = absurd (let e : 0 ≡ gone_below surveyed 2 = x.counted in
    let n = one_below in omega (arith, e, n))

-- ---- a set whose position gave its objects up
abbrev left_dead : SetState → SetState
left_dead set = record set { positions = dead_position ∷ dead_position ∷ [] }

abbrev counted : FarState
counted = with_sets (three whole gone gone) (survey 2 1)

goes_on : survey_left counted 1 gone ≡ survey 2 1
goes_on = refl

dropped_and_gone : survey_left counted 1 (left_dead gone) ≡ survey 2 0
dropped_and_gone = refl

dropped_and_whole : survey_left counted 0 (left_dead whole) ≡ survey 2 1
dropped_and_whole = refl

dropped_past_the_survey : survey_left counted 2 (left_dead gone) ≡ survey 2 1
dropped_past_the_survey = refl

-- the whole far state then
left_on : with_left counted 1 gone
    ≡ record counted { sets = map.insert counted.sets 1 (kept gone) }
left_on = refl

abbrev without_rows : NodesState
without_rows = with_dropped
    (with_dropped (with_dropped counted.nodes (node 1) 7) (node 2) 8) (node 3) 9

left_off : with_left counted 1 (left_dead gone) ≡ record counted {
  sets = map.remove counted.sets 1;
  nodes = without_rows;
  survey = survey 2 0;
}
left_off = refl

dropped : with_set_dropped counted 1 gone ≡ record counted {
  sets = map.remove counted.sets 1;
  nodes = without_rows;
  survey = survey 2 0;
}
dropped = refl

dropped_uncounted : (with_set_dropped counted 2 gone).survey ≡ survey 2 1
dropped_uncounted = refl

dropped_whole : (with_set_dropped counted 0 whole).survey ≡ survey 2 1
dropped_whole = refl

-- ---- a crash and a join
-- what is known behind a crash of a node that held no row, and of one that held some
keeps_behind_none : survey_after_crash (survey 3 2) 0 ≡ survey 3 2
keeps_behind_none = refl

forgets_behind_one : survey_after_crash (survey 3 2) 1 ≡ no_survey
forgets_behind_one = refl

-- node 3 holds a row
abbrev with_a_row : FarState
with_a_row = record surveyed { nodes = with_row (empty_nodes 4 1) (node 3) 9 (1 ∷ []) }

one_row : held with_a_row.nodes (node 3) ≡ 1
one_row = grind (arith, map.gets)

no_row : held with_a_row.nodes (node 2) ≡ 0
no_row = grind (arith, map.gets)

abbrev crashed_with : NodeId → Survey → FarState
crashed_with n known = record with_a_row {
  nodes = with_rows with_a_row.nodes n map.empty;
  members = with_crash members n;
  survey = known;
}

crash_forgets : crashed_far with_a_row (node 3) ≡ crashed_with (node 3) no_survey
crash_forgets =
    ap (λ (n : ℕ). crashed_with (node 3) (survey_after_crash with_a_row.survey n)) one_row

crash_without_rows_keeps : crashed_far with_a_row (node 2) ≡ crashed_with (node 2) (survey 2 1)
crash_without_rows_keeps =
    ap (λ (n : ℕ). crashed_with (node 2) (survey_after_crash with_a_row.survey n)) no_row

-- the first set is weak then
not_after_the_crash : ¬ (IsSurvey (crashed_far with_a_row (node 3)) surveyed.survey)
not_after_the_crash x = x.none 0 whole (lit< tt) (first_of whole gone weak)
    (record { some_lost = lit≤ tt; few_lost = lit≤ tt })

join_keeps : joined_far surveyed (node 1) ≡ record surveyed { members = with_join members (node 1) }
join_keeps = refl
