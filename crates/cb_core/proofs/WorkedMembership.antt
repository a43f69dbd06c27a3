-- Worked examples of a crash and a join of a node: turns, and turns with one part broken.
use Rattle.std.proofs.Common.{◌≡◌, ℕ, ◌+◌, true, false, List, [], ◌∷◌, None, Some, refl, ap, sym, ◌∙◌, arith}
use Rattle.std.specs.Prelude.{slice_index_or, None}
use Rattle.std.specs.FinMap as map
use Rattle.cb_member.specs.declared.names.NodeId.{NodeId}
use Rattle.cb_member.specs.Membership.{Membership, alive, fresh_node}
use Rattle.cb_node.specs.NodesState.{NodesState, empty_nodes, held, with_row, with_rows, row_under}
use Rattle.cb_types.specs.declared.reply.Reply.{Reply}
use Rattle.cb_types.specs.declared.reply.Reply.TheVariants as answer
use Rattle.cb_world.specs.FarState.{FarState}
use Rattle.cb_world.specs.NodeChanges.{crashed_far, joined_far}
use Rattle.cb_world.specs.Survey.{no_survey, survey_after_crash}
use Rattle.cb_core.specs.Membership.{CrashTurn, crashed, is_down, JoinTurn, joined, is_up}

abbrev node : ℕ → NodeId
node n = record { n = n }

-- two nodes, of which each has a row under key 7
abbrev rows : NodesState
rows = with_row (with_row (empty_nodes 2 4) (node 0) 7 (1 ∷ [])) (node 1) 7 (2 ∷ [])

-- both are up, after four crashes and joins
abbrev both_up : Membership
both_up = record { epoch = 4; nodes = fresh_node ∷ fresh_node ∷ [] }

-- node 0 crashed
abbrev first_down : Membership
first_down = record {
  epoch = 5;
  nodes = record { up = false; incarnation = 0; crashes = record { n = 5 } ∷ [] } ∷ fresh_node ∷ [];
}

-- node 0 joined again
abbrev again_up : Membership
again_up = record {
  epoch = 6;
  nodes = record { up = true; incarnation = 1; crashes = record { n = 5 } ∷ [] } ∷ fresh_node ∷ [];
}

-- a far state with these nodes
abbrev with_nodes : FarState → NodesState → Membership → FarState
with_nodes far nodes members = record far { nodes = nodes; members = members }

abbrev without_rows : NodesState
without_rows = with_rows rows (node 0) map.empty

-- ---- a crash
-- the far state where nothing is known of how the sets stand
abbrev forgetful : FarState → FarState
forgetful far = record far { survey = no_survey }

one_row : held rows (node 0) ≡ 1
one_row = grind (arith, map.gets)

crash_of_a_row : (far : FarState) → crashed_far (with_nodes far rows both_up) (node 0)
    ≡ forgetful (with_nodes far without_rows first_down)
crash_of_a_row far = ap (λ (n : ℕ). record (with_nodes far without_rows first_down) {
  survey = survey_after_crash far.survey n;
}) one_row

crashes : (far : FarState) → CrashTurn (node 0) (with_nodes far rows both_up)
    (answer.EpochAt (record { n = 5 })) (forgetful (with_nodes far without_rows first_down))
crashes far = crashed refl refl (sym (crash_of_a_row far))

-- a node that is up crashes
is_crashed : (n : NodeId) (far new : FarState) (r : Reply) → alive far.members n ≡ true
    → CrashTurn n far r new
    → (r ≡ answer.EpochAt (record { n = far.members.epoch + 1 })) × (new ≡ crashed_far far n)
is_crashed n far new r up (crashed _ reply state) = (reply, state)
is_crashed n far new r up (is_down down reply same) = absurd (let e = sym up ∙ down in cc)

abbrev up_crashed : (far new : FarState) (r : Reply)
    → CrashTurn (node 0) (with_nodes far rows both_up) r new
    → (r ≡ answer.EpochAt (record { n = 5 }))
    × (new ≡ forgetful (with_nodes far without_rows first_down))
up_crashed far new r step =
    let x = is_crashed (node 0) (with_nodes far rows both_up) new r refl step in
    (x.0, x.1 ∙ crash_of_a_row far)

abbrev epoch_of : Reply → ℕ
epoch_of (answer.EpochAt epoch) = epoch.n
epoch_of r = 0

crashes_at_the_same_epoch : (far : FarState) → CrashTurn (node 0) (with_nodes far rows both_up)
    (answer.EpochAt (record { n = 4 })) (forgetful (with_nodes far without_rows first_down)) → ⊥
crashes_at_the_same_epoch far step =
    let e : 4 ≡ 5 = ap epoch_of (up_crashed far _ _ step).0 in omega (arith, e)

none_some : (row : List ℕ) → None ≡ Some row → ⊥
none_some row e = cc

first_row : row_under rows (node 0) 7 ≡ Some (1 ∷ [])
first_row = grind (arith, map.gets)

first_gone : row_under without_rows (node 0) 7 ≡ None
first_gone = grind (arith, map.gets)

second_row : row_under without_rows (node 1) 7 ≡ Some (2 ∷ [])
second_row = grind (arith, map.gets)

crashes_and_keeps_a_row : (far : FarState) → CrashTurn (node 0) (with_nodes far rows both_up)
    (answer.EpochAt (record { n = 5 })) (forgetful (with_nodes far rows first_down)) → ⊥
crashes_and_keeps_a_row far step = none_some (1 ∷ []) (sym (sym first_row
    ∙ ap (λ (f : FarState). row_under f.nodes (node 0) 7) (up_crashed far _ _ step).1 ∙ first_gone))

-- the rows of the other node stay
crashes_another : (far : FarState) → CrashTurn (node 0) (with_nodes far rows both_up)
    (answer.EpochAt (record { n = 5 }))
    (forgetful (with_nodes far (with_rows without_rows (node 1) map.empty) first_down)) → ⊥
crashes_another far step =
    let none : row_under (with_rows without_rows (node 1) map.empty) (node 1) 7 ≡ None =
    grind (arith, map.gets) in
    none_some (2 ∷ []) (sym none
    ∙ ap (λ (f : FarState). row_under f.nodes (node 1) 7) (up_crashed far _ _ step).1 ∙ second_row)

crashes_and_stays_up : (far : FarState) → CrashTurn (node 0) (with_nodes far rows both_up)
    (answer.EpochAt (record { n = 5 })) (forgetful (with_nodes far without_rows both_up)) → ⊥
crashes_and_stays_up far step = let e : 4 ≡ 5 =
    ap (λ (f : FarState). f.members.epoch) (up_crashed far _ _ step).1 in omega (arith, e)

crashes_and_makes : (far : FarState) → CrashTurn (node 0) (with_nodes far rows both_up)
    (answer.EpochAt (record { n = 5 }))
    (record (forgetful (with_nodes far without_rows first_down)) { made = far.made + 1 }) → ⊥
crashes_and_makes far step = let e : far.made + 1 ≡ far.made =
    ap (λ (f : FarState). f.made) (up_crashed far _ _ step).1 in omega (arith, e)

abbrev surveyed : FarState → FarState
surveyed far = record far { survey = record { below = 1; gone = 0; no_pair = None } }

crashes_and_keeps_the_survey : (far : FarState)
    → CrashTurn (node 0) (with_nodes (surveyed far) rows both_up) (answer.EpochAt (record { n = 5 }))
    (with_nodes (surveyed far) without_rows first_down) → ⊥
crashes_and_keeps_the_survey far step = let e : 1 ≡ 0 =
    ap (λ (f : FarState). f.survey.below) (up_crashed (surveyed far) _ _ step).1 in omega (arith, e)

-- a node that has no row crashes, and what was known stays known
abbrev bare : NodesState
bare = with_row (empty_nodes 2 4) (node 1) 7 (2 ∷ [])

abbrev bare_down : FarState → FarState
bare_down far = with_nodes far (with_rows bare (node 0) map.empty) first_down

none_held : held bare (node 0) ≡ 0
none_held = grind (arith, map.gets)

crash_of_no_row : (far : FarState)
    → crashed_far (with_nodes far bare both_up) (node 0) ≡ bare_down far
crash_of_no_row far = ap (λ (n : ℕ). record (bare_down far) {
  survey = survey_after_crash far.survey n;
}) none_held

crashes_without_rows : (far : FarState) → CrashTurn (node 0) (with_nodes far bare both_up)
    (answer.EpochAt (record { n = 5 })) (bare_down far)
crashes_without_rows far = crashed refl refl (sym (crash_of_no_row far))

forgets_for_nothing : (far : FarState) → CrashTurn (node 0) (with_nodes (surveyed far) bare both_up)
    (answer.EpochAt (record { n = 5 })) (forgetful (bare_down (surveyed far))) → ⊥
forgets_for_nothing far step = let e : 0 ≡ 1 = ap (λ (f : FarState). f.survey.below)
    ((is_crashed (node 0) _ _ _ refl step).1 ∙ crash_of_no_row (surveyed far)) in omega (arith, e)

-- a node that is down
down_already : (far : FarState) → CrashTurn (node 0) (with_nodes far without_rows first_down)
    (answer.Down (node 0)) (with_nodes far without_rows first_down)
down_already far = is_down refl refl refl

down_and_crashes_again : (far : FarState)
    → CrashTurn (node 0) (with_nodes far without_rows first_down)
    (answer.EpochAt (record { n = 6 }))
    (crashed_far (with_nodes far without_rows first_down) (node 0)) → ⊥
down_and_crashes_again far (crashed up reply state) = absurd cc
down_and_crashes_again far (is_down down reply same) = absurd cc

down_and_counts_an_epoch : (far : FarState)
    → CrashTurn (node 0) (with_nodes far without_rows first_down) (answer.Down (node 0))
    (with_nodes far without_rows (record first_down { epoch = 6 })) → ⊥
down_and_counts_an_epoch far (crashed up reply state) = absurd cc
down_and_counts_an_epoch far (is_down down reply same) = let e : 6 ≡ 5 =
    ap (λ (f : FarState). f.members.epoch) same in omega (arith, e)

-- ---- a join
joins : (far : FarState) → JoinTurn (node 0) (with_nodes far without_rows first_down)
    (answer.EpochAt (record { n = 6 })) (with_nodes far without_rows again_up)
joins far = joined refl refl refl

-- a node that is down joins
is_joined : (n : NodeId) (far new : FarState) (r : Reply) → alive far.members n ≡ false
    → JoinTurn n far r new
    → (r ≡ answer.EpochAt (record { n = far.members.epoch + 1 })) × (new ≡ joined_far far n)
is_joined n far new r down (joined _ reply state) = (reply, state)
is_joined n far new r down (is_up up reply same) = absurd (let e = sym down ∙ up in cc)

abbrev down_joined : (far new : FarState) (r : Reply)
    → JoinTurn (node 0) (with_nodes far without_rows first_down) r new
    → (r ≡ answer.EpochAt (record { n = 6 }))
    × (new ≡ with_nodes far without_rows again_up)
down_joined far new r step =
    is_joined (node 0) (with_nodes far without_rows first_down) new r refl step

joins_at_the_same_epoch : (far : FarState)
    → JoinTurn (node 0) (with_nodes far without_rows first_down)
    (answer.EpochAt (record { n = 5 })) (with_nodes far without_rows again_up) → ⊥
joins_at_the_same_epoch far step =
    let e : 5 ≡ 6 = ap epoch_of (down_joined far _ _ step).0 in omega (arith, e)

joins_with_a_row : (far : FarState) → JoinTurn (node 0) (with_nodes far without_rows first_down)
    (answer.EpochAt (record { n = 6 })) (with_nodes far rows again_up) → ⊥
joins_with_a_row far step = none_some (1 ∷ []) (sym (sym first_row
    ∙ ap (λ (f : FarState). row_under f.nodes (node 0) 7) (down_joined far _ _ step).1
    ∙ first_gone))

-- as in its next incarnation, and not in the one that crashed
joins_in_the_same_incarnation : (far : FarState)
    → JoinTurn (node 0) (with_nodes far without_rows first_down)
    (answer.EpochAt (record { n = 6 }))
    (with_nodes far without_rows (record { epoch = 6; nodes = fresh_node ∷ fresh_node ∷ [] })) → ⊥
joins_in_the_same_incarnation far step = let e : 0 ≡ 1 =
    ap (λ (f : FarState). (slice_index_or f.members.nodes 0 fresh_node).incarnation)
    (down_joined far _ _ step).1 in omega (arith, e)

up_already : (far : FarState) → JoinTurn (node 1) (with_nodes far rows first_down)
    (answer.Up (node 1)) (with_nodes far rows first_down)
up_already far = is_up refl refl refl

up_and_joins_again : (far : FarState) → JoinTurn (node 1) (with_nodes far rows first_down)
    (answer.EpochAt (record { n = 6 })) (joined_far (with_nodes far rows first_down) (node 1)) → ⊥
up_and_joins_again far (joined down reply state) = absurd cc
up_and_joins_again far (is_up up reply same) = absurd cc

up_and_loses_its_rows : (far : FarState) → JoinTurn (node 1) (with_nodes far rows first_down)
    (answer.Up (node 1)) (with_nodes far (with_rows rows (node 1) map.empty) first_down) → ⊥
up_and_loses_its_rows far (joined down reply state) = absurd cc
up_and_loses_its_rows far (is_up up reply same) =
    let none : row_under (with_rows rows (node 1) map.empty) (node 1) 7 ≡ None =
    grind (arith, map.gets) in
    let some : row_under rows (node 1) 7 ≡ Some (2 ∷ []) = grind (arith, map.gets) in
    none_some (2 ∷ []) (sym none ∙ ap (λ (f : FarState). row_under f.nodes (node 1) 7) same ∙ some)
