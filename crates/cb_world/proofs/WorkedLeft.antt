-- Worked examples of what a position gives up, and of what becomes of its set and of its rows, with
-- what breaks one part alone.
use Rattle.std.specs.Prelude.{None}
use Rattle.std.proofs.Common.{◌≡◌, ◌≢◌, ◌⊎◌, ℕ, zero, suc, ◌<◌, true, false, [], ◌∷◌, None, Some, get_or, refl, sym, ap, ◌∙◌, subst, arith, inl, inr, lit<}
use Rattle.std.specs.FinMap as map
use Rattle.std.specs.List.{slice_get}
use Rattle.cb_member.specs.declared.names.NodeId.{NodeId}
use Rattle.cb_member.specs.declared.names.Shard.{Shard}
use Rattle.cb_member.specs.Membership.{fresh_members, with_crash}
use Rattle.cb_node.specs.NodesState.{NodesState, empty_nodes, held, with_row, with_dropped, row_under}
use Rattle.cb_set.specs.SetState.{PositionState, SetState, dead_position, filled_position, set_of}
use Rattle.cb_world.specs.declared.homes.Home.{Home}
use Rattle.cb_world.specs.declared.object.Object.TheVariants as is
use Rattle.cb_world.specs.declared.shown.Shown.{Shown}
use Rattle.cb_world.specs.declared.survey.Survey.{Survey}
use Rattle.cb_world.specs.Sets.{Kept, SetMap, set_in, if_committed}
use Rattle.cb_world.specs.FarState.{FarState}
use Rattle.cb_world.specs.GivenUp.{GivesUp, IsDropped, IsGivenUp, IsLeft, SetGoesOn}
use Rattle.cb_world.specs.LeftOver.{LiesIn, nodes_left, set_without, sets_left, with_left, without_far}
use Rattle.cb_world.specs.Stored.{AreThere, NoKey}
use Rattle.cb_world.proofs.Apart.{some_same}
use Rattle.cb_world.specs.Rooms.{HaveRoom}
use Rattle.cb_world.proofs.Rooms.{room_empty, room_put}
use Rattle.cb_world.proofs.SetsLeft.{drop_fewer, drop_there}
use Rattle.cb_world.proofs.Storing.{drop_elsewhere}
use Rattle.cb_world.proofs.WorkedWorld.{far}

abbrev node : ℕ → NodeId
node n = record { n = n }

abbrev at : ℕ → ℕ → Shard
at n key = record { node = node n; incarnation = 0; key = key }

-- a data position with the objects 0 and 1 on node 0, and its parity on node 1
abbrev both : PositionState
both = filled_position (Some 0 ∷ Some 1 ∷ [])

abbrev one : PositionState
one = filled_position (None ∷ Some 1 ∷ [])

abbrev with_this : PositionState → SetState
with_this p = set_of 5 1 (at 0 7 ∷ at 1 8 ∷ []) (p ∷ [])

abbrev home : ℕ → Home
home slot = record { set = 5; position = 0; slot = slot }

-- a row of another set stands at node 0 too
abbrev nodes : NodesState
nodes = with_row (with_row (with_row (empty_nodes 2 2) (node 0) 7 (1 ∷ [])) (node 1) 8 (2 ∷ []))
    (node 0) 9 (3 ∷ [])

abbrev kept : SetState → Kept
kept set = record { set = set; committed = true }

abbrev sets : SetMap
sets = map.insert map.empty 5 (kept (with_this both))

abbrev away : FarState
away = record far {
  spans = [];
  frames = [];
  sets = sets;
  homes = Some (home 0) ∷ Some (home 1) ∷ None ∷ [];
  nodes = nodes;
  members = fresh_members 2;
  counts = record { turns = 0; by_job = []; sets = 6; keys = 10 };
}

-- ---- the set and its rows
the_first_leaves : set_without (with_this both) (home 0) ≡ with_this one
the_first_leaves = refl

the_last_leaves : set_without (with_this one) (home 1) ≡ with_this dead_position
the_last_leaves = refl

goes_on : sets_left sets 5 (with_this one) ≡ map.insert sets 5 (kept (with_this one))
goes_on = refl

is_dropped : sets_left sets 5 (with_this dead_position) ≡ map.remove sets 5
is_dropped = refl

rows_stay : nodes_left nodes (with_this one) ≡ nodes
rows_stay = refl

rows_go : nodes_left nodes (with_this dead_position)
    ≡ with_dropped (with_dropped nodes (node 0) 7) (node 1) 8
rows_go = refl

its_row_is_gone : row_under (nodes_left nodes (with_this dead_position)) (node 0) 7 ≡ None
its_row_is_gone = grind (arith, map.gets)

its_parity_is_gone : row_under (nodes_left nodes (with_this dead_position)) (node 1) 8 ≡ None
its_parity_is_gone = grind (arith, map.gets)

another_row_stays : row_under (nodes_left nodes (with_this dead_position)) (node 0) 9
    ≡ Some (3 ∷ [])
another_row_stays = grind (arith, map.gets)

-- ---- the far state without a far object
lies : LiesIn away 0 (home 0) (with_this both)
lies = record { at = refl; there = there }
  where
    there : set_in sets 5 ≡ Some (with_this both)
    there = grind (arith, map.gets)

none_some : {X : Type 0} (x : X) → None ≡ Some x → ⊥
none_some x e = cc

lies_in_no_set : ¬ (LiesIn (record away { sets = map.empty }) 0 (home 0) (with_this both))
lies_in_no_set x = none_some (with_this both) (sym none ∙ x.there)
  where
    none : set_in map.empty 5 ≡ None
    none = grind (arith, map.gets)

lies_at_no_home : ¬ (LiesIn away 2 (home 0) (with_this both))
lies_at_no_home x = none_some (home 0) x.at

homes_then : (without_far away 0 (home 0) (with_this both)).homes ≡ None ∷ Some (home 1) ∷ None ∷ []
homes_then = refl

sets_then : (without_far away 0 (home 0) (with_this both)).sets
    ≡ map.insert sets 5 (kept (with_this one))
sets_then = refl

name_same : (a b : ℕ) → Some a ≡ Some b → a ≡ b
name_same a b e = cc

differ : (a b : ℕ) → a ≢ b → Some a ≡ Some b → ⊥
differ a b off e = off (name_same a b e)

-- ---- what is given up: object 0 is freed
abbrev known : Shown
known = record {
  first = 1;
  objects = is.Far 2 1 (2826 ∷ []) ∷ is.Far 2 1 (7 ∷ []) ∷ is.Empty 0 ∷ [];
  hots = false ∷ false ∷ false ∷ [];
  versions = 1 ∷ 1 ∷ 0 ∷ [];
  memory = [];
}

abbrev freed : Shown
freed = record known {
  objects = is.Empty 2 ∷ is.Far 2 1 (7 ∷ []) ∷ is.Empty 0 ∷ [];
  versions = 2 ∷ 1 ∷ 0 ∷ [];
}

abbrev then_ : FarState
then_ = without_far away 0 (home 0) (with_this both)

first_is_given_up : IsGivenUp freed then_ (with_this both) 0 one 0
first_is_given_up = record {
  slot = 0;
  named = refl;
  gone = gone;
  home = refl;
  near = λ x. x;
}
  where
    gone : (slot : ℕ) → get_or one.slots slot None ≡ Some 0 → ⊥
    gone zero e = none_some 0 e
    gone (suc zero) e = differ 1 0 (omega arith) e
    gone (suc (suc slot)) e = none_some 0 e

second_is_left : IsLeft known freed away then_ (with_this both) 0 one 1
second_is_left = record { object = refl; home = refl; stays = stays }
  where
    stays : (slot : ℕ) → get_or both.slots slot None ≡ Some 1 → get_or one.slots slot None ≡ Some 1
    stays zero e = absurd (differ 0 1 (omega arith) e)
    stays (suc zero) e = refl
    stays (suc (suc slot)) e = absurd (none_some 1 e)

given_up_and_far : ¬ (IsGivenUp known then_ (with_this both) 0 one 0)
given_up_and_far x = x.near tt

given_up_with_a_home : ¬ (IsGivenUp freed away (with_this both) 0 one 0)
given_up_with_a_home x = none_some (home 0) (sym x.home)

given_up_and_named : ¬ (IsGivenUp freed then_ (with_this both) 0 both 0)
given_up_and_named x = x.gone 0 refl

left_without_its_name : ¬ (IsLeft known freed away then_ (with_this both) 0 dead_position 1)
left_without_its_name x = none_some 1 (x.stays 1 refl)

-- neither left nor given up: it has its home, and the position does not name it
forgets_an_object : (id : ℕ) (s : Shown) (new : FarState)
    → get_or new.homes 1 None ≡ Some (home 1)
    → ¬ (GivesUp s s away new id (with_this both) 0 dead_position)
forgets_an_object id s new there x = by (x.each 1)
  where
    by : IsLeft s s away new (with_this both) 0 dead_position 1
        ⊎ IsGivenUp s new (with_this both) 0 dead_position 1 → ⊥
    by (inl y) = none_some 1 (y.stays 1 refl)
    by (inr y) = none_some (home 1) (sym y.home ∙ there)

draws_a_key : ¬ (GivesUp known freed away (record then_ {
  counts = record away.counts { keys = 11 };
}) 5 (with_this both) 0 one)
draws_a_key x = let e : 11 ≡ 10 = ap (λ c. c.keys) x.counts in omega (arith, e)

-- a row and another at node 0, one at node 1
abbrev one_row : NodesState
one_row = with_row (empty_nodes 2 2) (node 0) 7 (1 ∷ [])

have_room : HaveRoom nodes
have_room = room_put (with_row one_row (node 1) 8 (2 ∷ [])) (node 0) 9 (3 ∷ [])
    (omega (arith, one_there))
    (room_put one_row (node 1) 8 (2 ∷ []) (omega (arith, none_beside))
    (room_put (empty_nodes 2 2) (node 0) 7 (1 ∷ []) (omega (arith, none)) (room_empty 2 2)))
  where
    none : held (empty_nodes 2 2) (node 0) ≡ 0
    none = grind (arith, map.gets)

    none_beside : held one_row (node 1) ≡ 0
    none_beside = grind (arith, map.gets)

    one_there : held (with_row one_row (node 1) 8 (2 ∷ [])) (node 0) ≡ 1
    one_there = grind (arith, map.gets)

two_there : held nodes (node 0) ≡ 2
two_there = grind (arith, map.gets)

takes_room_away : ¬ (GivesUp known freed away
    (record then_ { nodes = record nodes { room = 1 } }) 5 (with_this both) 0 one)
takes_room_away x = let l = x.room have_room (node 0) in omega (arith, l, two_there)

takes_another_set : ¬ (GivesUp known freed (record away { sets = map.insert sets 6 (kept (with_this both)) })
    then_ 5 (with_this both) 0 one)
takes_another_set x = none_some (with_this both) (sym none ∙ ap if_committed (x.others 6 (omega arith)) ∙ there)
  where
    none : set_in then_.sets 6 ≡ None
    none = grind (arith, map.gets)

    there : set_in (map.insert sets 6 (kept (with_this both))) 6 ≡ Some (with_this both)
    there = grind (arith, map.gets)

-- ---- the set goes on: object 0 was freed, and object 1 is there
abbrev survey : ℕ → ℕ → Survey
survey below gone = record { below = below; gone = gone; no_pair = None }

set_then : set_in then_.sets 5 ≡ Some (with_this one)
set_then = grind (arith, map.gets)

set_goes_on : SetGoesOn away then_ 5 (with_this one)
set_goes_on = record {
  there = set_then;
  some_live = (0, refl);
  survey = refl;
  rows = λ node key. refl;
}

false_true : false ≡ true → ⊥
false_true e = cc

goes_on_nowhere : ¬ (SetGoesOn away (record then_ { sets = map.empty }) 5 (with_this one))
goes_on_nowhere x = none_some (with_this one) (sym none ∙ x.there)
  where
    none : set_in map.empty 5 ≡ None
    none = grind (arith, map.gets)

goes_on_dead : ¬ (SetGoesOn away (record then_ {
  sets = map.insert sets 5 (kept (with_this dead_position));
}) 5 (with_this dead_position))
goes_on_dead x = dead x.some_live.0 x.some_live.1
  where
    dead : (q : ℕ) → (get_or (dead_position ∷ []) q dead_position).live ≡ true → ⊥
    dead zero e = false_true e
    dead (suc q) e = false_true e

goes_on_surveyed : ¬ (SetGoesOn away (record then_ { survey = survey 6 0 }) 5 (with_this one))
goes_on_surveyed x = let e : 6 ≡ 0 = ap (λ s. s.below) x.survey in omega (arith, e)

row_nine : row_under nodes (node 0) 9 ≡ Some (3 ∷ [])
row_nine = grind (arith, map.gets)

no_row_nine : row_under (with_dropped nodes (node 0) 9) (node 0) 9 ≡ None
no_row_nine = grind (arith, map.gets)

goes_on_without_a_row : ¬ (SetGoesOn away (record then_ { nodes = with_dropped nodes (node 0) 9 }) 5
    (with_this one))
goes_on_without_a_row x = none_some (3 ∷ []) (sym no_row_nine ∙ x.rows (node 0) 9 ∙ row_nine)

-- ---- the set is dropped: two of its nodes crashed, so that it was gone, and one row of it stood
abbrev on_three : PositionState → SetState
on_three p = set_of 5 1 (at 0 7 ∷ at 1 8 ∷ at 2 9 ∷ []) (p ∷ dead_position ∷ [])

abbrev rest : SetState
rest = on_three dead_position

abbrev counted : FarState
counted = record away {
  sets = map.insert map.empty 5 (kept (on_three both));
  nodes = with_row (with_row (empty_nodes 3 2) (node 2) 9 (1 ∷ [])) (node 2) 4 (2 ∷ []);
  members = with_crash (with_crash (fresh_members 3) (node 0)) (node 1);
  survey = survey 6 1;
}

abbrev left : FarState
left = with_left counted 5 rest

their_nodes : AreThere counted.nodes rest.shards
their_nodes p shard e = by p shard e
  where
    at_node : (a b : Shard) → Some a ≡ Some b → a.node.n < 3 → b.node.n < 3
    at_node a b e l = subst (λ (s : Shard). s.node.n < 3) (some_same a b e) l

    by : (p : ℕ) (shard : Shard) → slice_get rest.shards p ≡ Some shard → shard.node.n < 3
    by zero shard e = at_node (at 0 7) shard e (lit< tt)
    by (suc zero) shard e = at_node (at 1 8) shard e (lit< tt)
    by (suc (suc zero)) shard e = at_node (at 2 9) shard e (lit< tt)
    by (suc (suc (suc p))) shard e = absurd (none_some shard e)

no_set_five : set_in left.sets 5 ≡ None
no_set_five = grind (arith, map.gets)

none_live : (q : ℕ) → get_or rest.positions q dead_position ≡ dead_position
none_live zero = refl
none_live (suc zero) = refl
none_live (suc (suc q)) = refl

set_is_dropped : IsDropped counted left 5 rest
set_is_dropped = record {
  gone = no_set_five;
  no_live = λ q. ap (λ (p : PositionState). p.live) (none_live q);
  survey = refl;
  rows_gone = λ q shard at. drop_there counted.nodes rest.shards q shard their_nodes at;
  rows_stay = λ node key none. drop_elsewhere counted.nodes rest.shards node key their_nodes none;
  fewer = λ node key row at. drop_fewer counted.nodes rest.shards node key row their_nodes at;
}

dropped_and_there : ¬ (IsDropped counted (record left { sets = counted.sets }) 5 rest)
dropped_and_there x = none_some (on_three both) (sym x.gone ∙ there)
  where
    there : set_in counted.sets 5 ≡ Some (on_three both)
    there = grind (arith, map.gets)

dropped_and_live : ¬ (IsDropped counted left 5 (on_three one))
dropped_and_live x = false_true (sym (x.no_live 0))

-- it was counted
dropped_and_counted : ¬ (IsDropped counted (record left { survey = counted.survey }) 5 rest)
dropped_and_counted x = let e : 1 ≡ 0 = ap (λ (s : Survey). s.gone) x.survey in omega (arith, e)

stands_at_nine : row_under counted.nodes (node 2) 9 ≡ Some (1 ∷ [])
stands_at_nine = grind (arith, map.gets)

dropped_without_its_rows : ¬ (IsDropped counted (record left { nodes = counted.nodes }) 5 rest)
dropped_without_its_rows x =
    none_some (1 ∷ []) (sym (x.rows_gone 2 (at 2 9) refl) ∙ stands_at_nine)

-- the row of another set is dropped too
dropped_with_all_rows : ¬ (IsDropped counted (record left { nodes = empty_nodes 3 2 }) 5 rest)
dropped_with_all_rows x = none_some (2 ∷ []) (sym none ∙ x.rows_stay (node 2) 4 no_key ∙ four)
  where
    none : row_under (empty_nodes 3 2) (node 2) 4 ≡ None
    none = grind (arith, map.gets)

    four : row_under counted.nodes (node 2) 4 ≡ Some (2 ∷ [])
    four = grind (arith, map.gets)

    key : (a b : Shard) → Some a ≡ Some b → b.key ≡ 4 → a.key ≡ 4
    key a b e k = ap (λ (s : Shard). s.key) (some_same a b e) ∙ k

    no_key : NoKey rest.shards 4
    no_key zero shard there e = let k : 7 ≡ 4 = key (at 0 7) shard there e in omega (arith, k)
    no_key (suc zero) shard there e = let k : 8 ≡ 4 = key (at 1 8) shard there e in omega (arith, k)
    no_key (suc (suc zero)) shard there e = let k : 9 ≡ 4 = key (at 2 9) shard there e in omega (arith, k)
    no_key (suc (suc (suc p))) shard there e = absurd (none_some shard there)

-- another node has a row under the key of one that was dropped
dropped_with_a_new_row : ¬ (IsDropped counted (record left {
  nodes = with_row left.nodes (node 0) 9 (5 ∷ []);
}) 5 rest)
dropped_with_a_new_row x =
    none_some (5 ∷ []) (sym none ∙ x.fewer (node 0) 9 (5 ∷ []) new)
  where
    none : row_under counted.nodes (node 0) 9 ≡ None
    none = grind (arith, map.gets)

    new : row_under (with_row left.nodes (node 0) 9 (5 ∷ [])) (node 0) 9 ≡ Some (5 ∷ [])
    new = grind (arith, map.gets)
