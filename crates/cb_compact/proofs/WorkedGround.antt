-- The ground of the worked examples of a pair: six nodes, and on them the two sets of the worked
-- pair, whose words are the same three rows.
use Rattle.std.proofs.Common.{◌≡◌, if◌then◌else◌, ℕ, zero, suc, Bool, true, false, List, [], ◌∷◌, Option, None, Some, refl, subst, arith, lit≤}
use Rattle.std.specs.FinMap as map
use Rattle.std.proofs.lemmas.Option.{none-some, same_Some}
use Rattle.cb_gf256.specs.Rows.{row_at}
use Rattle.cb_member.specs.declared.names.Shard.{Shard}
use Rattle.cb_member.specs.Membership.{Membership, NodeState, fresh_node}
use Rattle.cb_node.specs.NodesState.{NodesState, empty_nodes, held, nodes_of, row_under}
use Rattle.cb_node.specs.Rows.{RowsByKey}
use Rattle.cb_set.specs.SetState.{PositionState, SetState, set_of}
use Rattle.cb_world.specs.declared.homes.Home.{Home}
use Rattle.cb_world.specs.FarState.{FarState}
use Rattle.cb_world.specs.Joining.{JoiningState}
use Rattle.cb_world.specs.Merged.{IsMergedWord, takes}
use Rattle.cb_world.specs.Sets.{Kept, SetMap, set_in}
use Rattle.cb_world.specs.SetWord.{HasRows, IsSpanWord, IsWordOf}
use Rattle.cb_world.specs.Survey.{no_survey}
use Rattle.cb_world.proofs.Laws.{is_word as worked_word, node, row, rows}
use Rattle.cb_compact.proofs.WorkedPair.{begun, on_node, set_a, set_b}

-- ---- the nodes
abbrev pub crashed : NodeState
crashed = record { up = false; incarnation = 0; crashes = record { n = 1 } ∷ [] }

abbrev pub members_with : NodeState → NodeState → Membership
members_with second fifth = record {
  epoch = 1;
  nodes = fresh_node ∷ second ∷ fresh_node ∷ fresh_node ∷ fifth ∷ fresh_node ∷ [];
}

-- all nodes are up; node 1 has crashed, or node 4, or both
abbrev pub all_up : Membership
all_up = members_with fresh_node fresh_node

abbrev pub one_down : Membership
one_down = members_with crashed fresh_node

abbrev pub four_down : Membership
four_down = members_with fresh_node crashed

abbrev pub both_down : Membership
both_down = members_with crashed crashed

-- a node that holds one row, under its own number
abbrev holds : ℕ → ℕ → RowsByKey
holds key byte = map.insert map.empty key (row byte)

abbrev pub nodes_with : ℕ → NodesState
nodes_with room = nodes_of room 0
    (holds 0 7 ∷ holds 1 0 ∷ holds 2 7 ∷ holds 3 7 ∷ holds 4 0 ∷ holds 5 7 ∷ [])

pub has_row : (key byte : ℕ) → map.get (holds key byte) key ≡ Some (row byte)
has_row key byte = grind (arith, map.gets)

pub holds_one : (room : ℕ) → held (nodes_with room) (node 1) ≡ 1
holds_one room = grind (arith, map.gets)

-- ---- the sets
abbrev kept : SetState → Kept
kept set = record { set = set; committed = true }

-- sets of the numbers 0 and 1, and of 0 to 3
abbrev pub two : SetState → SetState → SetMap
two a b = map.insert (map.insert map.empty 0 (kept a)) 1 (kept b)

abbrev pub four : SetState → SetState → SetState → SetState → SetMap
four a b c d = map.insert (map.insert (two a b) 2 (kept c)) 3 (kept d)

pub first_of : (a b : SetState) → set_in (two a b) 0 ≡ Some a
first_of a b = grind (arith, map.gets)

pub second_of : (a b : SetState) → set_in (two a b) 1 ≡ Some b
second_of a b = grind (arith, map.gets)

pub none_third : (a b : SetState) → set_in (two a b) 2 ≡ None
none_third a b = grind (arith, map.gets)

pub first_of_four : (a b c d : SetState) → set_in (four a b c d) 0 ≡ Some a
first_of_four a b c d = grind (arith, map.gets)

pub second_of_four : (a b c d : SetState) → set_in (four a b c d) 1 ≡ Some b
second_of_four a b c d = grind (arith, map.gets)

pub third_of_four : (a b c d : SetState) → set_in (four a b c d) 2 ≡ Some c
third_of_four a b c d = grind (arith, map.gets)

pub fourth_of_four : (a b c d : SetState) → set_in (four a b c d) 3 ≡ Some d
fourth_of_four a b c d = grind (arith, map.gets)

-- ---- the far state
-- object 7 has its home at position 0 of one set, and object 8 at position 1 of one
abbrev pub homes_in : ℕ → ℕ → List (Option Home)
homes_in m n = None ∷ None ∷ None ∷ None ∷ None ∷ None ∷ None
    ∷ Some (record { set = m; position = 0; slot = 0 })
    ∷ Some (record { set = n; position = 1; slot = 0 }) ∷ []

abbrev pub far : SetMap → Membership → ℕ → Option JoiningState → FarState
far sets members room joining = record {
  first = 1;
  made = 9;
  frames = [];
  spans = [];
  sets = sets;
  homes = homes_in 0 1;
  nodes = nodes_with room;
  members = members;
  code = record { k = 2; r = 1 };
  leaving = None;
  joining = joining;
  counts = record { turns = 0; by_job = []; sets = 2; keys = 6 };
  survey = no_survey;
}

-- the pair of both sets has begun
abbrev pub ground : FarState
ground = far (two set_a set_b) all_up 2 (Some begun)

-- ---- the words
is_span_word : IsSpanWord 1 2 1 rows
is_span_word = (worked_word (empty_nodes 4 2) one_down 0 (record { live = false; slots = [] })
    (record { live = false; slots = [] }) (lit≤ tt) refl).code

module _ (id x y z : ℕ) (first second : PositionState)
    (first_row : row_under (nodes_with 2) (node x) x ≡ Some (row 7))
    (second_row : row_under (nodes_with 2) (node y) y ≡ Some (row 0))
    (third_row : row_under (nodes_with 2) (node z) z ≡ Some (row 7)) where
  abbrev shards : List Shard
  shards = on_node x ∷ on_node y ∷ on_node z ∷ []

  survive : HasRows (nodes_with 2) all_up shards rows
  survive zero shard e stands = subst (λ (s : Shard).
      row_under (nodes_with 2) s.node s.key ≡ Some (row 7))
      (same_Some (on_node x) shard e) first_row
  survive (suc zero) shard e stands = subst (λ (s : Shard).
      row_under (nodes_with 2) s.node s.key ≡ Some (row 0))
      (same_Some (on_node y) shard e) second_row
  survive (suc (suc zero)) shard e stands = subst (λ (s : Shard).
      row_under (nodes_with 2) s.node s.key ≡ Some (row 7))
      (same_Some (on_node z) shard e) third_row
  survive (suc (suc (suc p))) shard e stands = absurd (none-some shard e)

  word_of : IsWordOf (nodes_with 2) all_up (set_of id 1 shards (first ∷ second ∷ [])) rows
  word_of = record { code = is_span_word; survive = survive }

pub word_a : IsWordOf ground.nodes ground.members set_a rows
word_a = word_of 0 0 1 2 _ _ (has_row 0 7) (has_row 1 0) (has_row 2 7)

pub word_b : IsWordOf ground.nodes ground.members set_b rows
word_b = word_of 1 3 4 5 _ _ (has_row 3 7) (has_row 4 0) (has_row 5 7)

-- the merged word of two that are the same
pub merged_word : IsMergedWord 1 2 1 begun.taken rows rows rows
merged_word = record {
  word = is_span_word;
  chosen = λ i l. either (takes begun.taken i) (row_at rows i);
}
  where
    either : (b : Bool) (x : List ℕ) → x ≡ (if b then x else x)
    either true x = refl
    either false x = refl
