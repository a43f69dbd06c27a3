-- Worked examples of how a pair begins to join, goes a step further and is given up: what meets each
-- definition, and for each of its parts what breaks that part alone.
use Rattle.std.proofs.Common.{◌≡◌, ◌≢◌, ◌⊎◌, ℕ, zero, suc, ◌+◌, ◌<◌, ◌≤◌, true, false, List, [], ◌∷◌, None, Some, refl, sym, ap, ◌∙◌, subst, arith, inl, inr, lit<, lit≤}
use Rattle.std.specs.FinMap as map
use Rattle.std.specs.List.{slice_get}
use Rattle.std.proofs.lemmas.Bool.{cases_eq}
use Rattle.std.proofs.lemmas.Bool.Decides.{nat_tests}
use Rattle.cb_gf256.specs.Rows.{row_at}
use Rattle.cb_member.specs.declared.names.NodeId.{NodeId}
use Rattle.cb_member.specs.declared.names.Shard.{Shard}
use Rattle.cb_member.specs.Membership.{Membership, fresh_members, with_crash}
use Rattle.cb_node.specs.NodesState.{NodesState, held, nodes_of, row_under}
use Rattle.cb_node.specs.Rows.{RowsByKey}
use Rattle.cb_set.specs.SetState.{SetState, dead_position, live_at}
use Rattle.cb_set.specs.Matched.{IsMatched}
use Rattle.cb_world.specs.FarState.{FarState}
use Rattle.cb_world.specs.Join.{IsFresh, IsJoinWord}
use Rattle.cb_world.specs.Joining.{JoiningState}
use Rattle.cb_world.specs.JoinSteps.{IsBegun, IsParted, IsStepped, LeavesSets, NoStep, with_step}
use Rattle.cb_world.specs.Merged.{takes}
use Rattle.cb_world.specs.Sets.{set_in}
use Rattle.cb_world.proofs.Apart.{some_same}
use Rattle.cb_world.specs.Rooms.{KeepRoom}
use Rattle.cb_world.proofs.Rooms.{room_put, room_rows}
use Rattle.cb_world.proofs.WorkedJoin.{differ, got, got_first, got_second, is_span_word, longer_b, one_row, two_rows}
use Rattle.cb_world.proofs.WorkedSteps.{a, at, b, batch, false_true, five_there, four_there, joining, kept, none_lost, none_some, of, pair}
use Rattle.cb_world.proofs.WorkedWord.{row, rows}

-- ---- a step: b's row of position 1 is put beside a's
abbrev none_done : JoiningState
none_done = record pair { steps = None ∷ None ∷ None ∷ [] }

abbrev one_done : JoiningState
one_done = record pair { steps = None ∷ Some (at 1 6) ∷ None ∷ [] }

-- a's first row and b's second, and what else is at the second node
abbrev with_second : RowsByKey → NodesState
with_second rows = nodes_of 4 0 (one_row 0 (row 7) ∷ rows ∷ map.empty ∷ [])

abbrev before : FarState
before = record joining {
  nodes = with_second (one_row 4 (row 0));
  joining = Some none_done;
  counts = record joining.counts { keys = 6 };
}

abbrev after : FarState
after = record joining {
  nodes = with_second (two_rows 4 (row 0) 6 (row 0));
  joining = Some one_done;
  counts = record joining.counts { keys = 7 };
}

row_more : KeepRoom before.nodes after.nodes
row_more = room_put before.nodes (record { n = 1 }) 6 (row 0) (omega (arith, one_there))
  where
    one_there : held before.nodes (record { n = 1 }) ≡ 1
    one_there = grind (arith, map.gets)

row_less : KeepRoom after.nodes before.nodes
row_less = room_rows after.nodes (record { n = 1 }) (one_row 4 (row 0)) (omega (arith, one))
  where
    one : map.len (one_row 4 (row 0)) ≡ 1
    one = grind (arith, map.gets)

leaves : LeavesSets before after
leaves = record {
  sets = refl;
  homes = refl;
  members = refl;
  leaving = refl;
  survey = refl;
  drawn = refl;
  keys = lit≤ tt;
  nodes = refl;
  room = row_more;
}

is_fresh : IsFresh before none_done a b
is_fresh = record {
  a_there = four_there;
  b_there = five_there;
  a_shards = refl;
  b_shards = refl;
  a_whole = none_lost 0 1 2;
  b_whole = none_lost 3 4 5;
}

nothing_done : (p : ℕ) (shard : Shard) → slice_get none_done.steps p ≡ Some (Some shard) → ⊥
nothing_done zero shard e = none_some shard (some_same None (Some shard) e)
nothing_done (suc zero) shard e = none_some shard (some_same None (Some shard) e)
nothing_done (suc (suc zero)) shard e = none_some shard (some_same None (Some shard) e)
nothing_done (suc (suc (suc p))) shard e = none_some (Some shard) e

-- a row more in a node's map
more_stays : (key other k : ℕ) (x y : List ℕ) → k ≢ other
    → map.get (two_rows key x other y) k ≡ map.get (one_row key x) k
more_stays key other k x y off = grind (arith, map.gets, nat_tests, off)

more_only : (key other k : ℕ) (x y z : List ℕ) → map.get (two_rows key x other y) k ≡ Some z
    → (map.get (one_row key x) k ≡ Some z) ⊎ (other ≡ k)
more_only key other k x y z at = elim (cases_eq other k) [
  | inl e ↦ inr e
  | inr off ↦ inl (sym (more_stays key other k x y (λ e. off (sym e))) ∙ at)
]

rows_stay : (n key : ℕ) → key ≢ 6 → row_under after.nodes (record { n = n }) key
    ≡ row_under before.nodes (record { n = n }) key
rows_stay zero key off = refl
rows_stay (suc zero) key off = more_stays 4 6 key (row 0) (row 0) off
rows_stay (suc (suc zero)) key off = refl
rows_stay (suc (suc (suc n))) key off = refl

rows_only : (n key : ℕ) (other : List ℕ)
    → row_under after.nodes (record { n = n }) key ≡ Some other
    → (row_under before.nodes (record { n = n }) key ≡ Some other) ⊎ ((1 ≡ n) × (6 ≡ key))
rows_only zero key other is = inl is
rows_only (suc zero) key other is = elim (more_only 4 6 key (row 0) (row 0) other is) [
  | inl was ↦ inl was
  | inr e ↦ inr (refl, e)
]
rows_only (suc (suc zero)) key other is = inl is
rows_only (suc (suc (suc n))) key other is = inl is

merged_row : (pages k r : ℕ) (m : List (List ℕ)) → 1 ≡ pages → 3 ≡ k + r → 2 ≡ k
    → IsJoinWord before none_done pages k r m → row 0 ≡ row_at m 1
merged_row pages k r m long count size word = some_same (row 0) (row_at m 1)
    (sym (got 4 (row 0)) ∙ word.b_rows 1 (at 1 4) (omega (arith, size)) refl refl)

is_stepped : IsStepped before after none_done a b 1 (at 1 1) (at 1 6) (row 0)
is_stepped = record {
  was = refl;
  fresh = is_fresh;
  now = refl;
  undone = refl;
  at = refl;
  beside = record { node = refl; incarnation = refl };
  key = (lit≤ tt, lit< tt);
  sort = λ k r count size below. refl;
  merged = merged_row;
  put = got_second (row 0) (row 0);
  stay = λ node key off. rows_stay node.n key off;
  only = λ node key other is. rows_only node.n key other is;
  left = leaves;
}

-- ---- what is no step
stepped_unpaired : ¬ (IsStepped (record before { joining = None }) after none_done a b 1 (at 1 1)
    (at 1 6) (row 0))
stepped_unpaired x = none_some none_done x.was

-- a shard of both sets is lost
abbrev fewer_up : Membership
fewer_up = with_crash (fresh_members 3) (record { n = 0 })

stepped_stale : ¬ (IsStepped (record before { members = fewer_up })
    (record after { members = fewer_up }) none_done a b 1 (at 1 1) (at 1 6) (row 0))
stepped_stale x = false_true (sym (x.fresh.a_whole 0 (at 0 0) refl))

step_not_noted : ¬ (IsStepped before (record after { joining = None }) none_done a b 1 (at 1 1)
    (at 1 6) (row 0))
step_not_noted x = none_some one_done x.now

stepped_twice : ¬ (IsStepped (record before { joining = Some one_done }) after one_done a b 1
    (at 1 1) (at 1 6) (row 0))
stepped_twice x = none_some (at 1 6) (sym (some_same (Some (at 1 6)) None x.undone))

beside_no_shard_of_a : ¬ (IsStepped before after none_done a b 1 (at 1 9) (at 1 6) (row 0))
beside_no_shard_of_a x = absurd (let e : 1 ≡ 9 =
    ap (λ (s : Shard). s.key) (some_same (at 1 1) (at 1 9) x.at) in omega (arith, e))

-- the row is put at the third node
abbrev put_apart : FarState
put_apart = record after {
  nodes = nodes_of 4 0 (one_row 0 (row 7) ∷ one_row 4 (row 0) ∷ one_row 6 (row 0) ∷ []);
  joining = Some (with_step none_done 1 (at 2 6));
}

stepped_apart : ¬ (IsStepped before put_apart none_done a b 1 (at 1 1) (at 2 6) (row 0))
stepped_apart x = absurd (let e : 2 ≡ 1 = ap (λ (n : NodeId). n.n) x.beside.node in omega (arith, e))

-- the key was drawn before, or is not drawn now
key_of_before : ¬ (IsStepped (record before { counts = after.counts }) after none_done a b 1 (at 1 1)
    (at 1 6) (row 0))
key_of_before x = absurd (let l : 7 ≤ 6 = x.key.0 in omega (arith, l))

key_not_drawn : ¬ (IsStepped before (record after { counts = before.counts }) none_done a b 1
    (at 1 1) (at 1 6) (row 0))
key_not_drawn x = absurd (let l : 6 < 6 = x.key.1 in omega (arith, l))

-- a's own row is made again
abbrev own_again : FarState
own_again = record after {
  nodes =
      nodes_of 4 0 (two_rows 0 (row 7) 6 (row 7) ∷ one_row 4 (row 0) ∷ map.empty ∷ []);
  joining = Some (with_step none_done 0 (at 0 6));
}

stepped_at_an_own_row : ¬ (IsStepped before own_again none_done a b 0 (at 0 0) (at 0 6) (row 7))
stepped_at_an_own_row x = false_true (x.sort 2 1 refl refl (lit< tt))

-- the row is not that of the merged word
word_before : IsJoinWord before none_done 1 2 1 rows
word_before =
    record { word = is_span_word; a_rows = a_rows; b_rows = b_rows; new_rows = new_rows }
  where
    a_rows : (i : ℕ) (shard : Shard) → i < 2 → takes none_done.taken i ≡ false
        → slice_get none_done.shards_a i ≡ Some shard
        → row_under before.nodes shard.node shard.key ≡ Some (row_at rows i)
    a_rows zero shard below off e =
        subst (λ (s : Shard). row_under before.nodes s.node s.key ≡ Some (row 7))
        (some_same (at 0 0) shard e) (got 0 (row 7))
    a_rows (suc zero) shard below off e = absurd (false_true (sym off))
    a_rows (suc (suc i)) shard below off e = absurd (omega (arith, below))

    b_rows : (i : ℕ) (shard : Shard) → i < 2 → takes none_done.taken i ≡ true
        → slice_get none_done.shards_b i ≡ Some shard
        → row_under before.nodes shard.node shard.key ≡ Some (row_at rows i)
    b_rows zero shard below on e = absurd (false_true on)
    b_rows (suc zero) shard below on e =
        subst (λ (s : Shard). row_under before.nodes s.node s.key ≡ Some (row 0))
        (some_same (at 1 4) shard e) (got 4 (row 0))
    b_rows (suc (suc i)) shard below on e = absurd (omega (arith, below))

    new_rows : (p : ℕ) (shard : Shard) → slice_get none_done.steps p ≡ Some (Some shard)
        → row_under before.nodes shard.node shard.key ≡ Some (row_at rows p)
    new_rows p shard e = absurd (nothing_done p shard e)

stepped_with_another_row : ¬ (IsStepped before
    (record after { nodes = with_second (two_rows 4 (row 0) 6 (row 5)) }) none_done a b 1 (at 1 1)
    (at 1 6) (row 5))
stepped_with_another_row x = differ 5 0 (λ e. omega (arith, e))
    (ap (λ (r : List ℕ). Some r) (x.merged 1 2 1 rows refl refl refl word_before))

not_got : (key other : ℕ) (x : List ℕ) → other ≢ key → map.get (one_row key x) other ≡ None
not_got key other x off = grind (arith, map.gets, nat_tests, off)

row_not_put : ¬ (IsStepped before (record after { nodes = before.nodes }) none_done a b 1 (at 1 1)
    (at 1 6) (row 0))
row_not_put x = none_some (row 0) (sym (not_got 4 6 (row 0) (λ e. omega (arith, e))) ∙ x.put)

drops_a_row_of_b : ¬ (IsStepped before (record after { nodes = with_second (one_row 6 (row 0)) })
    none_done a b 1 (at 1 1) (at 1 6) (row 0))
drops_a_row_of_b x = none_some (row 0) (sym (not_got 6 4 (row 0) (λ e. omega (arith, e)))
    ∙ x.stay (record { n = 1 }) 4 (λ e. omega (arith, e)) ∙ got 4 (row 0))

-- under the same key at another node
abbrev put_twice : NodesState
put_twice = nodes_of 4 0 (two_rows 4 (row 7) 6 (row 1) ∷ two_rows 4 (row 0) 6 (row 0) ∷ map.empty ∷ [])

abbrev before_twice : FarState
before_twice = record before {
  nodes =
      nodes_of 4 0 (one_row 4 (row 7) ∷ one_row 4 (row 0) ∷ map.empty ∷ []);
}

puts_two_rows : ¬ (IsStepped before_twice (record after { nodes = put_twice }) none_done a b 1
    (at 1 1) (at 1 6) (row 0))
puts_two_rows x = elim (x.only (record { n = 0 }) 6 (row 1) (got_second (row 7) (row 1))) [
  | inl was ↦ none_some (row 1) (sym (not_got 4 6 (row 7) (λ e. omega (arith, e))) ∙ was)
  | inr same ↦ let e : 1 ≡ 0 = same.0 in omega (arith, e)
]

stepped_and_leaving : ¬ (IsStepped before (record after { leaving = Some batch }) none_done a b 1
    (at 1 1) (at 1 6) (row 0))
stepped_and_leaving x = none_some batch (sym x.left.leaving)

-- ---- the pair is given up, and its new row is dropped
abbrev parted : FarState
parted = record after { nodes = before.nodes; joining = None }

left_by_parting : LeavesSets after parted
left_by_parting = record {
  sets = refl;
  homes = refl;
  members = refl;
  leaving = refl;
  survey = refl;
  drawn = refl;
  keys = lit≤ tt;
  nodes = refl;
  room = row_less;
}

-- the one step
the_step : (p : ℕ) (shard : Shard) → slice_get one_done.steps p ≡ Some (Some shard) → at 1 6 ≡ shard
the_step zero shard e = absurd (none_some shard (some_same None (Some shard) e))
the_step (suc zero) shard e = some_same (at 1 6) shard (some_same (Some (at 1 6)) (Some shard) e)
the_step (suc (suc zero)) shard e = absurd (none_some shard (some_same None (Some shard) e))
the_step (suc (suc (suc p))) shard e = absurd (none_some (Some shard) e)

is_parted : IsParted after parted one_done
is_parted = record {
  was = refl;
  now = refl;
  gone = λ p shard e.
      subst (λ (s : Shard). row_under parted.nodes s.node s.key ≡ None) (the_step p shard e)
      (not_got 4 6 (row 0) (λ e. omega (arith, e)));
  stay = λ node key none. sym (rows_stay node.n key (λ e. none 1 (at 1 6) refl (sym e)));
  fewer = λ node key row is. fewer node.n key row is;
  left = left_by_parting;
}
  where
    in_both : (key : ℕ) (y : List ℕ) → map.get (one_row 4 (row 0)) key ≡ Some y
        → map.get (two_rows 4 (row 0) 6 (row 0)) key ≡ Some y
    in_both key y is = elim (cases_eq 6 key) [
      | inl e ↦ absurd (none_some y (sym (not_got 4 6 (row 0) (λ z. omega (arith, z)))
          ∙ ap (λ (k : ℕ). map.get (one_row 4 (row 0)) k) e ∙ is))
      | inr off ↦ more_stays 4 6 key (row 0) (row 0) (λ e. off (sym e)) ∙ is
    ]

    fewer : (n key : ℕ) (y : List ℕ) → row_under parted.nodes (record { n = n }) key ≡ Some y
        → row_under after.nodes (record { n = n }) key ≡ Some y
    fewer zero key y is = is
    fewer (suc zero) key y is = in_both key y is
    fewer (suc (suc zero)) key y is = is
    fewer (suc (suc (suc n))) key y is = is

parted_unpaired : ¬ (IsParted (record after { joining = None }) parted one_done)
parted_unpaired x = none_some one_done x.was

joins_still : ¬ (IsParted after (record parted { joining = Some one_done }) one_done)
joins_still x = none_some one_done (sym x.now)

keeps_the_new_row : ¬ (IsParted after (record parted { nodes = after.nodes }) one_done)
keeps_the_new_row x =
    none_some (row 0) (sym (x.gone 1 (at 1 6) refl) ∙ got_second (row 0) (row 0))

-- b's row is dropped with it
drops_a_row_more : ¬ (IsParted after (record parted { nodes = with_second map.empty }) one_done)
drops_a_row_more x = none_some (row 0) (sym (nothing 4) ∙ x.stay (record { n = 1 }) 4 off
    ∙ got_first (row 0) (row 0))
  where
    nothing : (key : ℕ) → row_under (with_second map.empty) (record { n = 1 }) key ≡ None
    nothing key = grind (arith, map.gets)

    off : NoStep one_done 4
    off p shard e same = let k = ap (λ (s : Shard). s.key) (the_step p shard e) in
        omega (arith, k, same)

-- a row comes under the key of the one that is dropped
abbrev before_put : FarState
before_put = record after {
  nodes = nodes_of 4 0 (one_row 4 (row 7) ∷ two_rows 4 (row 0) 6 (row 0) ∷ map.empty ∷ []);
}

puts_a_row : ¬ (IsParted before_put (record parted {
  nodes =
      nodes_of 4 0 (two_rows 4 (row 7) 6 (row 1) ∷ one_row 4 (row 0) ∷ map.empty ∷ []);
}) one_done)
puts_a_row x = none_some (row 1) (sym (not_got 4 6 (row 7) (λ e. omega (arith, e)))
    ∙ x.fewer (record { n = 0 }) 6 (row 1) (got_second (row 7) (row 1)))

parted_and_leaving : ¬ (IsParted after (record parted { leaving = Some batch }) one_done)
parted_and_leaving x = none_some batch (sym x.left.leaving)

-- ---- the begin
abbrev with_sets : SetState → SetState → FarState
with_sets x y = record before {
  sets = map.insert (map.insert map.empty 4 (kept x)) 5 (kept y);
  joining = None;
}

abbrev alone : FarState
alone = with_sets a b

-- the same with this pair
abbrev begun : FarState → JoiningState → FarState
begun far joins = record far { joining = Some joins }

left_by_begin : LeavesSets alone (begun alone none_done)
left_by_begin = record {
  sets = refl;
  homes = refl;
  members = refl;
  leaving = refl;
  survey = refl;
  drawn = refl;
  keys = lit≤ tt;
  nodes = refl;
  room = λ room. room;
}

is_matched : IsMatched (fresh_members 3) a b
is_matched = record { whole_a = refl; whole_b = refl; pages = refl; apart = apart }
  where
    apart : (k : ℕ) → live_at a k ≡ true → live_at b k ≡ true → ⊥
    apart zero one two = false_true two
    apart (suc zero) one two = false_true one
    apart (suc (suc k)) one two = false_true one

takes_other : (i q : ℕ) (taken : List ℕ) → i ≢ q → takes (i ∷ taken) q ≡ takes taken q
takes_other i q taken off = grind (arith, nat_tests)

is_begun : IsBegun alone (begun alone none_done) none_done a b
is_begun = record {
  was = refl;
  now = refl;
  a_there = four_there;
  b_there = five_there;
  a_shards = refl;
  b_shards = refl;
  distinct = λ e. omega (arith, e);
  matched = is_matched;
  positions = refl;
  shards = refl;
  taken = (lit< tt, refl, tt);
  live = live;
  undone = nothing_done;
  count = refl;
  nodes = refl;
  left = left_by_begin;
}
  where
    live : (p : ℕ) → takes none_done.taken p ≡ live_at b p
    live zero = refl
    live (suc zero) = refl
    live (suc (suc p)) = takes_other 1 (suc (suc p)) [] (λ e. omega (arith, e))

begins_while_joining : ¬ (IsBegun (record alone { joining = Some pair }) (begun alone none_done)
    none_done a b)
begins_while_joining x = none_some pair (sym x.was)

not_joining_then : ¬ (IsBegun alone alone none_done a b)
not_joining_then x = none_some none_done x.now

-- another set is under the number
begins_without_a : ¬ (IsBegun (with_sets b b) (begun (with_sets b b) none_done) none_done a b)
begins_without_a x = false_true (ap (λ (s : SetState). live_at s 0)
    (some_same b a (sym four_is ∙ x.a_there)))
  where
    four_is : set_in (with_sets b b).sets 4 ≡ Some b
    four_is = grind (arith, map.gets)

begins_without_b : ¬ (IsBegun (with_sets a a) (begun (with_sets a a) none_done) none_done a b)
begins_without_b x = false_true (ap (λ (s : SetState). live_at s 1)
    (some_same a b (sym five_is ∙ x.b_there)))
  where
    five_is : set_in (with_sets a a).sets 5 ≡ Some a
    five_is = grind (arith, map.gets)

abbrev first_key : List Shard → ℕ
first_key [] = 99
first_key (s ∷ l) = s.key

abbrev other_shards : List Shard
other_shards = at 0 9 ∷ at 1 1 ∷ at 2 2 ∷ []

abbrev with_a_shards : JoiningState
with_a_shards = record none_done { shards_a = other_shards }

abbrev with_b_shards : JoiningState
with_b_shards = record none_done { shards_b = other_shards }

begins_with_other_shards_of_a : ¬ (IsBegun alone (begun alone with_a_shards) with_a_shards a b)
begins_with_other_shards_of_a x =
    absurd (let e : 9 ≡ 0 = ap (λ (l : List Shard). first_key l) x.a_shards in omega (arith, e))

begins_with_other_shards_of_b : ¬ (IsBegun alone (begun alone with_b_shards) with_b_shards a b)
begins_with_other_shards_of_b x =
    absurd (let e : 9 ≡ 3 = ap (λ (l : List Shard). first_key l) x.b_shards in omega (arith, e))

-- a set without live positions matches itself
abbrev dead : SetState
dead = record a { positions = dead_position ∷ dead_position ∷ [] }

abbrev with_itself : JoiningState
with_itself = record none_done { b = 4; shards_b = a.shards; taken = [] }

begins_with_itself : ¬ (IsBegun (with_sets dead b) (begun (with_sets dead b) with_itself)
    with_itself dead dead)
begins_with_itself x = x.distinct refl

-- a is live where b is
abbrev fuller : SetState
fuller = record a { positions = of 0 ∷ of 2 ∷ [] }

begins_unmatched : ¬ (IsBegun (with_sets fuller b) (begun (with_sets fuller b) none_done) none_done
    fuller b)
begins_unmatched x = x.matched.apart 1 refl refl

begins_uneven : ¬ (IsBegun (with_sets a longer_b) (begun (with_sets a longer_b) none_done) none_done
    a longer_b)
begins_uneven x = absurd (let e : 3 ≡ 2 = x.positions in omega (arith, e))

-- b has a parity more
abbrev safer : SetState
safer = record b { shards = at 0 3 ∷ at 1 4 ∷ at 2 5 ∷ at 3 8 ∷ [] }

abbrev with_safer : JoiningState
with_safer = record none_done { shards_b = safer.shards }

begins_with_more_shards : ¬ (IsBegun (with_sets a safer) (begun (with_sets a safer) with_safer)
    with_safer a safer)
begins_with_more_shards x = absurd (let e : 4 ≡ 3 = x.shards in omega (arith, e))

abbrev taking : List ℕ → JoiningState
taking positions = record none_done { taken = positions }

takes_twice : ¬ (IsBegun alone (begun alone (taking (1 ∷ 1 ∷ []))) (taking (1 ∷ 1 ∷ [])) a b)
takes_twice x = false_true (sym x.taken.1)

takes_too_few : ¬ (IsBegun alone (begun alone (taking [])) (taking []) a b)
takes_too_few x = false_true (x.live 1)

begins_with_a_step : ¬ (IsBegun alone (begun alone one_done) one_done a b)
begins_with_a_step x = x.undone 1 (at 1 6) refl

abbrev short_of_one : JoiningState
short_of_one = record none_done { steps = None ∷ None ∷ [] }

begins_with_too_few_steps : ¬ (IsBegun alone (begun alone short_of_one) short_of_one a b)
begins_with_too_few_steps x = absurd (let e : 2 ≡ 3 = x.count in omega (arith, e))

changes_a_row : ¬ (IsBegun alone
    (record (begun alone none_done) { nodes = with_second (one_row 4 (row 1)) }) none_done a b)
changes_a_row x = differ 1 0 (λ e. omega (arith, e)) (sym (got 4 (row 1))
    ∙ ap (λ (n : NodesState). row_under n (record { n = 1 }) 4) x.nodes ∙ got 4 (row 0))

begins_and_leaves : ¬ (IsBegun alone (record (begun alone none_done) { leaving = Some batch })
    none_done a b)
begins_and_leaves x = none_some batch (sym x.left.leaving)
