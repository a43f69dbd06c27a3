-- Worked examples of how a pair that joins changes the far state: what a change of the pair alone
-- leaves and a commit, with what breaks one part alone.
use Rattle.std.specs.Prelude.{None}
use Rattle.std.proofs.Common.{◌≡◌, ◌≢◌, ◌⊎◌, ℕ, zero, suc, ◌<◌, ◌≤◌, true, false, List, [], ◌∷◌, ◌++◌, Option, None, Some, length, if◌then◌else◌, refl, sym, ap, ◌∙◌, subst, arith, inl, inr, lit<, lit≤}
use Rattle.std.specs.FinMap as map
use Rattle.std.specs.List.{slice_get}
use Rattle.std.proofs.lemmas.Bool.Decides.{nat_tests}
use Rattle.cb_member.specs.declared.names.Shard.{Shard}
use Rattle.cb_member.specs.Membership.{Membership, fresh_members, with_crash}
use Rattle.cb_node.specs.NodesState.{NodesState, empty_nodes, held, with_row, row_under}
use Rattle.cb_set.specs.SetState.{PositionState, SetState, dead_position, filled_position, live_at, position_of, set_of, slot_at}
use Rattle.cb_set.specs.Lost.{is_lost}
use Rattle.cb_world.specs.declared.homes.Home.{Home}
use Rattle.cb_world.specs.declared.survey.Survey.{Survey}
use Rattle.cb_world.specs.FarState.{FarState}
use Rattle.cb_world.specs.Homes.{home_at}
use Rattle.cb_world.specs.Join.{IsFresh, NoneLost}
use Rattle.cb_world.specs.Joining.{JoiningState}
use Rattle.cb_world.specs.JoinSteps.{IsCommitted, IsMergedSet, IsRehomed, IsReplaced, IsUnnamed, LeavesSets, merged_shard}
use Rattle.cb_world.specs.Leaving.{LeavingState}
use Rattle.cb_world.specs.Merged.{takes}
use Rattle.cb_world.specs.Sets.{Kept, SetMap, set_in}
use Rattle.cb_world.specs.Stored.{AreThere, all_dropped}
use Rattle.cb_world.proofs.Apart.{some_same}
use Rattle.cb_world.specs.Rooms.{HaveRoom}
use Rattle.cb_world.proofs.Rooms.{room_dropped, room_empty, room_put}
use Rattle.cb_world.proofs.SetsLeft.{drop_count, drop_fewer, drop_there}
use Rattle.cb_world.proofs.Storing.{drop_elsewhere}
use Rattle.cb_world.proofs.WorkedWorld.{far}

abbrev pub at : ℕ → ℕ → Shard
at n key = record { node = record { n = n }; incarnation = 0; key = key }

pub none_some : {X : Type 0} (x : X) → None ≡ Some x → ⊥
none_some x e = cc

-- ---- two sets of two positions and a parity on the nodes 0, 1 and 2, each with one object
abbrev pub of : ℕ → PositionState
of h = filled_position (Some h ∷ [])

abbrev pub a : SetState
a = set_of 4 1 (at 0 0 ∷ at 1 1 ∷ at 2 2 ∷ []) (of 0 ∷ dead_position ∷ [])

abbrev pub b : SetState
b = set_of 5 1 (at 0 3 ∷ at 1 4 ∷ at 2 5 ∷ []) (dead_position ∷ of 1 ∷ [])

-- both new rows were put: that of b's position, and the parity's
abbrev pub pair : JoiningState
pair = record {
  a = 4;
  b = 5;
  shards_a = a.shards;
  shards_b = b.shards;
  taken = 1 ∷ [];
  steps = None ∷ Some (at 1 6) ∷ Some (at 2 7) ∷ [];
}

-- the merged set
abbrev c : SetState
c = set_of 6 1 (at 0 0 ∷ at 1 6 ∷ at 2 7 ∷ []) (of 0 ∷ of 1 ∷ [])

abbrev pub kept : SetState → Kept
kept set = record { set = set; committed = true }

abbrev home : ℕ → ℕ → Home
home set position = record { set = set; position = position; slot = 0 }

-- some rows of theirs, and one of another set
abbrev nodes : NodesState
nodes = with_row (with_row (with_row (empty_nodes 3 4) (record { n = 1 }) 1 (1 ∷ []))
    (record { n = 1 }) 6 (6 ∷ [])) (record { n = 2 }) 9 (9 ∷ [])

abbrev sets : SetMap
sets = map.insert (map.insert map.empty 4 (kept a)) 5 (kept b)

abbrev pub joining : FarState
joining = record far {
  sets = sets;
  homes = Some (home 4 0) ∷ Some (home 5 1) ∷ None ∷ [];
  nodes = nodes;
  members = fresh_members 3;
  joining = Some pair;
  counts = record { turns = 0; by_job = []; sets = 6; keys = 10 };
}

-- ---- what a change of the pair alone leaves
abbrev drawn : FarState
drawn = record joining {
  joining = None;
  counts = record joining.counts { keys = 11 };
}

leaves_sets : LeavesSets joining drawn
leaves_sets = record {
  sets = refl;
  homes = refl;
  members = refl;
  leaving = refl;
  survey = refl;
  drawn = refl;
  keys = lit≤ tt;
  nodes = refl;
  room = λ room. room;
}

pub four_there : set_in sets 4 ≡ Some a
four_there = grind (arith, map.gets)

pub five_there : set_in sets 5 ≡ Some b
five_there = grind (arith, map.gets)

none_in : (id : ℕ) → set_in map.empty id ≡ None
none_in id = grind (arith, map.gets)

takes_a_set : ¬ (LeavesSets joining (record drawn { sets = map.empty }))
takes_a_set x =
    none_some a (sym (none_in 4) ∙ ap (λ (m : SetMap). set_in m 4) x.sets ∙ four_there)

moves_an_object : ¬ (LeavesSets joining (record drawn { homes = [] }))
moves_an_object x = absurd (let e : 0 ≡ 3 = ap (λ (l : List (Option Home)). length l) x.homes in
    omega (arith, e))

changes_the_members : ¬ (LeavesSets joining (record drawn { members = fresh_members 4 }))
changes_the_members x = absurd (let e : 4 ≡ 3 = ap (λ (m : Membership). length m.nodes) x.members in
    omega (arith, e))

abbrev pub batch : LeavingState
batch = record {
  set = 5;
  pages = 1;
  frames = [];
  words = [];
  made = true;
  parities = [];
  shards = [];
}

begins_to_leave : ¬ (LeavesSets joining (record drawn { leaving = Some batch }))
begins_to_leave x = none_some batch (sym x.leaving)

abbrev seen : Survey
seen = record { below = 6; gone = 0; no_pair = None }

tells_more : ¬ (LeavesSets joining (record drawn { survey = seen }))
tells_more x = absurd (let e : 6 ≡ 0 = ap (λ (s : Survey). s.below) x.survey in omega (arith, e))

draws_a_set : ¬ (LeavesSets joining (record drawn { counts = record joining.counts { sets = 7 } }))
draws_a_set x = absurd (let e : 7 ≡ 6 = x.drawn in omega (arith, e))

takes_a_key_back : ¬ (LeavesSets joining (record drawn { counts = record joining.counts { keys = 9 } }))
takes_a_key_back x = absurd (let l : 10 ≤ 9 = x.keys in omega (arith, l))

adds_a_node : ¬ (LeavesSets joining (record drawn { nodes = empty_nodes 4 4 }))
adds_a_node x = absurd (let e : 4 ≡ 3 = x.nodes in omega (arith, e))

-- the nodes hold two rows, none and one
abbrev one_row : NodesState
one_row = with_row (empty_nodes 3 4) (record { n = 1 }) 1 (1 ∷ [])

have_room : HaveRoom nodes
have_room = room_put (with_row one_row (record { n = 1 }) 6 (6 ∷ [])) (record { n = 2 }) 9 (9 ∷ [])
    (omega (arith, none_at_last))
    (room_put one_row (record { n = 1 }) 6 (6 ∷ []) (omega (arith, one_at_second))
    (room_put (empty_nodes 3 4) (record { n = 1 }) 1 (1 ∷ []) (omega (arith, none_at_second))
    (room_empty 3 4)))
  where
    none_at_second : held (empty_nodes 3 4) (record { n = 1 }) ≡ 0
    none_at_second = grind (arith, map.gets)

    one_at_second : held one_row (record { n = 1 }) ≡ 1
    one_at_second = grind (arith, map.gets)

    none_at_last : held (with_row one_row (record { n = 1 }) 6 (6 ∷ [])) (record { n = 2 }) ≡ 0
    none_at_last = grind (arith, map.gets)

two_at_second : held nodes (record { n = 1 }) ≡ 2
two_at_second = grind (arith, map.gets)

-- no row comes, and there is room for one
takes_room_away : ¬ (LeavesSets joining (record drawn { nodes = record nodes { room = 1 } }))
takes_room_away x = let l = x.room have_room (record { n = 1 }) in omega (arith, l, two_at_second)

-- ---- the commit: b's rows are dropped, and a's beside new ones
abbrev replaced : List Shard
replaced = at 0 3 ∷ at 1 4 ∷ at 2 5 ∷ at 1 1 ∷ at 2 2 ∷ []

abbrev joined : FarState
joined = record joining {
  sets = map.insert (map.remove (map.remove sets 4) 5) 6 (kept c);
  homes = Some (home 6 0) ∷ Some (home 6 1) ∷ None ∷ [];
  nodes = all_dropped nodes replaced;
  joining = None;
  counts = record joining.counts { sets = 7 };
}

their_nodes : AreThere nodes replaced
their_nodes p shard e = by p shard e
  where
    at_node : (s t : Shard) → Some s ≡ Some t → s.node.n < 3 → t.node.n < 3
    at_node s t e l = subst (λ (x : Shard). x.node.n < 3) (some_same s t e) l

    by : (p : ℕ) (shard : Shard) → slice_get replaced p ≡ Some shard → shard.node.n < 3
    by zero shard e = at_node (at 0 3) shard e (lit< tt)
    by (suc zero) shard e = at_node (at 1 4) shard e (lit< tt)
    by (suc (suc zero)) shard e = at_node (at 2 5) shard e (lit< tt)
    by (suc (suc (suc zero))) shard e = at_node (at 1 1) shard e (lit< tt)
    by (suc (suc (suc (suc zero)))) shard e = at_node (at 2 2) shard e (lit< tt)
    by (suc (suc (suc (suc (suc p))))) shard e = absurd (none_some shard e)

pub none_lost : (x y z : ℕ) → NoneLost (fresh_members 3) (at 0 x ∷ at 1 y ∷ at 2 z ∷ [])
none_lost x y z zero shard e =
    subst (λ (s : Shard). is_lost (fresh_members 3) s ≡ false) (some_same (at 0 x) shard e) refl
none_lost x y z (suc zero) shard e =
    subst (λ (s : Shard). is_lost (fresh_members 3) s ≡ false) (some_same (at 1 y) shard e) refl
none_lost x y z (suc (suc zero)) shard e =
    subst (λ (s : Shard). is_lost (fresh_members 3) s ≡ false) (some_same (at 2 z) shard e) refl
none_lost x y z (suc (suc (suc p))) shard e = absurd (none_some shard e)

pub is_fresh : IsFresh joining pair a b
is_fresh = record {
  a_there = four_there;
  b_there = five_there;
  a_shards = refl;
  b_shards = refl;
  a_whole = none_lost 0 1 2;
  b_whole = none_lost 3 4 5;
}

pub false_true : false ≡ true → ⊥
false_true e = cc

merged : IsMergedSet pair a b c
merged = record {
  done = done;
  shards = shards;
  count = refl;
  positions = refl;
  pages = refl;
  content = content;
}
  where
    done : (p : ℕ) → p < 3 → (p < 2 → takes pair.taken p ≡ true)
        → (shard : Shard) × (slice_get pair.steps p ≡ Some (Some shard))
    done zero l t = absurd (false_true (t (lit< tt)))
    done (suc zero) l t = (at 1 6, refl)
    done (suc (suc zero)) l t = (at 2 7, refl)
    done (suc (suc (suc p))) l t = absurd (omega (arith, l))

    shards : (p : ℕ)
        → slice_get c.shards p ≡ merged_shard (slice_get pair.steps p) (slice_get pair.shards_a p)
    shards zero = refl
    shards (suc zero) = refl
    shards (suc (suc zero)) = refl
    shards (suc (suc (suc p))) = refl

    content : (p : ℕ)
        → position_of c p ≡ (if live_at b p then position_of b p else position_of a p)
    content zero = refl
    content (suc zero) = refl
    content (suc (suc p)) = refl

abbrev shard_key : Option Shard → ℕ
shard_key None = 99
shard_key (Some s) = s.key

-- the parity was not put
abbrev one_step : JoiningState
one_step = record pair { steps = None ∷ Some (at 1 6) ∷ None ∷ [] }

merged_early : ¬ (IsMergedSet one_step a b (record c { shards = at 0 0 ∷ at 1 6 ∷ at 2 2 ∷ [] }))
merged_early x = let y = x.done 2 (lit< tt) (λ l. absurd (omega (arith, l))) in
    none_some y.0 (some_same None (Some y.0) y.1)

merged_at_the_old : ¬ (IsMergedSet pair a b (record c { shards = a.shards }))
merged_at_the_old x = absurd (let e : 1 ≡ 6 = ap shard_key (x.shards 1) in omega (arith, e))

-- a fourth row was put beside none
merged_with_more : ¬ (IsMergedSet (record pair {
  steps = None ∷ Some (at 1 6) ∷ Some (at 2 7) ∷ Some (at 0 8) ∷ [];
}) a b (record c { shards = at 0 0 ∷ at 1 6 ∷ at 2 7 ∷ at 0 8 ∷ [] }))
merged_with_more x = absurd (let e : 4 ≡ 3 = x.count in omega (arith, e))

merged_longer : ¬ (IsMergedSet pair a b (record c { positions = of 0 ∷ of 1 ∷ dead_position ∷ [] }))
merged_longer x = absurd (let e : 3 ≡ 2 = x.positions in omega (arith, e))

merged_to_longer_spans : ¬ (IsMergedSet pair a b (record c { pages = 2 }))
merged_to_longer_spans x = absurd (let e : 2 ≡ 1 = x.pages in omega (arith, e))

merged_without_b : ¬ (IsMergedSet pair a b (record c { positions = of 0 ∷ dead_position ∷ [] }))
merged_without_b x = false_true (ap (λ (p : PositionState). p.live) (x.content 1))

-- each replaced shard is in the list
in_list : (shard : Shard) → IsReplaced pair shard → (q : ℕ) × (slice_get replaced q ≡ Some shard)
in_list shard (inl (zero, e)) = (0, e)
in_list shard (inl (suc zero, e)) = (1, e)
in_list shard (inl (suc (suc zero), e)) = (2, e)
in_list shard (inl (suc (suc (suc p)), e)) = absurd (none_some shard e)
in_list shard (inr (zero, fresh, e, f)) =
    absurd (none_some fresh (some_same None (Some fresh) e))
in_list shard (inr (suc zero, fresh, e, f)) = (3, f)
in_list shard (inr (suc (suc zero), fresh, e, f)) = (4, f)
in_list shard (inr (suc (suc (suc p)), fresh, e, f)) = absurd (none_some shard f)

-- and no other one
of_list : (q : ℕ) (shard : Shard) → slice_get replaced q ≡ Some shard → IsReplaced pair shard
of_list zero shard e = inl (0, e)
of_list (suc zero) shard e = inl (1, e)
of_list (suc (suc zero)) shard e = inl (2, e)
of_list (suc (suc (suc zero))) shard e = inr (1, at 1 6, refl, e)
of_list (suc (suc (suc (suc zero)))) shard e = inr (2, at 2 7, refl, e)
of_list (suc (suc (suc (suc (suc q))))) shard e = absurd (none_some shard e)

six_added : set_in joined.sets 6 ≡ Some c
six_added = grind (arith, map.gets)

four_gone : set_in joined.sets 4 ≡ None
four_gone = grind (arith, map.gets)

five_gone : set_in joined.sets 5 ≡ None
five_gone = grind (arith, map.gets)

others_stay : (q : ℕ) → q ≢ 6 → q ≢ 4 → q ≢ 5 → set_in joined.sets q ≡ set_in sets q
others_stay q six four five = grind (arith, map.gets, nat_tests, six, four, five)

-- the objects 0 and 1 are in the merged set, and no other one was in either
each_object : (h : ℕ) → IsUnnamed joining joined a b h ⊎ IsRehomed joined 6 c h
each_object zero = inr (record { position = 0; slot = 0; named = refl; home = refl })
each_object (suc zero) = inr (record { position = 1; slot = 0; named = refl; home = refl })
each_object (suc (suc h)) = inl (record { home = stays h; absent_a = in_a h; absent_b = in_b h })
  where
    stays : (h : ℕ) → home_at joined.homes (suc (suc h)) ≡ home_at joining.homes (suc (suc h))
    stays zero = refl
    stays (suc h) = refl

    other : (n h : ℕ) → n < 2 → Some n ≡ Some (suc (suc h)) → ⊥
    other n h l e = let k = some_same n (suc (suc h)) e in omega (arith, k, l)

    in_a : (h p slot : ℕ) → slot_at a p slot ≡ Some (suc (suc h)) → ⊥
    in_a h zero zero e = other 0 h (lit< tt) e
    in_a h zero (suc slot) e = none_some (suc (suc h)) e
    in_a h (suc zero) slot e = none_some (suc (suc h)) e
    in_a h (suc (suc p)) slot e = none_some (suc (suc h)) e

    in_b : (h p slot : ℕ) → slot_at b p slot ≡ Some (suc (suc h)) → ⊥
    in_b h zero slot e = none_some (suc (suc h)) e
    in_b h (suc zero) zero e = other 1 h (lit< tt) e
    in_b h (suc zero) (suc slot) e = none_some (suc (suc h)) e
    in_b h (suc (suc p)) slot e = none_some (suc (suc h)) e

is_committed : IsCommitted joining joined pair a b c 6
is_committed = record {
  was = refl;
  now = refl;
  fresh = is_fresh;
  merged = merged;
  added = six_added;
  a_gone = four_gone;
  b_gone = five_gone;
  others = others_stay;
  drawn = (lit≤ tt, lit< tt);
  keys = lit≤ tt;
  rows_gone = λ shard r. let x = in_list shard r in drop_there nodes replaced x.0 shard their_nodes x.1;
  rows_stay = λ node key off. drop_elsewhere nodes replaced node key their_nodes (λ q shard e k.
      off shard (of_list q shard e) k);
  fewer = λ node key row e. drop_fewer nodes replaced node key row their_nodes e;
  nodes = drop_count nodes replaced;
  room = room_dropped nodes replaced;
  members = refl;
  leaving = refl;
  survey = refl;
  each = each_object;
}

-- ---- what is no commit
-- at the last node the other set's row stays
one_stays : held joined.nodes (record { n = 2 }) ≡ 1
one_stays = grind (arith, map.gets)

committed_without_room : ¬ (IsCommitted joining
    (record joined { nodes = record joined.nodes { room = 0 } }) pair a b c 6)
committed_without_room x = let l = x.room have_room (record { n = 2 }) in omega (arith, l, one_stays)

committed_unpaired : ¬ (IsCommitted (record joining { joining = None }) joined pair a b c 6)
committed_unpaired x = none_some pair x.was

still_joining : ¬ (IsCommitted joining (record joined { joining = Some pair }) pair a b c 6)
still_joining x = none_some pair (sym x.now)

-- a shard of both sets is lost
abbrev fewer_up : Membership
fewer_up = with_crash (fresh_members 3) (record { n = 0 })

committed_stale : ¬ (IsCommitted (record joining { members = fewer_up })
    (record joined { members = fewer_up }) pair a b c 6)
committed_stale x = false_true (sym (x.fresh.a_whole 0 (at 0 0) refl))

-- the new set has a's shards
abbrev unmerged : SetState
unmerged = record c { shards = a.shards }

committed_unmerged : ¬ (IsCommitted joining (record joined {
  sets = map.insert (map.remove (map.remove sets 4) 5) 6 (kept unmerged);
}) pair a b unmerged 6)
committed_unmerged x = merged_at_the_old x.merged

not_added : ¬ (IsCommitted joining (record joined { sets = map.remove (map.remove sets 4) 5 })
    pair a b c 6)
not_added x = none_some c (sym none ∙ x.added)
  where
    none : set_in (map.remove (map.remove sets 4) 5) 6 ≡ None
    none = grind (arith, map.gets)

a_stays : ¬ (IsCommitted joining (record joined { sets = map.insert (map.remove sets 5) 6 (kept c) })
    pair a b c 6)
a_stays x = none_some a (sym x.a_gone ∙ there)
  where
    there : set_in (map.insert (map.remove sets 5) 6 (kept c)) 4 ≡ Some a
    there = grind (arith, map.gets)

b_stays : ¬ (IsCommitted joining (record joined { sets = map.insert (map.remove sets 4) 6 (kept c) })
    pair a b c 6)
b_stays x = none_some b (sym x.b_gone ∙ there)
  where
    there : set_in (map.insert (map.remove sets 4) 6 (kept c)) 5 ≡ Some b
    there = grind (arith, map.gets)

adds_another : ¬ (IsCommitted joining (record joined { sets = map.insert joined.sets 7 (kept a) })
    pair a b c 6)
adds_another x = none_some a (sym none
    ∙ sym (x.others 7 (omega arith) (omega arith) (omega arith)) ∙ there)
  where
    there : set_in (map.insert joined.sets 7 (kept a)) 7 ≡ Some a
    there = grind (arith, map.gets)

    none : set_in sets 7 ≡ None
    none = grind (arith, map.gets)

drawn_before : ¬ (IsCommitted (record joining { counts = record joining.counts { sets = 7 } }) joined
    pair a b c 6)
drawn_before x = absurd (let l : 7 ≤ 6 = x.drawn.0 in omega (arith, l))

not_drawn : ¬ (IsCommitted joining (record joined { counts = joining.counts }) pair a b c 6)
not_drawn x = absurd (let l : 6 < 6 = x.drawn.1 in omega (arith, l))

committed_with_fewer_keys : ¬ (IsCommitted joining
    (record joined { counts = record joined.counts { keys = 9 } }) pair a b c 6)
committed_with_fewer_keys x = absurd (let l : 10 ≤ 9 = x.keys in omega (arith, l))

keeps_the_rows : ¬ (IsCommitted joining (record joined { nodes = nodes }) pair a b c 6)
keeps_the_rows x =
    none_some (1 ∷ []) (sym (x.rows_gone (at 1 1) (inr (1, at 1 6, refl, refl))) ∙ there)
  where
    there : row_under nodes (record { n = 1 }) 1 ≡ Some (1 ∷ [])
    there = grind (arith, map.gets)

drops_all_rows : ¬ (IsCommitted joining (record joined { nodes = empty_nodes 3 4 }) pair a b c 6)
drops_all_rows x = none_some (9 ∷ []) (sym none ∙ x.rows_stay (record { n = 2 }) 9 off ∙ there)
  where
    none : row_under (empty_nodes 3 4) (record { n = 2 }) 9 ≡ None
    none = grind (arith, map.gets)

    there : row_under nodes (record { n = 2 }) 9 ≡ Some (9 ∷ [])
    there = grind (arith, map.gets)

    key_of : (s t : Shard) → Some s ≡ Some t → s.key < 6 → t.key < 6
    key_of s t e l = subst (λ (x : Shard). x.key < 6) (some_same s t e) l

    key_below : (q : ℕ) (shard : Shard) → slice_get replaced q ≡ Some shard → shard.key < 6
    key_below zero s e = key_of (at 0 3) s e (lit< tt)
    key_below (suc zero) s e = key_of (at 1 4) s e (lit< tt)
    key_below (suc (suc zero)) s e = key_of (at 2 5) s e (lit< tt)
    key_below (suc (suc (suc zero))) s e = key_of (at 1 1) s e (lit< tt)
    key_below (suc (suc (suc (suc zero)))) s e = key_of (at 2 2) s e (lit< tt)
    key_below (suc (suc (suc (suc (suc q))))) s e = absurd (none_some s e)

    off : (shard : Shard) → IsReplaced pair shard → shard.key ≢ 9
    off shard r k = let x = in_list shard r in let l = key_below x.0 shard x.1 in omega (arith, l, k)

-- under the key of a row that was dropped, at another node
puts_a_row : ¬ (IsCommitted joining
    (record joined { nodes = with_row joined.nodes (record { n = 0 }) 1 (5 ∷ []) }) pair a b c 6)
puts_a_row x = none_some (5 ∷ []) (sym none ∙ x.fewer (record { n = 0 }) 1 (5 ∷ []) new)
  where
    none : row_under nodes (record { n = 0 }) 1 ≡ None
    none = grind (arith, map.gets)

    new : row_under (with_row joined.nodes (record { n = 0 }) 1 (5 ∷ [])) (record { n = 0 }) 1
        ≡ Some (5 ∷ [])
    new = grind (arith, map.gets)

committed_on_more_nodes : ¬ (IsCommitted joining (record joined {
  nodes = record joined.nodes { nodes = joined.nodes.nodes ++ map.empty ∷ [] };
}) pair a b c 6)
committed_on_more_nodes x = absurd (let e : 4 ≡ 3 = x.nodes in omega (arith, e))

committed_with_more_members : ¬ (IsCommitted joining (record joined { members = fresh_members 4 })
    pair a b c 6)
committed_with_more_members x =
    absurd (let e : 4 ≡ 3 = ap (λ (m : Membership). length m.nodes) x.members in omega (arith, e))

committed_and_leaving : ¬ (IsCommitted joining (record joined { leaving = Some batch }) pair a b c 6)
committed_and_leaving x = none_some batch (sym x.leaving)

committed_and_surveyed : ¬ (IsCommitted joining (record joined { survey = seen }) pair a b c 6)
committed_and_surveyed x =
    absurd (let e : 6 ≡ 0 = ap (λ (s : Survey). s.below) x.survey in omega (arith, e))

abbrev set_of_home : Option Home → ℕ
set_of_home None = 0
set_of_home (Some home) = home.set

-- the objects' homes are in the sets that are gone
homes_stay : ¬ (IsCommitted joining (record joined { homes = joining.homes }) pair a b c 6)
homes_stay x = by (x.each 0)
  where
    by : IsUnnamed joining (record joined { homes = joining.homes }) a b 0
        ⊎ IsRehomed (record joined { homes = joining.homes }) 6 c 0 → ⊥
    by (inl y) = y.absent_a 0 0 refl
    by (inr y) = let e : 4 ≡ 6 = ap set_of_home y.home in omega (arith, e)
