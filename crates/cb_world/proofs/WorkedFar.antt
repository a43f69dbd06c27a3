-- Worked examples of the far part of the sound world: for each fact a state that breaks it, and
-- the last complete contents in each of their five forms.
use Rattle.std.proofs.Common.{◌≡◌, ℕ, zero, suc, ◌^◌, ◌<◌, ◌≤◌, true, false, All, List, [], ◌∷◌, Option, None, Some, refl, ap, subst, sym, ◌∙◌, lit<, lit≤, arith}
use Rattle.std.proofs.lemmas.List.Elements.{All-nil, All-cons}
use Rattle.std.specs.FinMap as map
use Rattle.cb_member.specs.declared.names.NodeId.{NodeId}
use Rattle.cb_member.specs.declared.names.Shard.{Shard}
use Rattle.cb_member.specs.Membership.{incarnation, fresh_members, with_crash}
use Rattle.cb_node.specs.NodesState.{empty_nodes, with_row, row_under}
use Rattle.cb_set.specs.SetState.{SetState, PositionState, dead_position, filled_position, live_at, set_of}
use Rattle.cb_set.specs.Nodes.{OnDistinctNodes}
use Rattle.cb_world.specs.declared.homes.Home.{Home}
use Rattle.cb_world.specs.declared.object.Object.{Object}
use Rattle.cb_world.specs.declared.object.Object.TheVariants as is
use Rattle.cb_world.specs.declared.shown.Shown.{Shown}
use Rattle.cb_world.specs.Memory.{window, bytes_in}
use Rattle.cb_world.specs.Sets.{Kept, set_in}
use Rattle.cb_world.specs.Homes.{home_at}
use Rattle.cb_world.specs.Leaving.{LeavingState}
use Rattle.cb_world.specs.Joining.{JoiningState}
use Rattle.cb_world.specs.FarState.{FarState}
use Rattle.cb_world.specs.RowWords.{words_from, row_of}
use Rattle.cb_world.specs.SetWord.{AreCurrent, IsShaped}
use Rattle.cb_world.specs.FarSound.{AreSets, AreAway, AreShardRows, IsBatch, IsShardOf, Owner}
use Rattle.cb_world.specs.FarSound.Owner.{of_set, of_leaving, of_joining}
use Rattle.cb_world.specs.SetAdded.{IsSetAdded}
use Rattle.cb_world.specs.Merged.{takes, AreTaken}
use Rattle.cb_world.specs.Join.{IsFresh}
use Rattle.cb_world.specs.Now.{now, now_as, broken_set}
use Rattle.cb_world.specs.Now.Now.{never, freed, held, gone}
use Rattle.cb_world.specs.Sound.{IsNoted}
use Rattle.cb_world.proofs.Apart.{some_same}
use Rattle.cb_world.proofs.WorkedWorld.{far}

abbrev pub node : ℕ → NodeId
node n = record { n = n }

abbrev pub at : ℕ → ℕ → Shard
at n key = record { node = node n; incarnation = 0; key = key }

-- a data position whose second slot has object 0
abbrev pub filled : PositionState
filled = filled_position (None ∷ Some 0 ∷ None ∷ None ∷ [])

-- one data position on node 0, and its parity on node 1
abbrev pub shards : List Shard
shards = at 0 0 ∷ at 1 1 ∷ []

abbrev pub set : SetState
set = set_of 5 1 shards (filled ∷ [])

abbrev home : Home
home = record { set = 5; position = 0; slot = 1 }

abbrev pub committed : SetState → Kept
committed x = record { set = x; committed = true }

-- object 0 is away, object 1 was freed, and object 2 was never made
abbrev pub known : Shown
known = record {
  first = 1;
  objects = is.Far 2 1 (2826 ∷ []) ∷ is.Empty 2 ∷ is.Empty 0 ∷ [];
  hots = false ∷ false ∷ false ∷ [];
  versions = 1 ∷ 2 ∷ 0 ∷ [];
  memory = [];
}

-- the set is committed under its number; no node has a row
abbrev pub away : SetState → FarState
away x = record far {
  spans = [];
  frames = [];
  sets = map.insert map.empty 5 (committed x);
  homes = Some home ∷ None ∷ None ∷ [];
  nodes = empty_nodes 2 1;
  members = fresh_members 2;
  counts = record { turns = 0; by_job = []; sets = 6; keys = 2 };
}

pub there : (x : SetState) → set_in (away x).sets 5 ≡ Some x
there x = grind (arith, map.gets)

not_there : (x : SetState) → set_in (away x).sets 6 ≡ None
not_there x = grind (arith, map.gets)

-- a set that is not committed is none
uncommitted : (x : SetState)
    → set_in (map.insert map.empty 5 (record { set = x; committed = false })) 5 ≡ None
uncommitted x = grind (arith, map.gets)

home_of_the_object : home_at (away set).homes 0 ≡ Some home
home_of_the_object = refl

no_home_past_the_last : home_at (away set).homes 3 ≡ None
no_home_past_the_last = refl

-- what holds of a set beside its word
no_parity : ¬ (IsShaped (fresh_members 2) (set_of 5 1 (at 0 0 ∷ []) (filled ∷ [])))
no_parity x = absurd (omega (arith, x.range.parities_least))

one_node : ¬ (IsShaped (fresh_members 2) (set_of 5 1 (at 0 0 ∷ at 0 1 ∷ []) (filled ∷ [])))
one_node x = x.distinct 0 1 (at 0 0) (lit< tt) (lit< tt) refl

no_such_node : ¬ (IsShaped (fresh_members 1) set)
no_such_node x = absurd (let z : 1 < 1 = (x.current 1 (at 1 1) refl).0 in omega (arith, z))

still_to_come : ¬ (IsShaped (fresh_members 2)
    (set_of 5 1 (at 0 0 ∷ record { node = node 1; incarnation = 1; key = 1 } ∷ []) (filled ∷ [])))
still_to_come x = absurd (omega (arith, (x.current 1 _ refl).1))

too_many_pages : ¬ (IsShaped (fresh_members 2) (record set { pages = 5 }))
too_many_pages x = absurd (let l : 5 ≤ 4 = x.pages in omega (arith, l))

is_shaped : IsShaped (fresh_members 2) set
is_shaped = record {
  range = record {
    data_least = lit≤ tt;
    data_most = lit≤ tt;
    parities_least = lit≤ tt;
    parities_most = lit≤ tt;
  };
  data_first = lit≤ tt;
  pages = lit≤ tt;
  distinct = distinct;
  current = current;
}
  where
    distinct : OnDistinctNodes shards
    distinct zero zero d before within = absurd (omega (arith, before))
    distinct zero (suc zero) d before within = λ same. omega (arith, same)
    distinct (suc i) j d before within = absurd (omega (arith, before, within))
    distinct i (suc (suc j)) d before within = absurd (omega (arith, within))

    of_node : (a b : Shard) → Some a ≡ Some b → (a.node.n < 2) × (a.incarnation ≡ 0)
        → (b.node.n < 2) × (b.incarnation ≤ incarnation (fresh_members 2) b.node)
    of_node a b e x =
        let same = some_same a b e in
        let nodes : a.node.n ≡ b.node.n = ap (λ (s : Shard). s.node.n) same in
        let ages : a.incarnation ≡ b.incarnation = ap (λ (s : Shard). s.incarnation) same in
        (omega (arith, nodes, x.0), omega (arith, ages, x.1))

    current : AreCurrent (fresh_members 2) shards
    current zero shard e = of_node (at 0 0) shard e (lit< tt, refl)
    current (suc zero) shard e = of_node (at 1 1) shard e (lit< tt, refl)
    current (suc (suc p)) shard e = absurd (cc)

-- sets
shaped_otherwise : ¬ (AreSets known (away (set_of 5 1 (at 0 0 ∷ []) (filled ∷ []))))
shaped_otherwise x = no_parity' (x.shaped 5 _ (there _))
  where
    no_parity' : ¬ (IsShaped (fresh_members 2) (set_of 5 1 (at 0 0 ∷ []) (filled ∷ [])))
    no_parity' y = absurd (omega (arith, y.range.parities_least))

row_missing : ¬ (AreSets known (away set))
row_missing x =
    let word = (x.worded 5 set (there set)).1.word in
    absurd (let z : None ≡ Some _ = sym (no_row 0) ∙ word.survive 0 (at 0 0) refl refl in cc)
  where
    no_row : (key : ℕ) → row_under (empty_nodes 2 1) (node 0) key ≡ None
    no_row key = grind (arith, map.gets)

dead_with_an_object : ¬ (AreSets known
    (away (set_of 5 1 shards (record { live = false; slots = filled.slots } ∷ []))))
dead_with_an_object x = absurd (let z : false ≡ true = x.live 5 0 _ (there _) in cc)

none_live : ¬ (AreSets known (away (set_of 5 1 shards (dead_position ∷ []))))
none_live x = absurd (dead ((x.kept 5 _ (there _)).0) ((x.kept 5 _ (there _)).1))
  where
    dead : (p : ℕ) → live_at (set_of 5 1 shards (dead_position ∷ [])) p ≡ true → ⊥
    dead zero e = cc
    dead (suc p) e = cc

not_drawn : ¬ (AreSets known
    (record (away set) { counts = record { turns = 0; by_job = []; sets = 5; keys = 2 } }))
not_drawn x = absurd (let z : 5 < 5 = x.numbered 5 set (there set) in omega (arith, z))

-- homes
homeless : ¬ (AreAway known (record (away set) { homes = None ∷ None ∷ None ∷ [] }))
homeless x = absurd (let z = (x.away 0 2 1 (2826 ∷ []) refl).1 in cc)

home_in_no_set : ¬ (AreAway known
    (record (away set) { homes = Some (record home { set = 6 }) ∷ None ∷ None ∷ [] }))
home_in_no_set x =
    absurd (let z = sym (not_there set) ∙ (x.home 0 (record home { set = 6 }) refl).1 in cc)

object_without_home : ¬ (AreAway known (record (away set) { homes = None ∷ Some home ∷ [] }))
object_without_home x =
    absurd (let z : None ≡ Some home = x.named 5 0 1 0 set (there set) refl in cc)

-- rows
uncounted : ¬ (AreShardRows (record (away set) { nodes = empty_nodes 3 1 }))
uncounted x = absurd (let z : 3 ≡ 2 = x.counted in omega (arith, z))

no_members : ¬ (AreShardRows
    (record (away set) { members = record (fresh_members 2) { epoch = 1 } }))
no_members x = absurd (let z : 1 ≡ 0 = x.members.counted in omega (arith, z))

-- a row that no shard names
abbrev stray : FarState
stray = record (away set) {
  sets = map.empty;
  nodes = with_row (empty_nodes 2 1) (node 0) 0 [];
}

row_of_nobody : ¬ (AreShardRows stray)
row_of_nobody x =
    let found = x.owned (node 0) 0 [] (stands 0) in nobody found.0 found.1 found.2
  where
    stands : (key : ℕ)
        → row_under (with_row (empty_nodes 2 1) (node 0) key []) (node 0) key ≡ Some []
    stands key = grind (arith, map.gets)

    no_set : (id : ℕ) → set_in map.empty id ≡ None
    no_set id = grind (arith, map.gets)

    nobody : (o : Owner) (shard : Shard) → IsShardOf stray o shard → ⊥
    nobody (of_set id p) shard (x, e, y) = absurd (let z = sym (no_set id) ∙ e in cc)
    nobody (of_leaving p) shard (x, e, y) = absurd (cc)
    nobody (of_joining p) shard (x, e, y) = absurd (cc)

no_key_left : ¬ (AreShardRows
    (record (away set) { counts = record { turns = 0; by_job = []; sets = 6; keys = 1 } }))
no_key_left x =
    absurd (let z : 1 < 1 =
    x.drawn (of_set 5 1) (at 1 1) (set, there set, refl) in omega (arith, z))

past_the_members : ¬ (AreShardRows (record (away set) {
  members = fresh_members 1;
  nodes =
      empty_nodes 1 1;
}))
past_the_members x =
    absurd (let z : 1 < 1 = (x.current (of_set 5 1) (at 1 1) (set, there set, refl)).0 in
    omega (arith, z))

abbrev position_of_owner : Owner → ℕ
position_of_owner (of_set id p) = p
position_of_owner (of_leaving p) = p
position_of_owner (of_joining p) = p

abbrev twice : SetState
twice = set_of 5 1 (at 0 0 ∷ at 1 0 ∷ []) (filled ∷ [])

one_key_twice : ¬ (AreShardRows (away twice))
one_key_twice x =
    let same = x.one (of_set 5 0) (of_set 5 1) (at 0 0) (at 1 0) (twice, there twice, refl)
    (twice, there twice, refl) refl in
    absurd (let z : 0 ≡ 1 = ap position_of_owner same in omega (arith, z))

-- the last complete contents
never_made : now known (away set) 2 ≡ never
never_made = refl

past_the_handles : now known (away set) 3 ≡ never
past_the_handles = refl

freed_at : now known (away set) 1 ≡ freed 2
freed_at = refl

abbrev first_lost : FarState
first_lost = record (away set) { members = with_crash (fresh_members 2) (node 0) }

abbrev both_lost : FarState
both_lost = record (away set) {
  members = with_crash (with_crash (fresh_members 2) (node 0)) (node 1);
}

-- as many shards are lost as there are parities
held_away : now known first_lost 0 ≡ held 1 (10 ∷ 11 ∷ [])
unfolding bytes_in
held_away =
    ap (λ (o : Option SetState). now_as known 0 (broken_set first_lost.members o)
    (is.Far 2 1 (2826 ∷ []))) (there set)

-- more shards are lost than there are parities
gone_away : now known both_lost 0 ≡ gone 1
gone_away =
    ap (λ (o : Option SetState). now_as known 0 (broken_set both_lost.members o)
    (is.Far 2 1 (2826 ∷ []))) (there set)

abbrev here : Shown
here = record known {
  objects = is.Here 2 1 ∷ is.Claimed 2 1 7 (2826 ∷ []) ∷ [];
  versions = 4 ∷ 8 ∷ [];
  memory = 0 ∷ 2827 ∷ [];
}

held_in_memory : now here (away set) 0 ≡ held 4 (11 ∷ 11 ∷ [])
unfolding window bytes_in
held_in_memory = refl

-- a claimed object is as it was before the claim
held_by_the_claim : now here (record far { homes = [] }) 1 ≡ held 7 (10 ∷ 11 ∷ [])
unfolding bytes_in
held_by_the_claim = refl

-- the batch that is leaving
abbrev pub batch : LeavingState
batch = record {
  set = 5;
  pages = 1;
  frames = [];
  words = [];
  made = true;
  parities = [];
  shards = [];
}

no_frames_leave : ¬ (IsBatch known (away set) batch)
no_frames_leave x = absurd (let z : 0 ≡ 4096 = (x.word refl).wide in omega (arith, z))

shard_too_few : ¬ (IsBatch known (away set) (record batch {
  frames = 0 ∷ [];
  shards =
      None ∷ [];
  parities = [] ∷ [];
}))
shard_too_few x = absurd (let z : 1 ≡ 2 = x.count in omega (arith, z))

put_on_one_node : ¬ (IsBatch known (away set)
    (record batch {
      frames = 0 ∷ [];
      shards = Some (at 0 0) ∷ Some (at 0 1) ∷ [];
      parities =
          [] ∷ [];
    }))
put_on_one_node x =
    absurd (let z : 0 ≡ 1 = x.apart 0 1 (at 0 0) (at 0 1) refl refl refl in omega (arith, z))

put_nowhere : ¬ (IsBatch known (away set)
    (record batch { frames = 0 ∷ []; shards = Some (at 0 0) ∷ None ∷ []; parities = [] ∷ [] }))
put_nowhere x = absurd (let z : None ≡ Some _ = sym (no_row 0) ∙ x.put 0 (at 0 0) refl refl in cc)
  where
    no_row : (key : ℕ) → row_under (empty_nodes 2 1) (node 0) key ≡ None
    no_row key = grind (arith, map.gets)

-- the words of a row and the row of words, the lowest byte first
two_words : words_from 2 (1 ∷ 2 ∷ 0 ∷ 0 ∷ 0 ∷ 0 ∷ 0 ∷ 0 ∷ 3 ∷ 0 ∷ 0 ∷ 0 ∷ 0 ∷ 0 ∷ 0 ∷ 0 ∷ [])
    ≡ 513 ∷ 3 ∷ []
unfolding words_from
two_words = refl

row_of_one_word : row_of (513 ∷ []) ≡ 1 ∷ 2 ∷ 0 ∷ 0 ∷ 0 ∷ 0 ∷ 0 ∷ 0 ∷ []
row_of_one_word = refl

-- taken positions
takes_it : takes (2 ∷ 0 ∷ []) 0 ≡ true
takes_it = refl

takes_no_other : takes (2 ∷ 0 ∷ []) 1 ≡ false
takes_no_other = refl

are_taken : AreTaken 3 (2 ∷ 0 ∷ [])
are_taken = (lit< tt, refl, (lit< tt, refl, tt))

taken_twice : ¬ (AreTaken 3 (0 ∷ 0 ∷ []))
taken_twice x = absurd (let z : true ≡ false = x.1 in cc)

taken_past_the_data : ¬ (AreTaken 2 (2 ∷ 0 ∷ []))
taken_past_the_data x = absurd (omega (arith, x.0))

-- the pair that is joining is stale once a set is gone, has other shards or lost one
abbrev pair : JoiningState
pair = record { a = 5; b = 5; shards_a = shards; shards_b = shards; taken = []; steps = [] }

set_gone : ¬ (IsFresh (away set) (record pair { b = 6 }) set set)
set_gone x = absurd (let z = sym (not_there set) ∙ x.b_there in cc)

shard_moved : ¬ (IsFresh (away set) (record pair { shards_a = at 2 0 ∷ at 1 1 ∷ [] }) set set)
shard_moved x =
    absurd (let z : 0 ≡ 2 = ap (λ (l : List Shard). first_node l) x.a_shards in omega (arith, z))
  where
    first_node : List Shard → ℕ
    first_node [] = 0
    first_node (s ∷ l) = s.node.n

shard_lost : ¬ (IsFresh first_lost pair set set)
shard_lost x = absurd (let z : true ≡ false = x.b_whole 0 (at 0 0) refl in cc)

-- an object of two bytes at place 512 that leaves: its word before the begin is noted
abbrev leaver : Shown
leaver = record known { objects = is.Claimed 2 512 1 (2826 ∷ []) ∷ [] }

abbrev noting : ℕ → LeavingState
noting word = record batch { words = record { handle = 0; word = word } ∷ [] }

-- hot, here and without pins
abbrev calm : ℕ
calm = 274877923334

is_noted : IsNoted leaver (noting calm) 0
is_noted = record {
  former = record { handle = 0; word = calm };
  noted = (0, lit< tt, refl);
  handle = refl;
  free = (refl, refl);
  below = lit< tt;
  version = 1;
  words = 2826 ∷ [];
  claimed = refl;
  small = All-cons (λ w. w < 2 ^ 64) 2826 [] (lit< tt) (All-nil (λ w. w < 2 ^ 64));
}

-- a set is added under a number that no set has, and no pair that is joining, with fresh keys
number_of_a_set : (s t : Shown) (new : FarState) (rows : List (List ℕ))
    → ¬ (IsSetAdded s t (away set) new 5 set rows)
number_of_a_set s t new rows x = absurd (let z = sym x.fresh ∙ there set in cc)

number_of_a_pair : (s t : Shown) (new : FarState) (rows : List (List ℕ))
    → ¬ (IsSetAdded s t (record (away set) { joining = Some pair }) new 5 set rows)
number_of_a_pair s t new rows x = absurd ((x.unpaired pair refl).0 refl)

key_of_a_set : (s t : Shown) (new : FarState) (rows : List (List ℕ))
    → ¬ (IsSetAdded s t (away set) new 6 set rows)
key_of_a_set s t new rows x =
    absurd (x.fresh_keys (of_set 5 0) (at 0 0) (set, there set, refl) 0 (at 0 0) refl refl)

-- no word has 65 bits
too_wide : ¬ (IsNoted (record leaver { objects = is.Claimed 2 512 1 (2 ^ 64 ∷ []) ∷ [] }) (noting calm) 0)
too_wide x =
    let e : 2 ^ 64 ∷ [] ≡ x.words = ap words_of x.claimed in
    absurd (let l = subst (λ (l : List ℕ). All (λ w. w < 2 ^ 64) l) (sym e) x.small 0 0 (lit< tt) in
    omega (arith, l))
  where
    words_of : Object → List ℕ
    words_of (is.Empty v) = []
    words_of (is.Far len v words) = []
    words_of (is.Here len place) = []
    words_of (is.Claimed len place v words) = words
