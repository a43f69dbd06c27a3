-- Worked examples of a fresh set that is committed: one that meets what is said of it, and for each
-- of its parts one that breaks that part alone.
use Rattle.std.specs.Prelude.{None}
use Rattle.std.proofs.Common.{◌≡◌, ◌≢◌, ◌⊎◌, ℕ, zero, suc, ◌+◌, ◌*◌, ◌^◌, ◌<◌, ◌≤◌, Bool, true, false, All, List, [], ◌∷◌, Option, None, Some, length, get_or, replicate, refl, sym, ap, ◌∙◌, subst, arith, inl, inr, lit<, lit≤}
use Rattle.std.specs.FinMap as map
use Rattle.std.specs.List.{list_any, slice_get}
use Rattle.std.specs.Option.{is_some}
use Rattle.std.proofs.lemmas.Bool.{agree_below_at, ltb-true}
use Rattle.std.proofs.lemmas.Bool.Decides.{nat_tests}
use Rattle.std.proofs.lemmas.List.{get_or-replicate, length-replicate}
use Rattle.std.proofs.lemmas.List.Elements.{All-nil, All-cons, All-replicate}
use Rattle.std.proofs.Math.Dec.{ltb}
use Rattle.cb_class.specs.Class.{IsClassOf, bytes_of, pages_of, slots_of, words_of}
use Rattle.cb_class.proofs.Laws.{IsClassOf-unique}
use Rattle.cb_gf256.specs.Power.{power}
use Rattle.cb_gf256.specs.Product.{◌⊗◌}
use Rattle.cb_gf256.specs.Rows.{byte_at, row_at}
use Rattle.cb_gf256.proofs.PublicLaws.{product_with_zero, sum_over_zeros}
use Rattle.cb_member.specs.declared.names.Shard.{Shard}
use Rattle.cb_member.specs.Membership.{Membership, fresh_members, incarnation, with_crash}
use Rattle.cb_node.specs.NodesState.{NodesState, empty_nodes, held, with_row, row_under}
use Rattle.cb_set.specs.SetState.{PositionState, SetState, filled_position, live_at, position_of, set_of, slot_at}
use Rattle.cb_set.specs.Lost.{is_lost}
use Rattle.cb_set.specs.Nodes.{OnDistinctNodes}
use Rattle.cb_world.specs.declared.object.Object.TheVariants as is
use Rattle.cb_world.specs.declared.shown.Shown.{Shown}
use Rattle.cb_world.specs.declared.survey.Survey.{Survey}
use Rattle.cb_world.specs.FarSound.{HoldsObject, IsShardOf, Owner}
use Rattle.cb_world.specs.FarSound.Owner.{of_joining, of_leaving, of_set}
use Rattle.cb_world.specs.FarState.{FarState}
use Rattle.cb_world.specs.Homes.{home_at}
use Rattle.cb_world.specs.Joining.{JoiningState}
use Rattle.cb_world.specs.Leaving.{LeavingState}
use Rattle.cb_world.specs.Memory.{window}
use Rattle.cb_world.specs.RowWords.{row_of, words_in}
use Rattle.cb_world.specs.SetAdded.{IsMovedIntoSet, IsSetAdded, IsUntouched}
use Rattle.cb_world.specs.SetWord.{IsShaped, IsSpanWord}
use Rattle.cb_world.specs.Sets.{Kept, SetMap, set_in, if_committed}
use Rattle.cb_world.specs.Shown.{object_at}
use Rattle.cb_world.specs.Stored.{AreThere, NoKey, all_put}
use Rattle.cb_world.proofs.Apart.{some_same}
use Rattle.cb_world.proofs.Bridge.{put_only}
use Rattle.cb_world.specs.Rooms.{HaveRoom, KeepRoom}
use Rattle.cb_world.proofs.Rooms.{room_empty, room_put}
use Rattle.cb_world.proofs.Storing.{put_elsewhere, put_there}
use Rattle.cb_world.proofs.WorkedWorld.{far as local, largest}

none_some : {X : Type 0} (x : X) → None ≡ Some x → ⊥
none_some x e = cc

-- ---- the code word: a row of zeros and its parity
pub row : List ℕ
row = replicate 4096 0

-- the bytes of a frame of zeros
pub zero_row : row_of (window [] 0 512) ≡ row
unfolding row window
zero_row = refl

row_length : length row ≡ 4096
unfolding row
row_length = length-replicate {A = ℕ} 4096 0

row_zeros : (column : ℕ) → column < 4096 → get_or row column 0 ≡ 0
unfolding row
row_zeros column below = get_or-replicate 4096 column 0 0 below

row_bytes : All (λ (b : ℕ). b < 2 ^ 8) row
unfolding row
row_bytes = All-replicate (λ (b : ℕ). b < 2 ^ 8) 4096 0 (lit< tt)

abbrev rows : List (List ℕ)
rows = row ∷ row ∷ []

bytes_zero : (column i : ℕ) → column < 4096 → byte_at rows i column ≡ 0
bytes_zero column zero below = row_zeros column below
bytes_zero column (suc zero) below = row_zeros column below
bytes_zero column (suc (suc i)) below = refl

pub is_word : IsSpanWord 1 1 1 rows
is_word = record {
  is_word = record {
    count = refl;
    equal_lengths = All-cons (λ (r : List ℕ). length r ≡ length row) row (row ∷ []) refl
        (All-cons (λ (r : List ℕ). length r ≡ length row) row [] refl
        (All-nil (λ (r : List ℕ). length r ≡ length row)));
    syndromes_zero = λ j column low below.
        sum_over_zeros 2 (λ i. power 2 (i * j) ⊗ byte_at rows i column)
        (λ i l. ap (λ (b : ℕ). power 2 (i * j) ⊗ b)
        (bytes_zero column i (omega (arith, below, row_length)))
        ∙ product_with_zero (power 2 (i * j)));
  };
  bytes = All-cons (All (λ (b : ℕ). b < 2 ^ 8)) row (row ∷ []) row_bytes
      (All-cons (All (λ (b : ℕ). b < 2 ^ 8)) row [] row_bytes
      (All-nil (All (λ (b : ℕ). b < 2 ^ 8))));
  wide = row_length;
}

-- ---- one object in the first of four slots is put away as set 6
abbrev at : ℕ → ℕ → Shard
at n key = record { node = record { n = n }; incarnation = 0; key = key }

abbrev shards : List Shard
shards = at 0 2 ∷ at 1 3 ∷ []

abbrev slots : Option ℕ → List (Option ℕ)
slots first = first ∷ None ∷ None ∷ None ∷ []

abbrev of : List Shard → PositionState → SetState
of shards position = set_of 6 1 shards (position ∷ [])

abbrev set : SetState
set = of shards (filled_position (slots (Some 0)))

abbrev committed : SetState → Kept
committed x = record { set = x; committed = true }

abbrev before : Shown
before = record {
  first = 1;
  objects = is.Here 1024 0 ∷ is.Empty 2 ∷ [];
  hots = false ∷ false ∷ [];
  versions = 1 ∷ 2 ∷ [];
  memory = [];
}

words : List ℕ
words = window (words_in row) 0 128

abbrev after : Shown
after = record before { objects = is.Far 1024 1 words ∷ is.Empty 2 ∷ [] }

-- a row of another owner stands under key 0
abbrev nodes : NodesState
nodes = with_row (empty_nodes 2 2) (record { n = 0 }) 0 (7 ∷ [])

abbrev far : FarState
far = record local {
  spans = [];
  frames = [];
  homes = None ∷ None ∷ [];
  nodes = nodes;
  members = fresh_members 2;
  counts = record { turns = 0; by_job = []; sets = 6; keys = 2 };
}

abbrev counts_then : ℕ → ℕ → FarState → FarState
counts_then sets keys far = record far { counts = record { turns = 0; by_job = []; sets = sets; keys = keys } }

abbrev with_set : List Shard → List (List ℕ) → SetState → FarState
with_set shards rows set = record (counts_then 7 4 far) {
  sets = map.insert map.empty 6 (committed set);
  homes = Some (record { set = 6; position = 0; slot = 0 }) ∷ None ∷ [];
  nodes = all_put nodes shards rows;
}

abbrev new : FarState
new = with_set shards rows set

shard_by : (P : Shard → Type 0) → P (at 0 2) → P (at 1 3) → (p : ℕ) (shard : Shard)
    → slice_get shards p ≡ Some shard → P shard
shard_by P a b zero shard e = subst P (some_same (at 0 2) shard e) a
shard_by P a b (suc zero) shard e = subst P (some_same (at 1 3) shard e) b
shard_by P a b (suc (suc p)) shard e = absurd (none_some shard e)

is_shaped : IsShaped (fresh_members 2) set
is_shaped = record {
  range = record {
    data_least = lit≤ tt;
    data_most = lit≤ tt;
    parities_least = lit≤ tt;
    parities_most = lit≤ tt;
  };
  data_first = lit≤ tt;
  pages = lit≤ tt;
  distinct = distinct;
  current = shard_by (λ s. (s.node.n < 2) × (s.incarnation ≤ incarnation (fresh_members 2) s.node))
      (lit< tt, lit≤ tt) (lit< tt, lit≤ tt);
}
  where
    distinct : OnDistinctNodes shards
    distinct zero zero d less within = absurd (omega (arith, less))
    distinct zero (suc zero) d less within = λ same. omega (arith, same)
    distinct (suc i) j d less within = absurd (omega (arith, less, within))
    distinct i (suc (suc j)) d less within = absurd (omega (arith, within))

class_of_1024 : IsClassOf 1024 largest
unfolding bytes_of
class_of_1024 = record {
  in_table = lit< tt;
  holds = lit≤ tt;
  least = λ smaller less.
      let test : ℕ → Bool = λ (i : ℕ). ltb (bytes_of (record { index = i })) 1024 in
      ltb-true (bytes_of smaller) 1024
      (agree_below_at test (λ _. true) 11 smaller.index refl less);
}

holds : HoldsObject after 1 row 4 0 0
unfolding slots_of pages_of bytes_of words words_of
holds = record {
  len = 1024;
  version = 1;
  words = words;
  class = largest;
  away = refl;
  fits = class_of_1024;
  paged = refl;
  sized = refl;
  contents = refl;
}

-- rows of two pages are of no span of its class
of_longer_spans : ¬ (HoldsObject after 2 row 4 0 0)
unfolding pages_of words
of_longer_spans x =
    let n : x.len ≡ 1024 = far_len x.version x.len x.words (sym x.away) in
    let c = IsClassOf-unique 1024 x.class largest
    (subst (λ (n : ℕ). IsClassOf n x.class) n x.fits) class_of_1024 in
    absurd (let e : 2 ≡ 1 = x.paged ∙ ap pages_of c in omega (arith, e))
  where
    far_len : (v n : ℕ) (ws : List ℕ) → is.Far n v ws ≡ is.Far 1024 1 words → n ≡ 1024
    far_len v n ws e = cc

is_moved : IsMovedIntoSet before after far new 6 set rows 0
is_moved = record {
  position = 0;
  slot = 0;
  named = refl;
  once = once;
  home = refl;
  before = λ x. x;
  holds = holds;
}
  where
    once : (p q : ℕ) → slot_at set p q ≡ Some 0 → (p ≡ 0) × (q ≡ 0)
    once zero zero e = (refl, refl)
    once zero (suc zero) e = absurd (none_some 0 e)
    once zero (suc (suc zero)) e = absurd (none_some 0 e)
    once zero (suc (suc (suc zero))) e = absurd (none_some 0 e)
    once zero (suc (suc (suc (suc q)))) e = absurd (none_some 0 e)
    once (suc p) q e = absurd (none_some 0 e)

each_object : (h : ℕ) → IsUntouched before after far new set h ⊎ IsMovedIntoSet before after far new 6 set rows h
each_object zero = inr is_moved
each_object (suc h) = inl (record { object = object h; home = home h; absent = absent h })
  where
    object : (h : ℕ) → object_at after (suc h) ≡ object_at before (suc h)
    object zero = refl
    object (suc h) = refl

    home : (h : ℕ) → home_at new.homes (suc h) ≡ home_at far.homes (suc h)
    home zero = refl
    home (suc h) = refl

    absent : (h p q : ℕ) → slot_at set p q ≡ Some (suc h) → ⊥
    absent h zero zero e = let n = some_same 0 (suc h) e in omega (arith, n)
    absent h zero (suc zero) e = none_some (suc h) e
    absent h zero (suc (suc zero)) e = none_some (suc h) e
    absent h zero (suc (suc (suc zero))) e = none_some (suc h) e
    absent h zero (suc (suc (suc (suc q)))) e = none_some (suc h) e
    absent h (suc p) q e = none_some (suc h) e

no_set : (id : ℕ) → set_in map.empty id ≡ None
no_set id = grind (arith, map.gets)

inserted : (sets : SetMap) (x : SetState) → sets ≡ map.insert map.empty 6 (committed x)
    → set_in sets 6 ≡ Some x
inserted sets x e = grind (arith, map.gets, e)

their_nodes : AreThere nodes shards
their_nodes = shard_by (λ s. s.node.n < 2) (lit< tt) (lit< tt)

no_owner : (o : Owner) (a : Shard) → IsShardOf far o a → ⊥
no_owner (of_set id p) a (x, e, y) = none_some x (sym (no_set id) ∙ e)
no_owner (of_leaving p) a (x, e, y) = none_some x e
no_owner (of_joining p) a (x, e, y) = none_some x e

keys_apart : (p q : ℕ) (a b : Shard) → slice_get shards p ≡ Some a → slice_get shards q ≡ Some b
    → a.key ≡ b.key → p ≡ q
keys_apart p q a b is es same =
    let x = shard_by' p a is in let y = shard_by' q b es in omega (arith, x, y, same)
  where
    key_of : (s t : Shard) → Some s ≡ Some t → s.key ≡ t.key
    key_of s t e = ap (λ (x : Shard). x.key) (some_same s t e)

    -- the key is two more than the position
    shard_by' : (p : ℕ) (a : Shard) → slice_get shards p ≡ Some a → p + 2 ≡ a.key
    shard_by' zero a e = key_of (at 0 2) a e
    shard_by' (suc zero) a e = key_of (at 1 3) a e
    shard_by' (suc (suc p)) a e = absurd (none_some a e)

one_at_first : held nodes (record { n = 0 }) ≡ 1
one_at_first = grind (arith, map.gets)

two_at_first : held new.nodes (record { n = 0 }) ≡ 2
two_at_first = grind (arith, map.gets)

have_room : HaveRoom nodes
have_room = room_put (empty_nodes 2 2) (record { n = 0 }) 0 (7 ∷ []) (omega (arith, none))
    (room_empty 2 2)
  where
    none : held (empty_nodes 2 2) (record { n = 0 }) ≡ 0
    none = grind (arith, map.gets)

abbrev one_more : NodesState
one_more = with_row nodes (record { n = 0 }) 2 row

keep_room : KeepRoom nodes new.nodes
keep_room room = room_put one_more (record { n = 1 }) 3 row (omega (arith, none))
    (room_put nodes (record { n = 0 }) 2 row (omega (arith, one_at_first)) room)
  where
    none : held (with_row nodes (record { n = 0 }) 2 row) (record { n = 1 }) ≡ 0
    none = grind (arith, map.gets)

is_added : IsSetAdded before after far new 6 set rows
is_added = record {
  shape = is_shaped;
  code = is_word;
  lives = lives;
  some_live = (0, refl);
  added = inserted new.sets set refl;
  fresh = no_set 6;
  others = others;
  drawn = (lit< tt, lit≤ tt);
  keys = shard_by (λ s. s.key < 4) (lit< tt) (lit< tt);
  fresh_keys = λ o a x. absurd (no_owner o a x);
  more_keys = lit≤ tt;
  keys_apart = keys_apart;
  up = shard_by (λ s. is_lost (fresh_members 2) s ≡ false) refl refl;
  put = λ p shard e. put_there nodes shards rows p shard their_nodes apart refl e;
  stay = λ node key none. put_elsewhere nodes shards rows node key their_nodes none;
  only = λ node key row e. put_only nodes shards rows node key row their_nodes e;
  nodes = refl;
  room = keep_room;
  members = refl;
  leaving = refl;
  joining = refl;
  survey = refl;
  batch = λ b e. absurd (none_some b e);
  unpaired = λ pair e. absurd (none_some pair e);
  each = each_object;
}
  where
    lives : (p : ℕ) → live_at set p ≡ list_any (λ slot. is_some slot) (position_of set p).slots
    lives zero = refl
    lives (suc p) = refl

    others : (j : ℕ) → j ≢ 6 → map.get new.sets j ≡ map.get far.sets j
    others j off = grind (arith, map.gets, nat_tests, off)

    apart : NoKey (at 1 3 ∷ []) 2 × (NoKey [] 3 × Unit {0})
    apart = (
      λ p shard e k. second p shard e k,
      ((λ p shard e k. none_some shard e), tt),
    )
      where
        second : (p : ℕ) (shard : Shard) → slice_get (at 1 3 ∷ []) p ≡ Some shard → shard.key ≡ 2 → ⊥
        second zero shard e k = let n = ap (λ (s : Shard). s.key) (some_same (at 1 3) shard e) in
            omega (arith, n, k)
        second (suc p) shard e k = none_some shard e

-- ---- what adds no set
abbrev is_no_addition : FarState → FarState → SetState → List (List ℕ) → Type 0
is_no_addition far new set rows = ¬ (IsSetAdded before after far new 6 set rows)

false_true : false ≡ true → ⊥
false_true e = cc

-- both shards on one node
abbrev on_one : List Shard
on_one = at 0 2 ∷ at 0 3 ∷ []

abbrev set_on_one : SetState
set_on_one = of on_one (filled_position (slots (Some 0)))

on_one_node : is_no_addition far (with_set on_one rows set_on_one) set_on_one rows
on_one_node x = x.shape.distinct 0 1 (at 0 0) (lit< tt) (lit< tt) refl

without_a_parity_row : is_no_addition far (with_set shards (row ∷ [] ∷ []) set) set (row ∷ [] ∷ [])
without_a_parity_row x = absurd (let e : 0 ≡ length row = x.code.is_word.equal_lengths 1 [] (lit< tt) in
    omega (arith, e, row_length))

-- nothing moved: the position names no object
abbrev unmoved : FarState → FarState
unmoved new = record new { homes = far.homes }

abbrev set_of_none : Bool → SetState
set_of_none live = of shards (record { live = live; slots = slots None })

live_without_an_object : ¬ (IsSetAdded before before far
    (unmoved (with_set shards rows (set_of_none true))) 6 (set_of_none true) rows)
live_without_an_object x = false_true (sym (x.lives 0))

none_live : ¬ (IsSetAdded before before far
    (unmoved (with_set shards rows (set_of_none false))) 6 (set_of_none false) rows)
none_live x = dead x.some_live.0 x.some_live.1
  where
    dead : (p : ℕ) → live_at (set_of_none false) p ≡ true → ⊥
    dead zero e = false_true e
    dead (suc p) e = false_true e

not_added : is_no_addition far (record new { sets = far.sets }) set rows
not_added x = none_some set (sym (no_set 6) ∙ x.added)

-- a set of that number was there
abbrev other_set : SetState
other_set = of (at 0 0 ∷ at 1 1 ∷ []) (filled_position (slots (Some 1)))

abbrev sets_before : SetMap
sets_before = map.insert map.empty 6 (committed other_set)

number_again : is_no_addition (record far { sets = sets_before })
    (record new { sets = map.insert sets_before 6 (committed set) }) set rows
number_again x = none_some other_set (sym x.fresh ∙ inserted sets_before other_set refl)

adds_another : is_no_addition far (record new { sets = map.insert new.sets 7 (committed set) }) set rows
adds_another x = none_some set (sym (no_set 7) ∙ sym (ap if_committed (x.others 7 (omega arith))) ∙ there)
  where
    there : set_in (map.insert new.sets 7 (committed set)) 7 ≡ Some set
    there = grind (arith, map.gets)

not_drawn : is_no_addition far (counts_then 6 4 new) set rows
not_drawn x = absurd (let l : 6 < 6 = x.drawn.0 in omega (arith, l))

number_taken_back : is_no_addition (counts_then 8 2 far) new set rows
number_taken_back x = absurd (let l : 8 ≤ 7 = x.drawn.1 in omega (arith, l))

key_not_drawn : is_no_addition far (counts_then 7 3 new) set rows
key_not_drawn x = absurd (let l : 3 < 3 = x.keys 1 (at 1 3) refl in omega (arith, l))

-- a row of the batch that is leaving has the key
abbrev batch : List ℕ → List (Option Shard) → LeavingState
batch frames shards = record {
  set = 5;
  pages = 1;
  frames = frames;
  words = [];
  made = true;
  parities = [];
  shards = shards;
}

abbrev leaves : LeavingState → FarState → FarState
leaves batch far = record far { leaving = Some batch }

key_again : is_no_addition (leaves (batch [] (Some (at 0 2) ∷ [])) far)
    (leaves (batch [] (Some (at 0 2) ∷ [])) new) set rows
key_again x = x.fresh_keys (of_leaving 0) (at 0 2)
    (batch [] (Some (at 0 2) ∷ []), refl, refl) 0 (at 0 2) refl refl

key_taken_back : is_no_addition (counts_then 6 5 far) new set rows
key_taken_back x = absurd (let l : 5 ≤ 4 = x.more_keys in omega (arith, l))

abbrev of_one_key : List Shard
of_one_key = at 0 2 ∷ at 1 2 ∷ []

abbrev set_of_one_key : SetState
set_of_one_key = of of_one_key (filled_position (slots (Some 0)))

one_key_twice : is_no_addition far (with_set of_one_key rows set_of_one_key) set_of_one_key rows
one_key_twice x = absurd (let e : 0 ≡ 1 = x.keys_apart 0 1 (at 0 2) (at 1 2) refl refl refl in
    omega (arith, e))

-- the first node crashed
abbrev one_down : FarState → FarState
one_down far = record far { members = with_crash (fresh_members 2) (record { n = 0 }) }

on_a_lost_node : is_no_addition (one_down far) (one_down new) set rows
on_a_lost_node x = false_true (sym (x.up 0 (at 0 2) refl))

no_row : (key : ℕ) → row_under (empty_nodes 2 2) (record { n = 0 }) key ≡ None
no_row key = grind (arith, map.gets)

no_row_put : is_no_addition far (record new { nodes = nodes }) set rows
no_row_put x = none_some row (sym none ∙ x.put 0 (at 0 2) refl)
  where
    none : row_under nodes (record { n = 0 }) 2 ≡ None
    none = grind (arith, map.gets)

drops_another_row : is_no_addition far (record new { nodes = all_put (empty_nodes 2 2) shards rows })
    set rows
drops_another_row x = none_some (7 ∷ []) (sym none ∙ x.stay (record { n = 0 }) 0 no_key ∙ there)
  where
    none : row_under (all_put (empty_nodes 2 2) shards rows) (record { n = 0 }) 0 ≡ None
    none = grind (arith, map.gets)

    there : row_under nodes (record { n = 0 }) 0 ≡ Some (7 ∷ [])
    there = grind (arith, map.gets)

    no_key : NoKey shards 0
    no_key = shard_by (λ s. s.key ≡ 0 → ⊥) (λ e. omega (arith, e)) (λ e. omega (arith, e))

-- under the key of the first shard, at the node of the second
puts_another_row : is_no_addition far
    (record new { nodes = with_row new.nodes (record { n = 1 }) 2 (9 ∷ []) }) set rows
puts_another_row x = by (x.only (record { n = 1 }) 2 (9 ∷ []) there)
  where
    there : row_under (with_row new.nodes (record { n = 1 }) 2 (9 ∷ [])) (record { n = 1 }) 2
        ≡ Some (9 ∷ [])
    there = grind (arith, map.gets)

    none : row_under nodes (record { n = 1 }) 2 ≡ None
    none = grind (arith, map.gets)

    named : (p : ℕ) (shard : Shard) → slice_get shards p ≡ Some shard → shard.node.n ≡ 1
        → shard.key ≡ 2 → ⊥
    named = shard_by (λ s. s.node.n ≡ 1 → s.key ≡ 2 → ⊥) (λ n k. omega (arith, n))
        (λ n k. omega (arith, k))

    by : (row_under nodes (record { n = 1 }) 2 ≡ Some (9 ∷ [])) ⊎ ((p : ℕ) × (shard : Shard)
        × (slice_get shards p ≡ Some shard) × (shard.node.n ≡ 1) × (shard.key ≡ 2)) → ⊥
    by (inl e) = none_some (9 ∷ []) (sym none ∙ e)
    by (inr (p, shard, e, n, k)) = named p shard e n k

adds_a_node : is_no_addition far (record new {
  nodes = all_put (with_row (empty_nodes 3 2)
      (record { n = 0 }) 0 (7 ∷ [])) shards rows;
}) set rows
adds_a_node x = absurd (let e : 3 ≡ 2 = x.nodes in omega (arith, e))

adds_past_the_room : is_no_addition far (record new { nodes = record new.nodes { room = 1 } }) set rows
adds_past_the_room x = let l = x.room have_room (record { n = 0 }) in omega (arith, l, two_at_first)

adds_a_member : is_no_addition far (record new { members = fresh_members 3 }) set rows
adds_a_member x =
    absurd (let e : 3 ≡ 2 = ap (λ (m : Membership). length m.nodes) x.members in omega (arith, e))

begins_to_leave : is_no_addition far (leaves (batch [] []) new) set rows
begins_to_leave x = none_some (batch [] []) (sym x.leaving)

abbrev pair : JoiningState
pair = record { a = 6; b = 5; shards_a = []; shards_b = []; taken = []; steps = [] }

begins_to_join : is_no_addition far (record new { joining = Some pair }) set rows
begins_to_join x = none_some pair (sym x.joining)

tells_more : is_no_addition far (record new { survey = record { below = 6; gone = 0; no_pair = None } }) set rows
tells_more x = absurd (let e : 6 ≡ 0 = ap (λ (s : Survey). s.below) x.survey in omega (arith, e))

-- a word of the span that is leaving is another one
writes_into_the_batch : ¬ (IsSetAdded before (record after { memory = 7 ∷ [] })
    (leaves (batch (0 ∷ []) []) far) (leaves (batch (0 ∷ []) []) new) 6 set rows)
unfolding window
writes_into_the_batch x = absurd (let e : 7 ≡ 0 =
    ap (λ (l : List (List ℕ)). get_or (row_at l 0) 0 0) (x.batch (batch (0 ∷ []) []) refl) in
    omega (arith, e))

number_of_a_pair : is_no_addition (record far { joining = Some pair })
    (record new { joining = Some pair }) set rows
number_of_a_pair x = absurd ((x.unpaired pair refl).0 refl)

-- the object that the set names is here still
stays_here : ¬ (IsSetAdded before before far (unmoved new) 6 set rows)
stays_here x = by (x.each 0)
  where
    by : IsUntouched before before far (unmoved new) set 0
        ⊎ IsMovedIntoSet before before far (unmoved new) 6 set rows 0 → ⊥
    by (inl y) = y.absent 0 0 refl
    by (inr y) = none_some (record { set = 6; position = y.position; slot = y.slot }) y.home
