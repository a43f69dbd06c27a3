-- Worked examples of a pair that is joining and of its merged word: what meets each definition, and
-- for each of its parts what breaks that part alone.
use Rattle.std.proofs.Common.{◌≡◌, ◌≢◌, ℕ, zero, suc, ◌+◌, ◌<◌, true, false, List, [], ◌∷◌, None, Some, get_or, if◌then◌else◌, refl, sym, ap, ◌∙◌, subst, arith, lit<, lit≤, length}
use Rattle.std.specs.FinMap as map
use Rattle.std.specs.List.{slice_get}
use Rattle.cb_gf256.specs.InRange.{IsInRange}
use Rattle.cb_gf256.specs.Rows.{row_at}
use Rattle.cb_member.specs.declared.names.NodeId.{NodeId}
use Rattle.cb_member.specs.declared.names.Shard.{Shard}
use Rattle.cb_node.specs.NodesState.{NodesState, nodes_of, row_under}
use Rattle.cb_node.specs.Rows.{RowsByKey}
use Rattle.cb_set.specs.SetState.{SetState, dead_position, live_at}
use Rattle.cb_world.specs.FarState.{FarState}
use Rattle.cb_world.specs.Join.{AreFit, IsBeside, IsFresh, IsJoin, IsJoinWord}
use Rattle.cb_world.specs.Joining.{JoiningState}
use Rattle.cb_world.specs.Merged.{IsMergedWord, takes}
use Rattle.cb_world.specs.Sets.{set_in}
use Rattle.cb_world.specs.SetWord.{IsSpanWord}
use Rattle.cb_world.proofs.Apart.{some_same}
use Rattle.cb_world.proofs.WorkedSteps.{a, at, b, false_true, five_there, four_there, is_fresh, joining, kept, none_lost, none_some, of, pair}
use Rattle.cb_world.proofs.WorkedWord.{bytes, is_code_word, row, row_byte, row_long, rows}

-- ---- a new shard stands beside the one of its position
is_beside : IsBeside (at 1 1) (at 1 6)
is_beside = record { node = refl; incarnation = refl }

on_another_node : ¬ (IsBeside (at 1 1) (at 2 6))
on_another_node x = absurd (let e : 2 ≡ 1 = ap (λ (n : NodeId). n.n) x.node in omega (arith, e))

of_another_incarnation : ¬ (IsBeside (at 1 1) (record (at 1 6) { incarnation = 1 }))
of_another_incarnation x = absurd (let e : 1 ≡ 0 = x.incarnation in omega (arith, e))

-- ---- the merged word: the first row is a's and the second one b's
pub is_span_word : IsSpanWord 1 2 1 rows
is_span_word = record { is_word = is_code_word; bytes = bytes; wide = row_long 7 }

-- rows of one byte
abbrev short : List (List ℕ)
short = (7 ∷ []) ∷ (0 ∷ []) ∷ (7 ∷ []) ∷ []

not_wide : ¬ (IsSpanWord 1 2 1 short)
not_wide x = absurd (let e : 1 ≡ 4096 = x.wide in omega (arith, e))

-- rows of one page are no word of spans of two
not_as_wide : ¬ (IsSpanWord 2 2 1 rows)
not_as_wide x = absurd (let e = row_long 7 in let l : length (row 7) ≡ 8192 = x.wide in
    omega (arith, e, l))

is_merged_word : IsMergedWord 1 2 1 (1 ∷ []) (row 7 ∷ row 5 ∷ []) (row 9 ∷ row 0 ∷ []) rows
is_merged_word = record { word = is_span_word; chosen = chosen }
  where
    chosen : (i : ℕ) → i < 2 → row_at rows i
        ≡ (if takes (1 ∷ []) i then row_at (row 9 ∷ row 0 ∷ []) i
        else row_at (row 7 ∷ row 5 ∷ []) i)
    chosen zero below = refl
    chosen (suc zero) below = refl
    chosen (suc (suc i)) below = absurd (omega (arith, below))

merged_of_short_rows : ¬ (IsMergedWord 1 2 1 (1 ∷ []) ((7 ∷ []) ∷ []) ([] ∷ (0 ∷ []) ∷ []) short)
merged_of_short_rows x = not_wide x.word

other_rows : (n m : ℕ) → n ≢ m → row n ≡ row m → ⊥
other_rows n m off e = off (sym (row_byte n 0 (lit< tt)) ∙ ap (λ (l : List ℕ). get_or l 0 0) e
    ∙ row_byte m 0 (lit< tt))

merged_of_b_alone : ¬ (IsMergedWord 1 2 1 (1 ∷ []) (row 6 ∷ []) (row 7 ∷ row 0 ∷ []) rows)
merged_of_b_alone x = other_rows 7 6 (λ e. omega (arith, e)) (x.chosen 0 (lit< tt))

merged_of_a_alone : ¬ (IsMergedWord 1 2 1 (1 ∷ []) (row 7 ∷ row 0 ∷ []) (row 7 ∷ row 6 ∷ []) rows)
merged_of_a_alone x = other_rows 0 6 (λ e. omega (arith, e)) (x.chosen 1 (lit< tt))

-- ---- the rows at the nodes: a's first, b's second, and the two new ones
abbrev pub one_row : ℕ → List ℕ → RowsByKey
one_row key row = map.insert map.empty key row

abbrev pub two_rows : ℕ → List ℕ → ℕ → List ℕ → RowsByKey
two_rows key row other more = map.insert (one_row key row) other more

pub got : (key : ℕ) (row : List ℕ) → map.get (one_row key row) key ≡ Some row
got key row = grind (arith, map.gets)

pub got_first : (row more : List ℕ) → map.get (two_rows 4 row 6 more) 4 ≡ Some row
got_first row more = grind (arith, map.gets)

pub got_second : (row more : List ℕ) → map.get (two_rows 4 row 6 more) 6 ≡ Some more
got_second row more = grind (arith, map.gets)

-- these are a's first row, b's second, the new one of the second position, and the new parity
abbrev holding : List ℕ → List ℕ → List ℕ → List ℕ → NodesState
holding a_row b_row new_row parity =
    nodes_of 4 0 (one_row 0 a_row ∷ two_rows 4 b_row 6 new_row ∷ one_row 7 parity ∷ [])

abbrev with_nodes : NodesState → FarState
with_nodes nodes = record joining { nodes = nodes }

abbrev merging : FarState
merging = with_nodes (holding (row 7) (row 0) (row 0) (row 7))

-- the row of a shard, carried to another name of the shard
named : (nodes : NodesState) (s t : Shard) (r : List ℕ) → Some s ≡ Some t
    → row_under nodes s.node s.key ≡ Some r → row_under nodes t.node t.key ≡ Some r
named nodes s t r e at =
    subst (λ (x : Shard). row_under nodes x.node x.key ≡ Some r) (some_same s t e) at

is_join_word : IsJoinWord merging pair 1 2 1 rows
is_join_word = record {
  word = is_span_word;
  a_rows = a_rows;
  b_rows = b_rows;
  new_rows = new_rows;
}
  where
    a_rows : (i : ℕ) (shard : Shard) → i < 2 → takes pair.taken i ≡ false
        → slice_get pair.shards_a i ≡ Some shard
        → row_under merging.nodes shard.node shard.key ≡ Some (row_at rows i)
    a_rows zero shard below off e =
        named merging.nodes (at 0 0) shard (row 7) e (got 0 (row 7))
    a_rows (suc zero) shard below off e = absurd (false_true (sym off))
    a_rows (suc (suc i)) shard below off e = absurd (omega (arith, below))

    b_rows : (i : ℕ) (shard : Shard) → i < 2 → takes pair.taken i ≡ true
        → slice_get pair.shards_b i ≡ Some shard
        → row_under merging.nodes shard.node shard.key ≡ Some (row_at rows i)
    b_rows zero shard below on e = absurd (false_true on)
    b_rows (suc zero) shard below on e =
        named merging.nodes (at 1 4) shard (row 0) e (got_first (row 0) (row 0))
    b_rows (suc (suc i)) shard below on e = absurd (omega (arith, below))

    new_rows : (p : ℕ) (shard : Shard) → slice_get pair.steps p ≡ Some (Some shard)
        → row_under merging.nodes shard.node shard.key ≡ Some (row_at rows p)
    new_rows zero shard e = absurd (none_some shard (some_same None (Some shard) e))
    new_rows (suc zero) shard e =
        named merging.nodes (at 1 6) shard (row 0) (some_same (Some (at 1 6)) (Some shard) e)
        (got_second (row 0) (row 0))
    new_rows (suc (suc zero)) shard e =
        named merging.nodes (at 2 7) shard (row 7) (some_same (Some (at 2 7)) (Some shard) e)
        (got 7 (row 7))
    new_rows (suc (suc (suc p))) shard e = absurd (none_some (Some shard) e)

joined_of_short_rows :
    ¬ (IsJoinWord (with_nodes (holding (7 ∷ []) (0 ∷ []) (0 ∷ []) (7 ∷ []))) pair 1 2 1 short)
joined_of_short_rows x = not_wide x.word

pub differ : (n m : ℕ) → n ≢ m → Some (row n) ≡ Some (row m) → ⊥
differ n m off e = other_rows n m off (some_same (row n) (row m) e)

another_row_of_a : ¬ (IsJoinWord (with_nodes (holding (row 6) (row 0) (row 0) (row 7))) pair 1 2 1 rows)
another_row_of_a x = differ 6 7 (λ e. omega (arith, e))
    (sym (got 0 (row 6)) ∙ x.a_rows 0 (at 0 0) (lit< tt) refl refl)

another_row_of_b : ¬ (IsJoinWord (with_nodes (holding (row 7) (row 6) (row 0) (row 7))) pair 1 2 1 rows)
another_row_of_b x = differ 6 0 (λ e. omega (arith, e))
    (sym (got_first (row 6) (row 0)) ∙ x.b_rows 1 (at 1 4) (lit< tt) refl refl)

another_new_row : ¬ (IsJoinWord (with_nodes (holding (row 7) (row 0) (row 6) (row 7))) pair 1 2 1 rows)
another_new_row x = differ 6 0 (λ e. omega (arith, e))
    (sym (got_second (row 0) (row 6)) ∙ x.new_rows 1 (at 1 6) refl)

another_new_parity :
    ¬ (IsJoinWord (with_nodes (holding (row 7) (row 0) (row 0) (row 6))) pair 1 2 1 rows)
another_new_parity x =
    differ 6 7 (λ e. omega (arith, e)) (sym (got 7 (row 6)) ∙ x.new_rows 2 (at 2 7) refl)

-- ---- sets that fit the pair: of as many positions, and live where the pair says
are_fit : AreFit pair 1 2 a b
are_fit = record {
  a_count = refl;
  b_count = refl;
  a_pages = refl;
  b_pages = refl;
  a_live = a_live;
  b_live = b_live;
}
  where
    a_live : (p : ℕ) → live_at a p ≡ true → takes pair.taken p ≡ false
    a_live zero e = refl
    a_live (suc zero) e = absurd (false_true e)
    a_live (suc (suc p)) e = absurd (false_true e)

    b_live : (p : ℕ) → live_at b p ≡ true → takes pair.taken p ≡ true
    b_live zero e = absurd (false_true e)
    b_live (suc zero) e = refl
    b_live (suc (suc p)) e = absurd (false_true e)

-- a and b with a dead position more
abbrev longer_a : SetState
longer_a = record a { positions = of 0 ∷ dead_position ∷ dead_position ∷ [] }

abbrev pub longer_b : SetState
longer_b = record b { positions = dead_position ∷ of 1 ∷ dead_position ∷ [] }

longer_a_unfit : ¬ (AreFit pair 1 2 longer_a b)
longer_a_unfit x = absurd (let e : 3 ≡ 2 = x.a_count in omega (arith, e))

longer_b_unfit : ¬ (AreFit pair 1 2 a longer_b)
longer_b_unfit x = absurd (let e : 3 ≡ 2 = x.b_count in omega (arith, e))

-- of spans of another length
longer_spans_of_a_unfit : ¬ (AreFit pair 1 2 (record a { pages = 2 }) b)
longer_spans_of_a_unfit x = absurd (let e : 2 ≡ 1 = x.a_pages in omega (arith, e))

longer_spans_of_b_unfit : ¬ (AreFit pair 1 2 a (record b { pages = 2 }))
longer_spans_of_b_unfit x = absurd (let e : 2 ≡ 1 = x.b_pages in omega (arith, e))

live_where_taken : ¬ (AreFit pair 1 2 (record a { positions = of 0 ∷ of 2 ∷ [] }) b)
live_where_taken x = false_true (sym (x.a_live 1 refl))

live_where_not_taken : ¬ (AreFit pair 1 2 a (record b { positions = of 2 ∷ of 1 ∷ [] }))
live_where_not_taken x = false_true (x.b_live 0 refl)

-- ---- the pair
in_range : IsInRange 2 1
in_range = record {
  data_least = lit≤ tt;
  data_most = lit≤ tt;
  parities_least = lit≤ tt;
  parities_most = lit≤ tt;
}

key_of : (s t : Shard) → Some s ≡ Some t → s.key < 10 → t.key < 10
key_of s t e l = subst (λ (x : Shard). x.key < 10) (some_same s t e) l

same_sets : (x y : SetState) → IsFresh merging pair x y → (a ≡ x) × (b ≡ y)
same_sets x y fresh = (
  some_same a x (sym four_there ∙ fresh.a_there),
  some_same b y (sym five_there ∙ fresh.b_there),
)

is_join : IsJoin merging pair
is_join = record {
  pages = 1;
  k = 2;
  r = 1;
  range = in_range;
  taken = (lit< tt, refl, tt);
  a_count = refl;
  b_count = refl;
  count = refl;
  apart = λ e. omega (arith, e);
  drawn = (lit< tt, lit< tt);
  a_keys = a_keys;
  b_keys = b_keys;
  steps = steps;
  beside = beside;
  fit = λ x y fresh. let same = same_sets x y fresh in
      subst (λ (q : SetState). AreFit pair 1 2 x q) same.1
      (subst (λ (q : SetState). AreFit pair 1 2 q b) same.0 are_fit);
  word = λ x y fresh. (rows, is_join_word);
}
  where
    a_keys : (p : ℕ) (shard : Shard) → slice_get pair.shards_a p ≡ Some shard → shard.key < 10
    a_keys zero shard e = key_of (at 0 0) shard e (lit< tt)
    a_keys (suc zero) shard e = key_of (at 1 1) shard e (lit< tt)
    a_keys (suc (suc zero)) shard e = key_of (at 2 2) shard e (lit< tt)
    a_keys (suc (suc (suc p))) shard e = absurd (none_some shard e)

    b_keys : (p : ℕ) (shard : Shard) → slice_get pair.shards_b p ≡ Some shard → shard.key < 10
    b_keys zero shard e = key_of (at 0 3) shard e (lit< tt)
    b_keys (suc zero) shard e = key_of (at 1 4) shard e (lit< tt)
    b_keys (suc (suc zero)) shard e = key_of (at 2 5) shard e (lit< tt)
    b_keys (suc (suc (suc p))) shard e = absurd (none_some shard e)

    steps : (p : ℕ) (shard : Shard) → slice_get pair.steps p ≡ Some (Some shard) → p < 2
        → takes pair.taken p ≡ true
    steps zero shard e below = absurd (none_some shard (some_same None (Some shard) e))
    steps (suc zero) shard e below = refl
    steps (suc (suc p)) shard e below = absurd (omega (arith, below))

    near : (old s t : Shard) → Some (Some s) ≡ Some (Some t) → IsBeside old s → IsBeside old t
    near old s t e is =
        subst (λ (x : Shard). IsBeside old x) (some_same s t (some_same (Some s) (Some t) e)) is

    beside : (p : ℕ) (shard : Shard) → slice_get pair.steps p ≡ Some (Some shard) → (old : Shard)
        × (slice_get pair.shards_a p ≡ Some old) × IsBeside old shard
    beside zero shard e = absurd (none_some shard (some_same None (Some shard) e))
    beside (suc zero) shard e = (at 1 1, refl, near (at 1 1) (at 1 6) shard e is_beside)
    beside (suc (suc zero)) shard e =
        (at 2 2, refl, near (at 2 2) (at 2 7) shard e (record { node = refl; incarnation = refl }))
    beside (suc (suc (suc p))) shard e = absurd (none_some (Some shard) e)

-- no set is committed, so that nothing is said of how the two stand
abbrev stale : FarState
stale = record merging { sets = map.empty }

-- one shard each: a code has a data position and a parity at least
too_small : ¬ (IsJoin stale (record pair {
  shards_a = at 0 0 ∷ [];
  shards_b = at 0 3 ∷ [];
  taken = [];
  steps = None ∷ [];
}))
too_small x = absurd (let n : 1 ≡ x.k + x.r = x.a_count in
    omega (arith, n, x.range.data_least, x.range.parities_least))

-- with nothing done yet
abbrev none_done : JoiningState
none_done = record pair { steps = None ∷ None ∷ None ∷ [] }

takes_a_parity : ¬ (IsJoin stale (record none_done { taken = 1 ∷ 2 ∷ [] }))
takes_a_parity x = absurd (let n : 3 ≡ x.k + x.r = x.a_count in
    omega (arith, n, x.range.parities_least, x.taken.2.0))

shard_of_a_too_few : ¬ (IsJoin merging (record none_done { shards_a = at 0 0 ∷ at 1 1 ∷ [] }))
shard_of_a_too_few x =
    absurd (let n : 2 ≡ x.k + x.r = x.a_count in let m : 3 ≡ x.k + x.r = x.count in
    omega (arith, n, m))

shard_of_b_too_few : ¬ (IsJoin merging (record pair { shards_b = at 0 3 ∷ at 1 4 ∷ [] }))
shard_of_b_too_few x =
    absurd (let n : 2 ≡ x.k + x.r = x.b_count in let m : 3 ≡ x.k + x.r = x.count in
    omega (arith, n, m))

step_too_few : ¬ (IsJoin merging (record pair { steps = None ∷ Some (at 1 6) ∷ [] }))
step_too_few x =
    absurd (let n : 2 ≡ x.k + x.r = x.count in let m : 3 ≡ x.k + x.r = x.a_count in
    omega (arith, n, m))

with_itself : ¬ (IsJoin merging (record pair { b = 4 }))
with_itself x = x.apart refl

-- the least number that is not drawn: that of a, and that of b
abbrev with_counts : ℕ → ℕ → FarState
with_counts sets keys =
    record merging { counts = record joining.counts { sets = sets; keys = keys } }

number_of_a_not_drawn : ¬ (IsJoin (with_counts 5 10) (record pair { a = 5; b = 4 }))
number_of_a_not_drawn x = absurd (let l : 5 < 5 = x.drawn.0 in omega (arith, l))

number_of_b_not_drawn : ¬ (IsJoin (with_counts 5 10) pair)
number_of_b_not_drawn x = absurd (let l : 5 < 5 = x.drawn.1 in omega (arith, l))

-- the least key that is not drawn
key_of_a_not_drawn : ¬ (IsJoin merging (record pair { shards_a = at 0 10 ∷ at 1 1 ∷ at 2 2 ∷ [] }))
key_of_a_not_drawn x =
    absurd (let l : 10 < 10 = x.a_keys 0 (at 0 10) refl in omega (arith, l))

key_of_b_not_drawn : ¬ (IsJoin merging (record pair { shards_b = at 0 10 ∷ at 1 4 ∷ at 2 5 ∷ [] }))
key_of_b_not_drawn x =
    absurd (let l : 10 < 10 = x.b_keys 0 (at 0 10) refl in omega (arith, l))

-- a's own row of a position that is not taken is made again
makes_a_row_of_a_again : ¬ (IsJoin stale
    (record pair { steps = Some (at 0 6) ∷ None ∷ None ∷ [] }))
makes_a_row_of_a_again x =
    false_true (x.steps 0 (at 0 6) refl (let l = x.range.data_least in omega (arith, l)))

puts_a_row_elsewhere : ¬ (IsJoin stale
    (record pair { steps = None ∷ Some (at 2 6) ∷ Some (at 2 7) ∷ [] }))
puts_a_row_elsewhere x = let y = x.beside 1 (at 2 6) refl in
    absurd (let e : 2 ≡ 1 = ap (λ (n : NodeId). n.n) y.2.node
    ∙ sym (ap (λ (s : Shard). s.node.n) (some_same (at 1 1) y.0 y.1)) in omega (arith, e))

-- b has a position more than a
abbrev uneven : FarState
uneven = record merging { sets = map.insert (map.insert map.empty 4 (kept a)) 5 (kept longer_b) }

sets_unfit : ¬ (IsJoin uneven pair)
sets_unfit x = absurd (let fit = x.fit a longer_b fresh in
    let m : 2 ≡ x.k = fit.a_count in let n : 3 ≡ x.k = fit.b_count in omega (arith, m, n))
  where
    a_in : set_in uneven.sets 4 ≡ Some a
    a_in = grind (arith, map.gets)

    b_in : set_in uneven.sets 5 ≡ Some longer_b
    b_in = grind (arith, map.gets)

    fresh : IsFresh uneven pair a longer_b
    fresh = record {
      a_there = a_in;
      b_there = b_in;
      a_shards = refl;
      b_shards = refl;
      a_whole = none_lost 0 1 2;
      b_whole = none_lost 3 4 5;
    }

-- a's first row stands nowhere
without_a_word : ¬ (IsJoin joining pair)
without_a_word x = let y = x.word a b is_fresh in none_some (row_at y.0 0)
    (sym no_row ∙ y.1.a_rows 0 (at 0 0) (let l = x.range.data_least in omega (arith, l)) refl refl)
  where
    no_row : row_under joining.nodes (record { n = 0 }) 0 ≡ None
    no_row = grind (arith, map.gets)
