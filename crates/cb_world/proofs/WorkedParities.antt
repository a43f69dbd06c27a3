-- Worked examples of the room in which parities are made, and of rows that are given out in order:
-- what meets each definition, and for each of its parts what breaks that part alone.
use Rattle.std.proofs.Common.{◌≡◌, ℕ, zero, suc, ◌<◌, true, false, List, [], ◌∷◌, Option, None, Some, length, slice_get, slice_index, refl, sym, ap, ◌∙◌, arith, lit<}
use Rattle.std.proofs.lemmas.Bool.{false≢true}
use Rattle.std.proofs.lemmas.Option.{none-some, same_Some}
use Rattle.cb_gf256.specs.Rows.{row_at, HaveLength}
use Rattle.cb_member.specs.declared.names.Shard.{Shard}
use Rattle.cb_node.specs.NodesState.{NodesState, nodes_of, row_under}
use Rattle.cb_world.specs.Fetched.{AreGiven}
use Rattle.cb_world.specs.Leaving.{AreRoomy, HasSource, ParitiesState, made_of, shown_rows}
use Rattle.cb_world.proofs.WorkedJoin.{got, one_row}
use Rattle.cb_world.proofs.WorkedWord.{at, row, row_long}

-- ---- one span of one page, whose parity is still to be made
abbrev room : List (List ℕ) → Option (List (List ℕ)) → ParitiesState
room rows source = record { made = false; rows = rows; source = source }

one_long : HaveLength 4096 (row 7 ∷ [])
one_long zero d within = row_long 7
one_long (suc i) d within = absurd (omega (arith, within))

has_source : HasSource 1 1 (room [] (Some (row 7 ∷ [])))
has_source = record { table = row 7 ∷ []; kept = refl; count = refl; lengths = one_long }

no_table : ¬ (HasSource 1 1 (room [] None))
no_table x = none-some x.table x.kept

row_too_many : ¬ (HasSource 1 1 (room [] (Some (row 7 ∷ row 7 ∷ []))))
row_too_many x = absurd (let e : 2 ≡ 1 = ap length (same_Some (row 7 ∷ row 7 ∷ []) x.table x.kept)
    ∙ x.count in omega (arith, e))

row_too_short : ¬ (HasSource 1 1 (room [] (Some ([] ∷ []))))
row_too_short x = absurd (let same = same_Some ([] ∷ []) x.table x.kept in
    let e : 0 ≡ length (row_at x.table 0) = ap (λ (t : List (List ℕ)). length (row_at t 0)) same in
    let n = x.count in
    let l : length (row_at x.table 0) ≡ 4096 = x.lengths 0 [] (omega (arith, n)) in
    omega (arith, e, l))

is_roomy : AreRoomy 1 1 (room (row 7 ∷ []) (Some (row 7 ∷ [])))
is_roomy = record {
  lengths = one_long;
  room = λ unmade. record { table = row 7 ∷ []; kept = refl; count = refl; lengths = one_long };
}

-- once they are made no data rows are kept
made_is_roomy : AreRoomy 1 1 (made_of (row 7 ∷ []))
made_is_roomy = record { lengths = one_long; room = λ unmade. absurd (false≢true (sym unmade)) }

parity_too_short : ¬ (AreRoomy 1 1 (room ([] ∷ []) (Some (row 7 ∷ []))))
parity_too_short x = absurd (let e : 0 ≡ 4096 = x.lengths 0 [] (lit< tt) in omega (arith, e))

unmade_without_source : ¬ (AreRoomy 1 1 (room (row 7 ∷ []) None))
unmade_without_source x = no_table (record {
  table = (x.room refl).table;
  kept = (x.room refl).kept;
  count = (x.room refl).count;
  lengths = (x.room refl).lengths;
})

-- what unmade parities hold is not seen, but for how many they are
unmade_unseen : shown_rows false (row 7 ∷ row 0 ∷ []) ≡ [] ∷ [] ∷ []
unmade_unseen = refl

made_seen : shown_rows true (row 7 ∷ row 0 ∷ []) ≡ row 7 ∷ row 0 ∷ []
made_seen = refl

-- ---- the row of the second of two shards is given out
abbrev shards : List Shard
shards = at 0 2 ∷ at 1 3 ∷ []

abbrev nodes : NodesState
nodes = nodes_of 2 0 (one_row 2 (row 0) ∷ one_row 3 (row 7) ∷ [])

there : row_under nodes (record { n = 1 }) 3 ≡ Some (row 7)
there = got 3 (row 7)

are_given : AreGiven nodes shards (1 ∷ []) (row 7 ∷ [])
are_given = record { count = refl; given = given }
  where
    given : (i : ℕ) → i < 1 → (shard : Shard)
        × (slice_get shards (slice_index (1 ∷ []) i) ≡ Some shard)
        × (row_under nodes shard.node shard.key ≡ Some (row_at (row 7 ∷ []) i))
    given zero within = (at 1 3, refl, there)
    given (suc i) within = absurd (omega (arith, within))

given_too_many : ¬ (AreGiven nodes shards (1 ∷ []) (row 7 ∷ row 7 ∷ []))
given_too_many x = absurd (let e : 2 ≡ 1 = x.count in omega (arith, e))

of_no_shard : ¬ (AreGiven nodes shards (2 ∷ []) (row 7 ∷ []))
of_no_shard x = let y = x.given 0 (lit< tt) in none-some y.0 y.1

another_row : ¬ (AreGiven nodes shards (1 ∷ []) ([] ∷ []))
another_row x = absurd (let y = x.given 0 (lit< tt) in
    let here : row_under nodes (record { n = 1 }) 3 ≡ Some [] =
    ap (λ (s : Shard). row_under nodes s.node s.key) (same_Some (at 1 3) y.0 y.1) ∙ y.2 in
    let e : 4096 ≡ 0 = sym (row_long 7) ∙ ap length (same_Some (row 7) [] (sym there ∙ here)) in
    omega (arith, e))
