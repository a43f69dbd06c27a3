-- Worked nodes: what meets each definition, and what breaks one of its parts alone.
use Rattle.std.proofs.Common.{◌≡◌, ℕ, ◌^◌, ◌<◌, ◌≤◌, zero, suc, true, false, List, [], ◌∷◌, None, Some, get_or, set, unwrap_or, lit<, ap, ◌∙◌, refl, arith}
use Rattle.std.specs.FinMap as map
use Rattle.std.specs.Ordering.{nat_cmp}
use Rattle.cb_gf256.specs.Sum.{◌⊕◌}
use Rattle.cb_gf256.specs.Product.{◌⊗◌}
use Rattle.cb_gf256.specs.Row.{row_sum, scaled_row}
use Rattle.cb_member.specs.declared.names.NodeId.{NodeId}
use Rattle.cb_member.specs.declared.names.Shard.{Shard}
use Rattle.cb_node.specs.declared.nodes.PutAnswer.TheVariants.{Stored, Full}
use Rattle.cb_node.specs.NodesState.{IsNodes, NodesState, RowsAreBytes, empty_nodes, has, held, known_row, row_under, with_dropped, with_row, with_spoiled, with_wiped}
use Rattle.cb_node.specs.Answer.{PutGives}
use Rattle.cb_node.specs.Delta.{NamesRow, with_delta}
use Rattle.cb_node.proofs.Put.{row_at-with_row_here}

abbrev node : ℕ → NodeId
node n = record { n = n }

abbrev shard : ℕ → ℕ → Shard
shard n key = record { node = node n; incarnation = 0; key = key }

-- two nodes with room for two rows each, of which node 0 has one, under key 7
abbrev none : NodesState
none = empty_nodes 2 2

abbrev one : NodesState
one = with_row none (node 0) 7 (1 ∷ 2 ∷ [])

there : row_under one (node 0) 7 ≡ Some (1 ∷ 2 ∷ [])
there = grind (arith, map.gets)

under_another_key : row_under one (node 0) 8 ≡ None
under_another_key = grind (arith, map.gets)

at_another_node : row_under one (node 1) 7 ≡ None
at_another_node = grind (arith, map.gets)

has_it : has one (node 0) 7 ≡ true
has_it = grind (arith, map.gets)

has_no_other : has one (node 0) 8 ≡ false
has_no_other = grind (arith, map.gets)

holds_one : held one (node 0) ≡ 1
holds_one = grind (arith, map.gets)

no_row_is_known : known_row one (node 1) 7 ≡ []
no_row_is_known = grind (arith, map.gets)

dropped : row_under (with_dropped one (node 0) 7) (node 0) 7 ≡ None
dropped = grind (arith, map.gets)

drop_of_another_key : row_under (with_dropped one (node 0) 8) (node 0) 7 ≡ Some (1 ∷ 2 ∷ [])
drop_of_another_key = grind (arith, map.gets)

wiped : row_under (with_wiped one (node 0)) (node 0) 7 ≡ None
wiped = grind (arith, map.gets)

wipe_of_another_node : row_under (with_wiped one (node 1)) (node 0) 7 ≡ Some (1 ∷ 2 ∷ [])
wipe_of_another_node = grind (arith, map.gets)

no_row_at_the_other : held one (node 1) ≡ 0
no_row_at_the_other = grind (arith, map.gets)

within_room : IsNodes one
within_room = record {
  numbered = lit< tt;
  room_is_kept = λ k d within. room k d within;
  room_fits = lit< tt;
}
  where
    room : (k : ℕ) (d : map.FinMap nat_cmp (List ℕ)) → k < 2
        → map.len (get_or one.nodes k d) ≤ 2
    room zero d within = omega (arith, holds_one)
    room (suc zero) d within = omega (arith, no_row_at_the_other)
    room (suc (suc k)) d within = absurd (omega (arith, within))

-- a node with more rows than it has room for, and a room past 32 bits
past_its_room : ¬ (IsNodes (record one { room = 0 }))
past_its_room h = absurd (omega (arith, h.room_is_kept 0 map.empty (lit< tt), holds_one))

room_past_32_bits : ¬ (IsNodes (record one { room = 2 ^ 32 }))
room_past_32_bits h = absurd (omega (arith, h.room_fits))

not_of_bytes : ¬ (RowsAreBytes (with_row none (node 0) 7 (256 ∷ [])))
not_of_bytes h =
    let at : row_under (with_row none (node 0) 7 (256 ∷ [])) (node 0) 7 ≡ Some (256 ∷ []) =
    grind (arith, map.gets) in
    absurd (omega (arith, h (node 0) 7 (256 ∷ []) at 0 0 (lit< tt)))

holds_two : held (with_row one (node 0) 8 (3 ∷ [])) (node 0) ≡ 2
holds_two = grind (arith, map.gets)

-- answers of a put
put : PutGives one (node 0) 8 (3 ∷ []) Stored (with_row one (node 0) 8 (3 ∷ []))
put = (omega (arith, holds_one), refl)

put_that_stores_nothing : ¬ (PutGives one (node 0) 8 (3 ∷ []) Stored one)
put_that_stores_nothing h =
    let same = ap (λ (s : NodesState). held s (node 0)) h.1 in
    absurd (omega (arith, same, holds_one, holds_two))

-- the same nodes with room for one row each
abbrev full : NodesState
full = record one { room = 1 }

put_at_a_full_node : ¬ (PutGives full (node 0) 8 [] Stored (with_row full (node 0) 8 []))
put_at_a_full_node h = absurd (omega (arith, h.0, holds_one))

full_answered : PutGives full (node 0) 8 [] (Full 1) full
full_answered = (holds_one, refl, refl)

full_with_room : ¬ (PutGives one (node 0) 8 [] (Full 2) one)
full_with_room h = absurd (omega (arith, h.0, holds_one))

full_with_another_count : ¬ (PutGives full (node 0) 8 [] (Full 2) full)
full_with_another_count h = absurd (let e : 2 ≡ 1 = h.1 in omega (arith, e))

full_that_stores : ¬ (PutGives one (node 0) 8 [] (Full 2) (with_row one (node 0) 8 []))
full_that_stores h = absurd (omega (arith, h.0, holds_one))

-- a shard and the row that it names
names : NamesRow (shard 1 7) (node 1) 7
names = (refl, refl)

another_node : ¬ (NamesRow (shard 1 7) (node 0) 7)
another_node h = absurd (omega (arith, h.0))

another_key : ¬ (NamesRow (shard 1 7) (node 1) 8)
another_key h = absurd (omega (arith, h.1))

-- 2 times the sum of rows 5 and 6, added to row 9
abbrev three : NodesState
three =
    with_row (with_row (with_row (empty_nodes 2 4) (node 0) 5 (1 ∷ [])) (node 0) 6 (0x81 ∷ []))
    (node 1) 9 (0x10 ∷ [])

sum : row_sum (known_row three (node 1) 9)
    (scaled_row 2 (row_sum (known_row three (node 0) 5) (known_row three (node 0) 6)))
    ≡ 0x0D ∷ []
unfolding ◌⊗◌
sum =
    let a : known_row three (node 0) 5 ≡ 1 ∷ [] = grind (arith, map.gets) in
    let b : known_row three (node 0) 6 ≡ 0x81 ∷ [] = grind (arith, map.gets) in
    let c : known_row three (node 1) 9 ≡ 0x10 ∷ [] = grind (arith, map.gets) in
    rw (a, b, c) refl

delta : row_under (with_delta three (node 1) 9 2 (shard 0 5) (shard 0 6)) (node 1) 9
    ≡ Some (0x0D ∷ [])
delta = row_at-with_row_here three (node 1) 9 _ (lit< tt) ∙ ap Some sum

delta_keeps_the_others :
    row_under (with_delta three (node 1) 9 2 (shard 0 5) (shard 0 6)) (node 0) 6 ≡ Some (0x81 ∷ [])
delta_keeps_the_others = grind (arith, map.gets)

-- byte 1 of the row of node 0 is changed, and nothing else
spoiled : row_under (with_spoiled one (node 0) 7 1 5) (node 0) 7 ≡ Some (1 ∷ 7 ∷ [])
spoiled =
    row_at-with_row_here one (node 0) 7 _ (omega arith)
    ∙ ap (λ row. Some (set row 1 (get_or row 1 0 ⊕ 5))) (ap (λ o. unwrap_or o []) there)
