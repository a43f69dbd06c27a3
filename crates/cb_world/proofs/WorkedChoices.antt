-- Worked examples of the choice of nodes: a node that is chosen, and for each part of the definition
-- one that breaks that part alone.
use Rattle.std.proofs.Common.{◌≡◌, ℕ, zero, suc, true, false, [], ◌∷◌, None, Some, nat_lt, refl, sym, ap, ◌∙◌, lit<, lit≤, arith, inl, inr}
use Rattle.std.proofs.lemmas.Bool.{false≢true}
use Rattle.std.specs.FinMap as map
use Rattle.cb_member.specs.declared.names.Shard.{Shard}
use Rattle.cb_member.specs.Membership.{Membership, fresh_members, with_crash}
use Rattle.cb_node.specs.NodesState.{NodesState, nodes_of, held}
use Rattle.cb_node.specs.Rows.{RowsByKey}
use Rattle.cb_world.specs.Choices.{has_room, numbered, room_count, MayPut, HoldsFewer, IsBefore, IsLeastNode}

abbrev at : ℕ → ℕ → Shard
at n key = record { node = numbered n; incarnation = 0; key = key }

abbrev one : RowsByKey
one = map.insert map.empty 0 []

abbrev two : RowsByKey
two = map.insert one 1 []

-- four nodes with room for two rows: the first has two, the next two have one, the last crashed
abbrev nodes : NodesState
nodes = nodes_of 2 4 (two ∷ one ∷ one ∷ map.empty ∷ [])

abbrev members : Membership
members = with_crash (fresh_members 4) (numbered 3)

none_held : held nodes (numbered 3) ≡ 0
none_held = grind (arith, map.gets)

one_held : held nodes (numbered 1) ≡ 1
one_held = grind (arith, map.gets)

two_held : held nodes (numbered 0) ≡ 2
two_held = grind (arith, map.gets)

-- ---- room
some_room : has_room nodes members (numbered 1) ≡ true
some_room = ap (λ (n : ℕ). nat_lt n 2) one_held

-- a node that holds as many rows as it has room for has none
full : has_room nodes members (numbered 0) ≡ false
full = ap (λ (n : ℕ). nat_lt n 2) two_held

-- a crashed node has none, however few rows it holds
crashed : has_room nodes members (numbered 3) ≡ false
crashed = refl

-- so two of the four have room
two_have_room : room_count nodes members ≡ 2
two_have_room = grind (arith, one_held, two_held)

-- ---- where a row can be put
may_put : MayPut nodes members [] (numbered 1)
may_put = record { within = lit< tt; room = some_room; spare = refl }

-- the second of two shards goes to another node than the first
may_put_second : MayPut nodes members (at 1 4 ∷ []) (numbered 2)
may_put_second = record { within = lit< tt; room = some_room; spare = refl }

not_beyond : MayPut nodes members [] (numbered 4) → ⊥
not_beyond a = let l = a.within in absurd (omega (arith, l))

not_full : MayPut nodes members [] (numbered 0) → ⊥
not_full a = false≢true (sym full ∙ a.room)

not_crashed : MayPut nodes members [] (numbered 3) → ⊥
not_crashed a = false≢true a.room

not_twice : MayPut nodes members (at 1 4 ∷ []) (numbered 1) → ⊥
not_twice a = false≢true (sym a.spare)

-- ---- the least one
before : (n : ℕ) → MayPut nodes members [] (numbered n) → IsBefore nodes (numbered 1) (numbered n)
before zero may = absurd (not_full may)
before (suc zero) may = inr (refl, lit≤ tt)
before (suc (suc zero)) may = inr (refl, lit≤ tt)
before (suc (suc (suc zero))) may = absurd (not_crashed may)
before (suc (suc (suc (suc n)))) may = let l = may.within in absurd (omega (arith, l))

least : IsLeastNode nodes members [] (numbered 1)
least = record { may = may_put; least = λ other may. before other.n may }

-- of nodes with as many rows, the one with the least number
not_later : IsLeastNode nodes members [] (numbered 2) → ⊥
not_later a = go (a.least (numbered 1) may_put)
  where
    go : IsBefore nodes (numbered 2) (numbered 1) → ⊥
    go (inl l) = absurd (omega (arith, l))
    go (inr e) = let l = e.1 in absurd (omega (arith, l))

-- one with fewer rows comes before, whatever its number
abbrev uneven : NodesState
uneven = nodes_of 2 1 (one ∷ map.empty ∷ [])

not_fuller : IsLeastNode uneven (fresh_members 2) [] (numbered 0) → ⊥
not_fuller a = go (a.least (numbered 1) (record { within = lit< tt; room = empty_room; spare = refl }))
  where
    empty_room : has_room uneven (fresh_members 2) (numbered 1) ≡ true
    empty_room = ap (λ (n : ℕ). nat_lt n 2) none_held

    go : IsBefore uneven (numbered 0) (numbered 1) → ⊥
    go (inl l) = absurd (omega (arith, l, one_held, none_held))
    go (inr e) = let l = e.0 in absurd (omega (arith, l, one_held, none_held))

-- ---- fewer rows than another
fewer_than_none : HoldsFewer nodes (numbered 0) None
fewer_than_none = tt

fewer : HoldsFewer nodes (numbered 1) (Some (numbered 0))
fewer = omega (arith, one_held, two_held)

not_fewer : HoldsFewer nodes (numbered 2) (Some (numbered 1)) → ⊥
not_fewer l = absurd (omega (arith, l))
