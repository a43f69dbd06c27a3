-- Worked examples: the shard of a position of the first set, and for each part what breaks it alone.
use Rattle.std.proofs.Common.{◌≡◌, ℕ, ◌≤◌, true, [], ◌∷◌, None, Some, refl, sym, ap, ◌∙◌, subst, arith, lit≤}
use Rattle.std.specs.List.{slice_get}
use Rattle.std.specs.FinMap as map
use Rattle.std.specs.Ordering.{nat_cmp}
use Rattle.std.proofs.lemmas.Option.{none-some, same_Some}
use Rattle.cb_member.specs.declared.names.Shard.{Shard}
use Rattle.cb_set.specs.SetState.{SetState, dead_position, parities, set_of}
use Rattle.cb_types.specs.declared.config.Config.{Config}
use Rattle.cb_world.specs.Empty.{empty_far}
use Rattle.cb_world.specs.FarState.{FarState}
use Rattle.cb_world.specs.Sets.{SetMap, if_committed, set_in}
use Rattle.cb_world_tests.specs.Shards.{IsFirstSets}

abbrev config : Config
config = record { k = 1; r = 2; nodes = 4; frames = 2; room = 4; handles = 2; turns = 0 }

abbrev on : ℕ → ℕ → Shard
on n key = record { node = record { n = n }; incarnation = 0; key = key }

-- a data position with two parities, and with one
abbrev set : SetState
set = set_of 0 1 (on 0 7 ∷ on 1 8 ∷ on 2 9 ∷ []) (dead_position ∷ [])

abbrev thin : SetState
thin = set_of 0 1 (on 0 7 ∷ on 1 8 ∷ []) (dead_position ∷ [])

abbrev only : SetState → SetMap
only one = map.insert map.empty 0 (record { set = one; committed = true })

-- a far state with this set alone
abbrev with_set : SetState → FarState
with_set one = record (empty_far 1 config) { sets = only one }

there : (one : SetState) → set_in (only one) 0 ≡ Some one
there one = grind (arith, map.gets)

second : IsFirstSets (with_set set) 1 (on 1 8)
second = record { set = set; committed = there set; two = lit≤ tt; at = refl }

no_set : IsFirstSets (empty_far 1 config) 1 (on 1 8) → ⊥
no_set is =
    let none : set_in map.empty 0 ≡ None = ap if_committed (map.get-empty nat_cmp 0) in
    none-some is.set (sym none ∙ is.committed)

one_parity : IsFirstSets (with_set thin) 1 (on 1 8) → ⊥
one_parity is =
    let same : thin ≡ is.set = same_Some thin is.set (sym (there thin) ∙ is.committed) in
    let two : 2 ≤ 1 = subst (λ (one : SetState). 2 ≤ parities one) (sym same) is.two in
    omega (arith, two)

of_another_position : IsFirstSets (with_set set) 1 (on 2 9) → ⊥
of_another_position is =
    let same : set ≡ is.set = same_Some set is.set (sym (there set) ∙ is.committed) in
    let at : Some (on 1 8) ≡ Some (on 2 9) =
    ap (λ (one : SetState). slice_get one.shards 1) same ∙ is.at in
    let e : 1 ≡ 2 = ap (λ (s : Shard). s.node.n) (same_Some (on 1 8) (on 2 9) at) in
    absurd (omega (arith, e))
