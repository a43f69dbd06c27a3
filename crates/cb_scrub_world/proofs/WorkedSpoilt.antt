-- Worked examples: a world of which one row is spoilt, and one that is sound again.
use Rattle.std.proofs.Common.{◌≡◌, ℕ, zero, suc, ◌<◌, ◌≤◌, true, [], ◌∷◌, None, Some, refl, sym, ap, ◌∙◌, subst, arith, lit≤, lit<}
use Rattle.std.specs.List.{slice_get}
use Rattle.std.specs.FinMap as map
use Rattle.std.specs.Ordering.{nat_cmp}
use Rattle.std.proofs.lemmas.Option.{none-some, same_Some}
use Rattle.cb_member.specs.declared.names.NodeId.{NodeId}
use Rattle.cb_member.specs.declared.names.Shard.{Shard}
use Rattle.cb_node.specs.NodesState.{NodesState, with_row, row_under}
use Rattle.cb_node.proofs.Laws.{row_is_put, put_keeps_other_rows}
use Rattle.cb_set.specs.SetState.{SetState, dead_position, parities, set_of}
use Rattle.cb_types.specs.declared.config.Config.{Config}
use Rattle.cb_world.specs.Empty.{empty_far, empty_shown}
use Rattle.cb_world.specs.FarState.{FarState}
use Rattle.cb_world.specs.Fetched.{with_rows_given}
use Rattle.cb_world.specs.Sets.{SetMap, set_in}
use Rattle.cb_world.specs.declared.shown.Shown.{Shown}
use Rattle.cb_world.proofs.Laws.{empty_sound}
use Rattle.cb_scrub_world.specs.Scrub.{with_nodes}
use Rattle.cb_scrub_world.specs.Spoilt.{IsSoundAgain, IsSpoilt}
use Rattle.cb_scrub_world.proofs.Restored.{as_sound}

abbrev config : Config
config = record { k = 1; r = 2; nodes = 4; frames = 2; room = 4; handles = 2; turns = 0 }

abbrev node : ℕ → NodeId
node n = record { n = n }

abbrev on : ℕ → ℕ → Shard
on n key = record { node = node n; incarnation = 0; key = key }

-- a data position with two parities, and with one
abbrev set : SetState
set = set_of 0 1 (on 0 7 ∷ on 1 8 ∷ on 2 9 ∷ []) (dead_position ∷ [])

abbrev thin : SetState
thin = set_of 0 1 (on 0 7 ∷ on 1 8 ∷ []) (dead_position ∷ [])

abbrev only : SetState → SetMap
only one = map.insert map.empty 0 (record { set = one; committed = true })

-- a far state with this set alone
abbrev with_set : SetState → FarState
with_set one = record (empty_far 1 config) { sets = only one }

there : (one : SetState) → set_in (only one) 0 ≡ Some one
there one = grind (arith, map.gets)

not_there : (one : SetState) → set_in (only one) 1 ≡ None
not_there one = grind (arith, map.gets)

-- the row 5 stands at a node under a key
abbrev changed : SetState → ℕ → ℕ → FarState
changed one n key =
    with_nodes (with_set one) (with_row (with_set one).nodes (node n) key (5 ∷ []))

-- ---- one row is spoilt
is_spoilt : IsSpoilt (with_set set) 0 (changed set 1 8)
is_spoilt = record {
  set = set;
  committed = there set;
  two = lit≤ tt;
  position = 1;
  shard = on 1 8;
  at = refl;
  row = 5 ∷ [];
  spoilt = refl;
}

-- of no set
of_no_set : IsSpoilt (with_set set) 1 (changed set 1 8) → ⊥
of_no_set is = none-some is.set (sym (not_there set) ∙ is.committed)

-- of a set with one parity
one_parity : IsSpoilt (with_set thin) 0 (changed thin 1 8) → ⊥
one_parity is =
    let same : thin ≡ is.set = same_Some thin is.set (sym (there thin) ∙ is.committed) in
    let two : 2 ≤ 1 = subst (λ (one : SetState). 2 ≤ parities one) (sym same) is.two in
    omega (arith, two)

-- the set's shards stand on the first three nodes
low : (n key : ℕ) (shard : Shard) → n < 3 → Some (on n key) ≡ Some shard → shard.node.n < 3
low n key shard below at =
    subst (λ (s : Shard). s.node.n < 3) (same_Some (on n key) shard at) below

on_first_three : (p : ℕ) (shard : Shard) → slice_get set.shards p ≡ Some shard → shard.node.n < 3
on_first_three zero shard at = low 0 7 shard (lit< tt) at
on_first_three (suc zero) shard at = low 1 8 shard (lit< tt) at
on_first_three (suc (suc zero)) shard at = low 2 9 shard (lit< tt) at
on_first_three (suc (suc (suc p))) shard at = absurd (none-some shard at)

-- at a node where the set has no row
on_another_node : IsSpoilt (with_set set) 0 (changed set 3 7) → ⊥
on_another_node is =
    let nodes : NodesState = (with_set set).nodes in
    let same : set ≡ is.set = same_Some set is.set (sym (there set) ∙ is.committed) in
    let few : is.shard.node.n < 3 = on_first_three is.position is.shard
    (ap (λ (one : SetState). slice_get one.shards is.position) same ∙ is.at) in
    let put : NodesState = with_row nodes is.shard.node is.shard.key is.row in
    let absent : row_under put (node 3) 7 ≡ None =
    put_keeps_other_rows nodes is.shard.node (node 3) is.shard.key 7 is.row (omega (arith, few))
    (λ both. let e : 3 ≡ is.shard.node.n = both.0 in omega (arith, e, few))
    ∙ map.get-empty nat_cmp 7 in
    let present : row_under put (node 3) 7 ≡ Some (5 ∷ []) =
    ap (λ (f : FarState). row_under f.nodes (node 3) 7) (sym is.spoilt)
    ∙ row_is_put nodes (node 3) 7 (5 ∷ []) (lit< tt) in
    none-some (5 ∷ []) (sym absent ∙ present)

-- and a row was given out as well
abbrev given_too : FarState
given_too = with_nodes (with_set set) (with_rows_given (changed set 1 8).nodes 1)

one_given : IsSpoilt (with_set set) 0 given_too → ⊥
one_given is =
    let e : 1 ≡ 0 = ap (λ (f : FarState). f.nodes.given) is.spoilt in absurd (omega (arith, e))

-- ---- a world that is sound again
abbrev empty : FarState
empty = empty_far 1 config

abbrev shown : Shown
shown = empty_shown 1 config

-- three rows were given out
abbrev given_three : FarState
given_three = with_nodes empty (with_rows_given empty.nodes 3)

is_sound_again : IsSoundAgain shown empty given_three
is_sound_again = as_sound shown empty given_three (empty_sound 1 config (lit≤ tt) (lit< tt)) refl

-- nodes with room for a row more
more_room : IsSoundAgain shown empty (with_nodes empty (record empty.nodes { room = 5 })) → ⊥
more_room again =
    let e : 5 ≡ 4 = ap (λ (f : FarState). f.nodes.room) again.as_was in absurd (omega (arith, e))

-- as it was, and it was not sound
abbrev no_node : FarState
no_node = with_nodes empty (record empty.nodes { nodes = [] })

not_sound : IsSoundAgain shown no_node no_node → ⊥
not_sound again = let e : 0 ≡ 4 = again.sound.away.sound.rows.counted in absurd (omega (arith, e))
