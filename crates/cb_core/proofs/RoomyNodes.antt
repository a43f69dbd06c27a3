-- Enough nodes have room for a set, whatever batch is leaving and whatever pair is joining, where few
-- nodes have crashed and few objects were made.
use Rattle.std.proofs.Common.{◌≡◌, ℕ, ◌+◌, ◌<◌, ◌≤◌, Bool, true, false, cond, not, nat_eq, ◌&&◌, List, [], ◌∷◌, length, get_or, Option, map, count_by, Contains, if◌then◌else◌, refl, sym, ap, ◌∙◌, arith, eq-eqb, lt-ltb}
use Rattle.std.specs.List.{range_with_len}
use Rattle.std.proofs.lemmas.Bool.{false≢true}
use Rattle.std.proofs.lemmas.List.{get_or-map, length-map}
use Rattle.std.proofs.lemmas.List.Folds.{list_any_at}
use Rattle.std.proofs.lemmas.List.FromFn.{length-range_with_len}
use Rattle.std.proofs.lemmas.List.Sums.{sum_by-cons}
use Rattle.cb_member.specs.declared.names.NodeId.{NodeId}
use Rattle.cb_member.specs.declared.names.Shard.{Shard}
use Rattle.cb_member.specs.Membership.{IsMembership, Membership, alive, fresh_node, node_state}
use Rattle.cb_node.specs.NodesState.{held}
use Rattle.cb_types.specs.declared.config.Config.{Config}
use Rattle.cb_world.specs.declared.shown.Shown.{Shown}
use Rattle.cb_world.specs.Choices.{has_room, numbered, room_count, stands_on}
use Rattle.cb_world.specs.FarState.{FarState}
use Rattle.cb_world.specs.Joining.{JoiningState}
use Rattle.cb_world.specs.Leaving.{LeavingState}
use Rattle.cb_world.specs.Sound.{Sound}
use Rattle.cb_world.specs.World.{IsConfigured}
use Rattle.cb_world.proofs.Laws.{few_pass}
use Rattle.cb_core.proofs.FewLost.{CrashedAmong}
use Rattle.cb_core.proofs.RowsHeld.{IsIdle, JoinsApart, count_of, held_few, idle_apart, one_most}

-- ---- a node that is down has crashed
down_crashed : (m : Membership) (node : NodeId) → IsMembership m → node.n < length m.nodes
    → alive m node ≡ false → 1 ≤ length (node_state m node).crashes
down_crashed m node is inside down =
    let ended = is.ended node.n fresh_node inside in
    let x = node_state m node in
    let over = ap (λ (b : Bool). if b then x.incarnation else x.incarnation + 1) down in
    omega (arith, ended, over)

-- ---- those that pass and those that do not are all
one_of : (b : Bool) → cond b 1 0 + cond (not b) 1 0 ≡ 1
one_of true = refl
one_of false = refl

both_count : (p : ℕ → Bool) (xs : List ℕ)
    → count_by p xs + count_by (λ n. not (p n)) xs ≡ length xs
both_count p [] = refl
both_count p (x ∷ xs) =
    let rest = both_count p xs in
    let one = one_of (p x) in
    let a = sum_by-cons (λ n. cond (p n) 1 0) x xs in
    let b = sum_by-cons (λ n. cond (not (p n)) 1 0) x xs in omega (arith, rest, one, a, b)

-- ---- a shard on each of the nodes
stand_in : ℕ → Shard
stand_in n = record { node = record { n = n }; incarnation = 0; key = 0 }

stands : (nodes : List ℕ) (n : ℕ) → Contains nodes n
    → stands_on (map stand_in nodes) (numbered n) ≡ true
unfolding stand_in
stands nodes n x =
    let len = length-map nodes stand_in in
    let below = x.1 in
    list_any_at (λ (shard : Shard). nat_eq shard.node.n n) (map stand_in nodes) x.0 (stand_in n)
    (omega (arith, below, len))
    (ap (λ (a : Shard). nat_eq a.node.n n) (get_or-map stand_in nodes x.0 n (stand_in n) below)
    ∙ eq-eqb (get_or nodes x.0 n) n x.2)

roomless : (b : Bool) → (b && true ≡ false) → b ≡ false
roomless true e = e
roomless false e = refl

was_false : (b : Bool) → not b ≡ true → b ≡ false
was_false true e = absurd (false≢true e)
was_false false e = refl

module _ (c : Config) (s : Shown) (far : FarState) (nodes : List ℕ) (sound : Sound s far)
    (configured : IsConfigured c far) (joins : JoinsApart far)
    (among : CrashedAmong nodes far.members)
    (few : far.made + count_of far.leaving + count_of far.joining < c.room) where
  -- a node without room has crashed
  full_crashed : (n : ℕ) → n < length far.nodes.nodes
      → has_room far.nodes far.members (numbered n) ≡ false → Contains nodes n
  full_crashed n below full =
      let rows = sound.away.sound.rows in
      let counted = rows.counted in
      let size = configured.room in
      let held_most = held_few s far sound joins (numbered n) in
      let room = lt-ltb (held far.nodes (numbered n)) far.nodes.room
      (omega (arith, few, held_most, size)) in
      among (numbered n) (down_crashed far.members (numbered n) rows.members
      (omega (arith, below, counted))
      (roomless (alive far.members (numbered n))
      (sym (ap (λ (b : Bool). alive far.members (numbered n) && b) room) ∙ full)))

  -- all nodes but so many have room, so a set finds nodes for its rows
  enough : (n : ℕ) → n + length nodes ≤ c.nodes → n ≤ room_count far.nodes far.members
  enough n many =
      let all = both_count (λ n. has_room far.nodes far.members (numbered n))
      (range_with_len 0 (length far.nodes.nodes)) in
      let count = length-range_with_len 0 (length far.nodes.nodes) in
      let most = few_pass (map stand_in nodes)
      (λ n. not (has_room far.nodes far.members (numbered n))) (length far.nodes.nodes)
      (λ n below full. stands nodes n (full_crashed n below
      (was_false (has_room far.nodes far.members (numbered n)) full))) in
      let len = length-map nodes stand_in in
      let configured_nodes = configured.nodes in
      omega (arith, all, count, most, len, configured_nodes, many)

-- where no batch is leaving and no pair is joining
pub enough_roomy : (c : Config) (s : Shown) (far : FarState) (nodes : List ℕ) → Sound s far
    → IsConfigured c far → IsIdle far → CrashedAmong nodes far.members → far.made < c.room
    → (n : ℕ) → n + length nodes ≤ c.nodes → n ≤ room_count far.nodes far.members
enough_roomy c s far nodes sound configured idle among few =
    let batch : count_of far.leaving ≡ 0 = ap (λ (o : Option LeavingState). count_of o) idle.0 in
    let pair : count_of far.joining ≡ 0 = ap (λ (o : Option JoiningState). count_of o) idle.1 in
    enough c s far nodes sound configured (idle_apart far idle) among (omega (arith, few, batch, pair))

-- and at any far state
pub enough_beside : (c : Config) (s : Shown) (far : FarState) (nodes : List ℕ) → Sound s far
    → IsConfigured c far → JoinsApart far → CrashedAmong nodes far.members → far.made + 2 < c.room
    → (n : ℕ) → n + length nodes ≤ c.nodes → n ≤ room_count far.nodes far.members
enough_beside c s far nodes sound configured joins among few =
    let batch = one_most far.leaving in
    let pair = one_most far.joining in
    enough c s far nodes sound configured joins among (omega (arith, few, batch, pair))
