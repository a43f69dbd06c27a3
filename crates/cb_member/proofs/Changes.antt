-- Which nodes are up and in which incarnation, after a crash and after a join.
use Rattle.std.proofs.Common.{◌≡◌, ◌≢◌, ◌+◌, ◌<◌, true, false, length, ap, sym, ◌∙◌, inl, inr}
use Rattle.std.proofs.lemmas.Bool.{cases_eq}
use Rattle.std.proofs.lemmas.List.{length-set}
use Rattle.cb_member.specs.declared.names.NodeId.{NodeId}
use Rattle.cb_member.specs.Membership.{Membership, NodeState, alive, incarnation, with_crash, with_join}
use Rattle.cb_member.proofs.Crashes.{state_of-with_state_here, state_of-with_state_other}
use Rattle.cb_member.proofs.Valid.{same_node}

pub crash_keeps_count : (m : Membership) (node : NodeId)
    → length (with_crash m node).nodes ≡ length m.nodes
crash_keeps_count m node = length-set m.nodes node.n _

pub join_keeps_count : (m : Membership) (node : NodeId)
    → length (with_join m node).nodes ≡ length m.nodes
join_keeps_count m node = length-set m.nodes node.n _

-- a node that crashed is down, and every other is up as before
pub crash_takes_down : (m : Membership) (node : NodeId) → node.n < length m.nodes
    → alive (with_crash m node) node ≡ false
crash_takes_down m node within =
    ap (λ (s : NodeState). s.up) (state_of-with_state_here m node _ within)

pub crash_keeps_others : (m : Membership) (node other : NodeId) → other.n ≢ node.n
    → alive (with_crash m node) other ≡ alive m other
crash_keeps_others m node other apart =
    ap (λ (s : NodeState). s.up) (state_of-with_state_other m node other _ apart)

-- a crash leaves the incarnations
pub crash_keeps_incarnations : (m : Membership) (node other : NodeId) → node.n < length m.nodes
    → incarnation (with_crash m node) other ≡ incarnation m other
crash_keeps_incarnations m node other within = elim (cases_eq other.n node.n) [
  | inl same ↦
      let one = same_node other node same in
      ap (incarnation (with_crash m node)) one
      ∙ ap (λ (s : NodeState). s.incarnation) (state_of-with_state_here m node _ within)
      ∙ ap (incarnation m) (sym one)
  | inr apart ↦
      ap (λ (s : NodeState). s.incarnation) (state_of-with_state_other m node other _ apart)
]

-- a node that joined is up in its next incarnation, and every other is as before
pub join_brings_up : (m : Membership) (node : NodeId) → node.n < length m.nodes
    → alive (with_join m node) node ≡ true
join_brings_up m node within =
    ap (λ (s : NodeState). s.up) (state_of-with_state_here m node _ within)

pub join_raises_incarnation : (m : Membership) (node : NodeId) → node.n < length m.nodes
    → incarnation (with_join m node) node ≡ incarnation m node + 1
join_raises_incarnation m node within =
    ap (λ (s : NodeState). s.incarnation) (state_of-with_state_here m node _ within)

pub join_keeps_others : (m : Membership) (node other : NodeId) → other.n ≢ node.n
    → (alive (with_join m node) other ≡ alive m other)
    × (incarnation (with_join m node) other ≡ incarnation m other)
join_keeps_others m node other apart =
    let same = state_of-with_state_other m node other _ apart in
    (ap (λ (s : NodeState). s.up) same, ap (λ (s : NodeState). s.incarnation) same)
