-- The nodes that have crashed are among those that the crashes name; and where no batch is leaving
-- and no pair is joining, none is behind a turn that is no step of one.
use Rattle.std.proofs.Common.{◌≡◌, ◌⊎◌, ℕ, ◌+◌, ◌<◌, ◌≤◌, true, List, length, get_or, Contains, sym, ap, subst, arith, inl, inr, length-set, get_or-set_same, get_or-set_other}
use Rattle.std.proofs.lemmas.Bool.{cases_eq, cases_lt}
use Rattle.std.proofs.lemmas.List.{get_or-replicate, get_or_past, length-replicate}
use Rattle.cb_member.specs.declared.names.NodeId.{NodeId}
use Rattle.cb_member.specs.Membership.{Membership, NodeState, fresh_members, fresh_node, node_state, with_crash, with_join}
use Rattle.cb_types.specs.declared.job.Job.{Job}
use Rattle.cb_types.specs.declared.job.Job.TheVariants.{Crash, Join}
use Rattle.cb_types.specs.declared.reply.Reply.{Reply}
use Rattle.cb_world.specs.World.{WorldState}
use Rattle.cb_core.specs.Step.{TurnStep}
use Rattle.cb_core.proofs.Epochs.{turn_stands}
use Rattle.cb_core.proofs.FewLost.{CrashedAmong}
use Rattle.cb_core.proofs.NodesStay.{IsWholeJob, MembersAfter}
use Rattle.cb_core.proofs.RowsHeld.{IsIdle}

-- a node that the job crashes is one of these
abbrev pub NamesAmong : List ℕ → Job → Type 0
NamesAmong nodes (Crash node) = Contains nodes node.n
NamesAmong nodes job = Unit {0}

-- at first none has crashed
pub none_crashed : (nodes : List ℕ) (count : ℕ) → CrashedAmong nodes (fresh_members count)
none_crashed nodes count node some = absurd (by (cases_lt node.n count))
  where
    is_fresh : length (node_state (fresh_members count) node).crashes ≡ 0 → ⊥
    is_fresh e = omega (arith, some, e)

    by : (node.n < count) ⊎ (count ≤ node.n) → ⊥
    by (inl inside) = is_fresh (ap (λ (x : NodeState). length x.crashes)
        (get_or-replicate count node.n fresh_node fresh_node inside))
    by (inr outside) = is_fresh (ap (λ (x : NodeState). length x.crashes)
        (get_or_past (fresh_members count).nodes node.n fresh_node
        (let len = length-replicate count fresh_node in omega (arith, len, outside))))

-- ---- a crash and a join
crash_among : (nodes : List ℕ) (m : Membership) (node : NodeId) → Contains nodes node.n
    → CrashedAmong nodes m → CrashedAmong nodes (with_crash m node)
crash_among nodes m node named among other some = elim (cases_eq other.n node.n) [
  | inl e ↦ subst (Contains nodes) (sym e) named
  | inr off ↦ among other (subst (λ (x : NodeState). 1 ≤ length x.crashes)
      (get_or-set_other m.nodes node.n other.n _ fresh_node off) some)
]

-- the node's state behind a join
abbrev back_up : Membership → NodeId → NodeState
back_up m node = record {
  up = true;
  incarnation = (node_state m node).incarnation + 1;
  crashes = (node_state m node).crashes;
}

join_among : (nodes : List ℕ) (m : Membership) (node : NodeId) → CrashedAmong nodes m
    → CrashedAmong nodes (with_join m node)
join_among nodes m node among other some = elim (cases_eq other.n node.n) [
  | inl e ↦ subst (Contains nodes) (sym e) (here (subst (λ (n : ℕ).
      1 ≤ length (get_or (with_join m node).nodes n fresh_node).crashes) e some))
  | inr off ↦ among other (subst (λ (x : NodeState). 1 ≤ length x.crashes)
      (get_or-set_other m.nodes node.n other.n (back_up m node) fresh_node off) some)
]
  where
    here : 1 ≤ length (get_or (with_join m node).nodes node.n fresh_node).crashes
        → Contains nodes node.n
    here some = elim (cases_lt node.n (length m.nodes)) [
      | inl inside ↦ among node (subst (λ (x : NodeState). 1 ≤ length x.crashes)
          (get_or-set_same m.nodes node.n (back_up m node) fresh_node inside) some)
      | inr outside ↦
          let len = length-set m.nodes node.n (back_up m node) in
          let none = ap (λ (x : NodeState). length x.crashes)
          (get_or_past (with_join m node).nodes node.n fresh_node (omega (arith, len, outside))) in
          absurd (omega (arith, some, none))
    ]

members_among : (nodes : List ℕ) (job : Job) (old new : Membership) → NamesAmong nodes job
    → MembersAfter job old new → CrashedAmong nodes old → CrashedAmong nodes new
members_among nodes (Crash node) old new named (inl same) among =
    subst (CrashedAmong nodes) (sym same) among
members_among nodes (Crash node) old new named (inr next) among =
    subst (CrashedAmong nodes) (sym next) (crash_among nodes old node named among)
members_among nodes (Join node) old new named (inl same) among =
    subst (CrashedAmong nodes) (sym same) among
members_among nodes (Join node) old new named (inr next) among =
    subst (CrashedAmong nodes) (sym next) (join_among nodes old node among)
members_among nodes job old new named same among = subst (CrashedAmong nodes) (sym same) among

-- ---- a turn
pub turn_crashed : (nodes : List ℕ) (w new : WorldState) (job : Job) (r : Reply)
    → NamesAmong nodes job → TurnStep job w r new → CrashedAmong nodes w.far.members
    → CrashedAmong nodes new.far.members
turn_crashed nodes w new job r named step among = members_among nodes job w.far.members
    new.far.members named (turn_stands w new job r step).members among

pub turn_idle : (w new : WorldState) (job : Job) (r : Reply) → IsWholeJob job → TurnStep job w r new
    → IsIdle w.far → IsIdle new.far
turn_idle w new job r whole step idle = (turn_stands w new job r step).idle whole idle
