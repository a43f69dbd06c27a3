-- New members have had no crash and no join.
use Rattle.std.proofs.Common.{◌≡◌, ℕ, ◌^◌, ◌<◌, length, None, replicate, refl, ap, sym, ◌∙◌, arith, inl, inr}
use Rattle.std.specs.Prelude.{slice_get}
use Rattle.std.proofs.lemmas.Bool.{cases_lt}
use Rattle.std.proofs.lemmas.Option.{none-some}
use Rattle.std.proofs.lemmas.List.{get_or-replicate, get_or_past, length-replicate}
use Rattle.std.proofs.lemmas.List.Elements.{All-replicate}
use Rattle.std.proofs.lemmas.List.Folds.{sum_by-replicate}
use Rattle.cb_member.specs.declared.names.NodeId.{NodeId}
use Rattle.cb_member.specs.Membership.{NodeState, fresh_node, fresh_members, node_state, crashed_at, events_of, ended_incarnations, IsMembership}

-- every node is fresh
pub state_of-fresh : (count : ℕ) (node : NodeId)
    → node_state (fresh_members count) node ≡ fresh_node
state_of-fresh count node = elim (cases_lt node.n count) [
  | inl within ↦ get_or-replicate count node.n fresh_node fresh_node within
  | inr past ↦
      get_or_past (replicate count fresh_node) node.n fresh_node
      (omega (arith, length-replicate {A = NodeState} count fresh_node))
]

-- so none has crashed
pub crashed_at-fresh : (count : ℕ) (node : NodeId) (which : ℕ)
    → crashed_at (fresh_members count) node which ≡ None
crashed_at-fresh count node which = ap (λ s. slice_get s.crashes which) (state_of-fresh count node)

pub fresh-IsMembership : (count : ℕ) → count < 2 ^ 32 → IsMembership (fresh_members count)
fresh-IsMembership count small = record {
  numbered = omega (arith, small, length-replicate {A = NodeState} count fresh_node);
  counted = omega (arith, sum_by-replicate events_of count fresh_node);
  ended = All-replicate (λ s. length s.crashes ≡ ended_incarnations s) count fresh_node refl;
  in_range = λ node which e at.
      absurd (none-some e (sym (crashed_at-fresh count node which) ∙ at));
  rising = λ node i j d e before at_i at_j.
      absurd (none-some d (sym (crashed_at-fresh count node i) ∙ at_i));
  apart = λ a b i j d e other at_i at_j.
      absurd (none-some d (sym (crashed_at-fresh count a i) ∙ at_i));
}
