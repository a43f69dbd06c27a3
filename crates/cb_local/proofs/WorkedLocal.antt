-- Worked examples of two sets that the compute side joins: a value that meets each definition, and
-- for each of its parts one that breaks that part alone.
use Rattle.std.proofs.Common.{◌≡◌, ℕ, ◌+◌, [], ◌∷◌, None, refl, ap, arith, inl}
use Rattle.cb_member.specs.declared.names.NodeId.{NodeId}
use Rattle.cb_set.specs.SetState.{parities}
use Rattle.cb_types.specs.declared.handle.SetId.{SetId}
use Rattle.cb_types.specs.declared.reply.Reply.{Reply}
use Rattle.cb_types.specs.declared.reply.Reply.TheVariants as answer
use Rattle.cb_world.specs.FarState.{FarState}
use Rattle.cb_world.proofs.Laws.{node}
use Rattle.cb_compact.specs.PairStep.{live_positions, set_numbered}
use Rattle.cb_compact.proofs.Laws.{first_fixed, full_turn, idle, joining, now_laws, paired, set_a, set_b}
use Rattle.cb_local.specs.Fetching.{far_given, rows_given}
use Rattle.cb_local.specs.LocalGoing.{IsJoinStopped}
use Rattle.cb_local.specs.LocalStep.{IsMergedHere, IsNotMerged, LocalStep}
use Rattle.cb_local.specs.Putting.{with_count}

-- ---- how many rows are given: two for a taken position, one for a parity
three_rows : rows_given (live_positions set_b) (parities set_a) ≡ 3
three_rows = refl

ten_rows : rows_given (0 ∷ 2 ∷ 3 ∷ []) 4 ≡ 10
ten_rows = refl

are_given : (far_given (idle 1) 3).nodes.given ≡ 3
are_given = refl

counted_as : (with_count (idle 1) 8).nodes.given ≡ 8
counted_as = refl

-- ---- a node that is full: the reply is that of the nodes' turn, and all is as it was
full_or_merged : (n : NodeId) (s : SetId) (m : ℕ) → answer.NodeFull n ≡ answer.Merged s m → ⊥
full_or_merged n s m e = cc

refused : IsNotMerged (idle 1) (idle 1) (idle 1) (answer.NodeFull (node 1))
refused = record { refusal = full_or_merged (node 1); state = refl }

not_where_sets_are_merged : (far mid new : FarState) (s : SetId) (m : ℕ)
    → IsNotMerged far mid new (answer.Merged s m) → ⊥
not_where_sets_are_merged far mid new s m x = x.refusal s m refl

full_here : LocalStep (idle 1) (idle 1) (answer.NodeFull (node 1))
full_here = record {
  mid = idle 1;
  same = full_turn;
  beside = inl refused;
  full = λ n e. refl;
}

no_row_given : IsNotMerged (idle 1) (idle 1) (far_given (idle 1) 3) (answer.NodeFull (node 1)) → ⊥
no_row_given x =
    let e : 3 ≡ 0 = ap (λ (f : FarState). f.nodes.given) x.state in omega (arith, e)

no_key_drawn : IsNotMerged (idle 1) (idle 1)
    (record (idle 1) { counts = record (idle 1).counts { keys = 99 } }) (answer.NodeFull (node 1))
    → ⊥
no_key_drawn x =
    let e : 99 ≡ (idle 1).counts.keys = ap (λ (f : FarState). f.counts.keys) x.state in
    omega (arith, e)

-- a full node leaves the far state as it was, whatever the nodes' turn leaves
left_as_it_was : LocalStep (idle 1) (far_given (idle 1) 3) (answer.NodeFull (node 1)) → ⊥
left_as_it_was x =
    let e : 3 ≡ 0 = ap (λ (f : FarState). f.nodes.given) (x.full (node 1) refl) in omega (arith, e)

-- no other reply than those of the nodes' turn
no_other_reply : (new : FarState) → LocalStep (idle 1) new answer.Stays → ⊥
no_other_reply new x = now_laws.answers (idle 1) x.mid answer.Stays x.same

-- ---- two sets that are merged: three rows are given
merged : IsMergedHere (idle 2) (idle 2) (far_given (idle 2) 3) (answer.Merged (set_numbered 2) 1)
merged = record {
  set = set_numbered 2;
  moved = 1;
  reply = refl;
  begun = joining 2;
  begins = answer.Pair (set_numbered 0) (set_numbered 1);
  pair = paired 2;
  state = refl;
}

not_told_as_full : (far mid new : FarState) → IsMergedHere far mid new (answer.NodeFull (node 1))
    → ⊥
not_told_as_full far mid new x = full_or_merged (node 1) x.set x.moved x.reply

-- not the rows of one set alone, and not none
not_two_rows : (r : Reply) → IsMergedHere (idle 2) (idle 2) (far_given (idle 2) 2) r → ⊥
not_two_rows r x =
    let same = first_fixed (idle 2) x.pair.x x.pair.y 0 1 x.pair.a x.pair.b set_a set_b
    x.pair.first (paired 2).first in
    let rows : rows_given (live_positions x.pair.b) (parities x.pair.a) ≡ 3 =
    (λ i. rows_given (live_positions (same.b_is i)) (parities (same.a_is i))) in
    let e : 2 ≡ 0 + rows_given (live_positions x.pair.b) (parities x.pair.a) =
    ap (λ (f : FarState). f.nodes.given) x.state in
    omega (arith, e, rows)

-- not where no two sets can be joined: one joins already
not_while_one_joins : (mid new : FarState) (r : Reply) → IsMergedHere (joining 2) mid new r → ⊥
not_while_one_joins mid new r x = some x.pair.none
  where
    some : (joining 2).joining ≡ None → ⊥
    some e = cc

-- ---- what want of memory leaves: at most 36 rows were given
stopped : IsJoinStopped (joining 2) (far_given (idle 2) 3)
stopped = record { rows = 3; few = omega arith; state = refl }

not_more_rows : IsJoinStopped (joining 2) (far_given (idle 2) 40) → ⊥
not_more_rows x =
    let few = x.few in
    let e : 40 ≡ 0 + x.rows = ap (λ (f : FarState). f.nodes.given) x.state in
    omega (arith, few, e)

not_with_the_pair : IsJoinStopped (joining 2) (joining 2) → ⊥
not_with_the_pair x = some (ap (λ (f : FarState). f.joining) x.state)
  where
    some : (joining 2).joining ≡ None → ⊥
    some e = cc
