-- Worked examples of a step of the pair: a value that meets each definition, and for each of its
-- parts one that breaks that part alone.
use Rattle.std.proofs.Common.{◌≡◌, ℕ, zero, suc, ◌<◌, false, List, Option, None, Some, get_or, refl, sym, ap, ◌∙◌, subst, arith, lit<}
use Rattle.std.specs.List.{slice_get}
use Rattle.std.proofs.lemmas.Bool.{false≢true}
use Rattle.std.proofs.lemmas.Option.{same_Some}
use Rattle.cb_member.specs.declared.names.Shard.{Shard}
use Rattle.cb_node.specs.NodesState.{held, row_under}
use Rattle.cb_node.proofs.Laws.{row_is_put}
use Rattle.cb_types.specs.declared.reply.Reply.{Reply}
use Rattle.cb_types.specs.declared.reply.Reply.TheVariants as answer
use Rattle.cb_world.specs.FarState.{FarState}
use Rattle.cb_world.specs.Joining.{JoiningState}
use Rattle.cb_world.proofs.Laws.{node, row, row_byte, rows}
use Rattle.cb_gf256.specs.Rows.{row_at}
use Rattle.cb_compact.specs.PatchStep.{IsAllStepped, IsMergedRow, IsNext, IsNodeFull, IsOneStep, is_undone, shard_beside, with_stepped}
use Rattle.cb_compact.proofs.CompactFixed.{next_fixed}
use Rattle.cb_compact.proofs.WorkedGround.{all_up, far, ground, has_row, holds_one, merged_word, two, word_a, word_b}
use Rattle.cb_compact.proofs.WorkedMerge.{all_done}
use Rattle.cb_compact.proofs.WorkedPair.{begun, next_is_the_taken, not_the_parity_yet, on_node, set_a, set_b}

-- ---- the row: at a position that is taken it is b's
pub row_of_b : IsMergedRow ground begun set_a set_b 1 (row 0)
row_of_b wa wb m xa xb merged =
    same_Some (row 0) (row_at wb 1) (sym (has_row 4 0) ∙ xb.survive 1 (on_node 4) refl refl)
    ∙ sym (merged.chosen 1 (lit< tt))

not_another_row : IsMergedRow ground begun set_a set_b 1 (row 7) → ⊥
not_another_row x =
    let e = ap (λ (l : List ℕ). get_or l 0 0) (x rows rows rows word_a word_b merged_word) in
    let a = row_byte 7 0 (lit< tt) in let b = row_byte 0 0 (lit< tt) in omega (arith, e, a, b)

-- ---- one step
abbrev after : ℕ → ℕ → FarState
after beside byte = with_stepped ground begun 1 (shard_beside ground (on_node beside)) (row byte)

pub one_step : IsOneStep ground begun set_a set_b (after 1 0) (answer.Stepped 1)
one_step = record {
  position = 1;
  next = next_is_the_taken;
  old = on_node 1;
  at = refl;
  room = let h = holds_one 2 in omega (arith, h);
  row = row 0;
  merged = row_of_b;
  reply = refl;
  state = refl;
}

-- what is told
abbrev position_in : Reply → ℕ
position_in (answer.Stepped p) = p
position_in r = 20

abbrev node_in : Reply → ℕ
node_in (answer.NodeFull n) = n.n
node_in r = 20

not_behind_the_next : (new : FarState)
    → IsOneStep ground begun set_a set_b new (answer.Stepped 2) → ⊥
not_behind_the_next new x = not_the_parity_yet
    (subst (IsNext begun 2) (sym (ap position_in x.reply)) x.next)

not_told_as_full : (new : FarState)
    → IsOneStep ground begun set_a set_b new (answer.NodeFull (node 1)) → ⊥
not_told_as_full new x = let e : 1 ≡ 20 = ap node_in x.reply in omega (arith, e)

not_where_no_room_is : (new : FarState) (r : Reply)
    → IsOneStep (far (two set_a set_b) all_up 0 (Some begun)) begun set_a set_b new r → ⊥
not_where_no_room_is new r x = let l = x.room in omega (arith, l)

-- what a step of the position leaves
record LeavesStep (new : FarState) : Type 0 where
  put : List ℕ
  merged : IsMergedRow ground begun set_a set_b 1 put
  state : new ≡ with_stepped ground begun 1 (shard_beside ground (on_node 1)) put

leaves : (new : FarState) → IsOneStep ground begun set_a set_b new (answer.Stepped 1)
    → LeavesStep new
leaves new x =
    let at : x.position ≡ 1 = sym (ap position_in x.reply) in
    let old : x.old ≡ on_node 1 =
    same_Some x.old (on_node 1) (sym x.at ∙ ap (slice_get begun.shards_a) at) in record {
      put = x.row;
      merged = subst (λ (p : ℕ). IsMergedRow ground begun set_a set_b p x.row) at x.merged;
      state = x.state ∙ (λ i. with_stepped ground begun (at i) (shard_beside ground (old i)) x.row);
    }

-- the node of the shard of position 1
abbrev of_step : Option Shard → ℕ
of_step None = 20
of_step (Some shard) = shard.node.n

abbrev stepped_on : Option JoiningState → ℕ
stepped_on None = 20
stepped_on (Some pair) = of_step (get_or pair.steps 1 None)

not_beside_another : IsOneStep ground begun set_a set_b (after 0 0) (answer.Stepped 1) → ⊥
not_beside_another x = let e : 0 ≡ 1 =
    ap (λ (f : FarState). stepped_on f.joining) (leaves (after 0 0) x).state in omega (arith, e)

no_other_row_is_put : IsOneStep ground begun set_a set_b (after 1 7) (answer.Stepped 1) → ⊥
no_other_row_is_put x =
    let y = leaves (after 1 7) x in
    let same : row 7 ≡ y.put = same_Some (row 7) y.put
    (sym (row_is_put ground.nodes (node 1) 6 (row 7) (lit< tt))
    ∙ ap (λ (f : FarState). row_under f.nodes (node 1) 6) y.state
    ∙ row_is_put ground.nodes (node 1) 6 y.put (lit< tt)) in
    not_another_row (subst (IsMergedRow ground begun set_a set_b 1) (sym same) y.merged)

draws_a_key : IsOneStep ground begun set_a set_b (record (after 1 0) { counts = ground.counts })
    (answer.Stepped 1) → ⊥
draws_a_key x = let e : 6 ≡ 7 = ap (λ (f : FarState). f.counts.keys)
    (leaves (record (after 1 0) { counts = ground.counts }) x).state in omega (arith, e)

-- ---- a full node: each node holds one row
abbrev full : FarState
full = far (two set_a set_b) all_up 1 (Some begun)

pub node_is_full : IsNodeFull full begun set_a full (answer.NodeFull (node 1))
node_is_full = record {
  position = 1;
  next = next_is_the_taken;
  old = on_node 1;
  at = refl;
  full = holds_one 1;
  reply = refl;
  state = refl;
}

pub done_at : (p : ℕ) → p < 3 → is_undone all_done 2 p ≡ false
done_at zero l = refl
done_at (suc zero) l = refl
done_at (suc (suc zero)) l = refl
done_at (suc (suc (suc p))) l = absurd (omega (arith, l))

not_once_all_is_done : (r : Reply) → IsNodeFull full all_done set_a full r → ⊥
not_once_all_is_done r x =
    false≢true (sym (done_at x.position x.next.within) ∙ x.next.undone)

-- the shard that a has at the next position
old_is : (far new : FarState) (r : Reply) (x : IsNodeFull far begun set_a new r) → x.old ≡ on_node 1
old_is far new r x = same_Some x.old (on_node 1) (sym x.at
    ∙ ap (slice_get begun.shards_a) (next_fixed begun 2 x.position 1 x.next next_is_the_taken))

not_another_node : IsNodeFull full begun set_a full (answer.NodeFull (node 0)) → ⊥
not_another_node x =
    let e : 0 ≡ x.old.node.n = ap node_in x.reply in
    let f = ap (λ (s : Shard). s.node.n) (old_is full full (answer.NodeFull (node 0)) x) in
    omega (arith, e, f)

not_where_room_is : IsNodeFull ground begun set_a ground (answer.NodeFull (node 1)) → ⊥
not_where_room_is x =
    let e : held ground.nodes x.old.node ≡ 2 = x.full in
    let f = ap (λ (s : Shard). held ground.nodes s.node)
    (old_is ground ground (answer.NodeFull (node 1)) x) in
    let h = holds_one 2 in omega (arith, e, f, h)

not_told_as_stepped : IsNodeFull full begun set_a full (answer.Stepped 1) → ⊥
not_told_as_stepped x = let e : 1 ≡ 20 = ap position_in x.reply in omega (arith, e)

full_changes_nothing : IsNodeFull full begun set_a (record full { made = 10 })
    (answer.NodeFull (node 1)) → ⊥
full_changes_nothing x = let e : 10 ≡ 9 = ap (λ (f : FarState). f.made) x.state in omega (arith, e)

-- ---- every step is done
pub all_are_stepped : IsAllStepped ground all_done set_a ground answer.AllStepped
all_are_stepped = record { done = done_at; reply = refl; state = refl }

not_before_they_are : IsAllStepped ground begun set_a ground answer.AllStepped → ⊥
not_before_they_are x = false≢true (sym (x.done 1 (lit< tt)) ∙ refl)

not_told_otherwise : IsAllStepped ground all_done set_a ground (answer.Stepped 1) → ⊥
not_told_otherwise x = let e : 1 ≡ 20 = ap position_in x.reply in omega (arith, e)

done_changes_nothing : IsAllStepped ground all_done set_a (record ground { made = 10 })
    answer.AllStepped → ⊥
done_changes_nothing x = let e : 10 ≡ 9 = ap (λ (f : FarState). f.made) x.state in omega (arith, e)
