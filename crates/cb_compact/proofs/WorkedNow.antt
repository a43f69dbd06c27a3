-- Worked examples of a pair that is joined in one turn: a value that meets each definition, and for
-- each of its parts one that breaks that part alone.
use Rattle.std.proofs.Common.{◌≡◌, ℕ, ◌<◌, true, false, List, [], ◌∷◌, Option, None, Some, length, refl, sym, ap, ◌∙◌, subst, arith, inl, inr, lit<, lit≤}
use Rattle.std.specs.FinMap as map
use Rattle.std.specs.List.{slice_get}
use Rattle.std.proofs.lemmas.Bool.{false≢true}
use Rattle.std.proofs.lemmas.Option.{none-some, same_Some}
use Rattle.cb_member.specs.declared.names.NodeId.{NodeId}
use Rattle.cb_member.specs.declared.names.Shard.{Shard}
use Rattle.cb_node.specs.NodesState.{held, row_under}
use Rattle.cb_node.proofs.Laws.{row_is_put}
use Rattle.cb_set.specs.SetState.{SetState}
use Rattle.cb_types.specs.declared.handle.SetId.{SetId}
use Rattle.cb_types.specs.declared.reply.Reply.{Reply}
use Rattle.cb_types.specs.declared.reply.Reply.TheVariants as answer
use Rattle.cb_world.specs.FarState.{FarState}
use Rattle.cb_world.specs.Joining.{JoiningState}
use Rattle.cb_world.specs.JoinSteps.{with_step}
use Rattle.cb_world.proofs.Laws.{node, row}
use Rattle.cb_compact.specs.MergeStep.{MergeStep, with_merged}
use Rattle.cb_compact.specs.NowGoing.{EndsFrom, GoesTo, HasGone, IsUndone, TriesStep}
use Rattle.cb_compact.specs.CompactStep.{AreStepped, CompactStep, EndsFull, EndsMerged, GoesThrough, PairEnds}
use Rattle.cb_compact.specs.PairStep.{IsPaired, PairStep, set_numbered}
use Rattle.cb_compact.specs.PartStep.{IsFreshPair, PartStep, with_parted}
use Rattle.cb_compact.specs.PatchStep.{AreDone, IsNodeFull, IsOneStep, PatchStep, TakesStep, is_undone, shard_beside, with_stepped}
use Rattle.cb_compact.proofs.CompactFixed.{begins_fixed, next_fixed}
use Rattle.cb_compact.proofs.CompactSound.{at_pair}
use Rattle.cb_compact.proofs.NowLaws.{got_merged, took_one}
use Rattle.cb_compact.proofs.Ready.{same_fresh}
use Rattle.cb_compact.proofs.WorkedBegin.{a_or_b}
use Rattle.cb_compact.proofs.WorkedGround.{all_up, far, first_of, ground, holds_one, homes_in, second_of, two}
use Rattle.cb_compact.proofs.WorkedMerge.{all_done}
use Rattle.cb_compact.proofs.WorkedCommit.{is_merged}
use Rattle.cb_compact.proofs.WorkedPair.{begun, next_is_the_taken, on_node, set_a, set_b, stepped}
use Rattle.cb_compact.proofs.WorkedPatch.{node_is_full, one_step}

-- ---- two sets on nodes that have room for so many rows, of which each holds one
abbrev pub idle : ℕ → FarState
idle room = far (two set_a set_b) all_up room None

-- the pair has begun
abbrev pub joining : ℕ → FarState
joining room = far (two set_a set_b) all_up room (Some begun)

fresh : (room : ℕ) → IsFreshPair (joining room) begun set_a set_b
fresh room = record {
  was = refl;
  a_stands = record { there = first_of set_a set_b; same = refl; whole = refl };
  b_stands = record { there = second_of set_a set_b; same = refl; whole = refl };
}

abbrev pub paired : (room : ℕ)
    → IsPaired (idle room) (joining room) (answer.Pair (set_numbered 0) (set_numbered 1))
paired room = record {
  none = refl;
  x = 0;
  y = 1;
  a = set_a;
  b = set_b;
  first = record {
    above = omega arith;
    can = record {
      a_there = first_of set_a set_b;
      b_there = second_of set_a set_b;
      data_count = refl;
      parity_count = refl;
      matched = record { whole_a = refl; whole_b = refl; pages = refl; apart = a_or_b };
    };
    least_a = λ i j c d l x. omega arith;
    least_b = λ j c d l x. omega (arith, l);
  };
  reply = refl;
  state = refl;
}

begins : (room : ℕ) → PairStep (idle room) (joining room)
    (answer.Pair (set_numbered 0) (set_numbered 1))
begins room = inr (inr (paired room))

-- ---- a node that is full
full_step : PatchStep (joining 1) (joining 1) (answer.NodeFull (node 1))
full_step = inr (inr (record {
  pair = begun;
  a = set_a;
  b = set_b;
  fresh = fresh 1;
  takes = inr (inl node_is_full);
}))

parted : PartStep (joining 1) (idle 1) answer.Done
parted = inr (record { pair = begun; there = refl; reply = refl; state = refl })

ends_full : EndsFull (joining 1) (idle 1) (answer.NodeFull (node 1))
ends_full = record { node = node 1; full = full_step; parted = parted; reply = refl }

-- what is told of a full node
record FoundFull (f : FarState) (n : NodeId) : Type 0 where
  pair : JoiningState
  a : SetState
  b : SetState
  stands : IsFreshPair f pair a b
  full : IsNodeFull f pair a f (answer.NodeFull n)

found_full : (f : FarState) (n : NodeId) → PatchStep f f (answer.NodeFull n) → FoundFull f n
found_full f n (inl x) = absurd (other x.reply)
  where
    other : answer.NodeFull n ≡ answer.NoJoin → ⊥
    other e = cc
found_full f n (inr (inl x)) = absurd (other x.reply)
  where
    other : answer.NodeFull n ≡ answer.Changed (set_numbered x.id) → ⊥
    other e = cc
found_full f n (inr (inr x)) = by x.takes
  where
    by : TakesStep f x.pair x.a x.b f (answer.NodeFull n) → FoundFull f n
    by (inl y) = absurd (other y.reply)
      where
        other : answer.NodeFull n ≡ answer.AllStepped → ⊥
        other e = cc
    by (inr (inl y)) = record { pair = x.pair; a = x.a; b = x.b; stands = x.fresh; full = y }
    by (inr (inr y)) = absurd (other y.reply)
      where
        other : answer.NodeFull n ≡ answer.Stepped y.position → ⊥
        other e = cc

node_same : (x y : NodeId) → answer.NodeFull x ≡ answer.NodeFull y → x ≡ y
node_same x y e = cc

-- it is the node of a's next position, and has no room
is_node_one : (room : ℕ) (n : NodeId) → PatchStep (joining room) (joining room) (answer.NodeFull n)
    → (n ≡ node 1) × (1 ≡ room)
is_node_one room n step =
    let x = found_full (joining room) n step in
    let same = same_fresh (joining room) x.pair begun x.a x.b set_a set_b x.stands (fresh room) in
    let full = subst (λ (p : JoiningState). IsNodeFull (joining room) p set_a (joining room)
    (answer.NodeFull n)) same.pairs
    (subst (λ (s : SetState). IsNodeFull (joining room) x.pair s (joining room) (answer.NodeFull n))
    same.a_is x.full) in
    let at = next_fixed begun 2 full.position 1 full.next next_is_the_taken in
    let old : full.old ≡ on_node 1 = same_Some full.old (on_node 1)
    (sym full.at ∙ ap (slice_get begun.shards_a) at) in (
      node_same n full.old.node full.reply ∙ ap (λ (s : Shard). s.node) old,
      sym (holds_one room) ∙ sym (ap (λ (s : Shard). held (joining room).nodes s.node) old)
          ∙ full.full,
    )

not_another_node : EndsFull (joining 1) (idle 1) (answer.NodeFull (node 0)) → ⊥
not_another_node x =
    let e = ap (λ (n : NodeId). n.n) (node_same (node 0) x.node x.reply) in
    let f = ap (λ (n : NodeId). n.n) (is_node_one 1 x.node x.full).0 in omega (arith, e, f)

-- a pair is not kept for it
kept_pair : (q : JoiningState) → Some q ≡ None → ⊥
kept_pair q e = cc

done_or_none : answer.Done ≡ answer.NoJoin → ⊥
done_or_none e = cc

not_kept : (f : FarState) (q : JoiningState) → f.joining ≡ Some q → PartStep f f answer.Done → ⊥
not_kept f q there (inl x) = done_or_none x.reply
not_kept f q there (inr x) = kept_pair q (sym there ∙ ap (λ (g : FarState). g.joining) x.state)

not_with_the_pair : EndsFull (joining 1) (joining 1) (answer.NodeFull (node 1)) → ⊥
not_with_the_pair x = not_kept (joining 1) begun refl x.parted

not_where_room_is : (n : NodeId) → EndsFull (joining 2) (idle 2) (answer.NodeFull n) → ⊥
not_where_room_is n x = let e = (is_node_one 2 x.node x.full).1 in omega (arith, e)

full_or_done : (n : NodeId) → answer.Done ≡ answer.NodeFull n → ⊥
full_or_done n e = cc

not_told_as_done : EndsFull (joining 1) (idle 1) answer.Done → ⊥
not_told_as_done x = full_or_done x.node x.reply

-- ---- the whole turn, where the first node is full
goes : GoesThrough (idle 1) (idle 1) (answer.NodeFull (node 1))
goes = record {
  a = set_numbered 0;
  b = set_numbered 1;
  begun = joining 1;
  paired = begins 1;
  done = [];
  stepped = joining 1;
  steps = refl;
  ends = inl ends_full;
}

pub full_turn : CompactStep (idle 1) (idle 1) (answer.NodeFull (node 1))
full_turn = inr (inr goes)

-- no pair may be joining before
not_while_one_joins : (new : FarState) (r : Reply) → GoesThrough (joining 1) new r → ⊥
not_while_one_joins new r x =
    kept_pair begun (at_pair (joining 1) x.begun x.a x.b x.paired).none

-- then it is told which one
told_of_the_pair : CompactStep (joining 1) (joining 1)
    (answer.Joining (set_numbered 0) (set_numbered 1))
told_of_the_pair = inl (record { pair = begun; there = refl; reply = refl; state = refl })

full_or_merged : (n : NodeId) (s : SetId) (m : ℕ) → answer.NodeFull n ≡ answer.Merged s m → ⊥
full_or_merged n s m e = cc

-- ---- steps
-- none leaves all as it is, and no more
none_taken : AreStepped (joining 1) [] (joining 1)
none_taken = refl

not_changed_by_none : AreStepped (joining 1) [] (idle 1) → ⊥
not_changed_by_none e = kept_pair begun (sym (ap (λ (f : FarState). f.joining) e))

-- the first one is b's position
abbrev first_put : FarState
first_put = with_stepped ground begun 1 (shard_beside ground (on_node 1)) (row 0)

first_step : PatchStep ground first_put (answer.Stepped 1)
first_step = inr (inr (record {
  pair = begun;
  a = set_a;
  b = set_b;
  fresh = fresh 2;
  takes = inr (inr one_step);
}))

one_taken : AreStepped ground (1 ∷ []) first_put
one_taken = (first_put, first_step, refl)

stepped_same : (p q : ℕ) → answer.Stepped p ≡ answer.Stepped q → p ≡ q
stepped_same p q e = cc

-- what a step of the pair at its begin is
record WasFirst (room p : ℕ) (next : FarState) : Type 0 where
  first : p ≡ 1
  fits : 1 < room
  drawn : next.counts.keys ≡ 7

was_first : (room p : ℕ) (next : FarState) → PatchStep (joining room) next (answer.Stepped p)
    → WasFirst room p next
was_first room p next patch =
    let x = took_one (joining room) next p patch in
    let same = same_fresh (joining room) x.pair begun x.a x.b set_a set_b x.fresh (fresh room) in
    let step = subst (λ (q : JoiningState). IsOneStep (joining room) q set_a x.b next
    (answer.Stepped p)) same.pairs
    (subst (λ (v : SetState). IsOneStep (joining room) x.pair v x.b next (answer.Stepped p))
    same.a_is x.step) in
    let at = next_fixed begun 2 step.position 1 step.next next_is_the_taken in
    let old : step.old ≡ on_node 1 = same_Some step.old (on_node 1)
    (sym step.at ∙ ap (slice_get begun.shards_a) at) in
    let l : held (joining room).nodes step.old.node < room = step.room in
    let e = ap (λ (v : Shard). held (joining room).nodes v.node) old in
    let h = holds_one room in record {
      first = stepped_same p step.position step.reply ∙ at;
      fits = omega (arith, l, e, h);
      drawn = ap (λ (f : FarState). f.counts.keys) step.state;
    }

not_the_parity_first : (new : FarState) → AreStepped ground (2 ∷ []) new → ⊥
not_the_parity_first new x = let e = (was_first 2 2 x.0 x.1).first in omega (arith, e)

a_key_is_drawn : AreStepped ground (1 ∷ []) (record first_put { counts = ground.counts }) → ⊥
a_key_is_drawn x =
    let e : 6 ≡ x.0.counts.keys = ap (λ (f : FarState). f.counts.keys) x.2 in
    let d = (was_first 2 1 x.0 x.1).drawn in omega (arith, e, d)

-- no step is taken to a full node
not_to_a_full_node : (p : ℕ) (rest : List ℕ) (new : FarState)
    → AreStepped (joining 1) (p ∷ rest) new → ⊥
not_to_a_full_node p rest new x = let l = (was_first 1 p x.0 x.1).fits in omega (arith, l)

-- ---- so where the first node is full, the turn does not keep the pair, and tells of no other node
ends_there : (new : FarState) (r : Reply) (begun_at last : FarState) (done : List ℕ)
    → begun_at ≡ joining 1 → AreStepped begun_at done last → PairEnds last new r
    → PairEnds (joining 1) new r
ends_there new r begun_at last [] from steps ends =
    subst (λ (f : FarState). PairEnds f new r) (steps ∙ from) ends
ends_there new r begun_at last (p ∷ rest) from steps ends =
    absurd (not_to_a_full_node p rest last
    (subst (λ (f : FarState). AreStepped f (p ∷ rest) last) from steps))

turn_ends : (new : FarState) (r : Reply) → GoesThrough (idle 1) new r → PairEnds (joining 1) new r
turn_ends new r x = ends_there new r x.begun x.stepped x.done
    (begins_fixed (idle 1) x.begun (joining 1) (answer.Pair x.a x.b)
    (answer.Pair (set_numbered 0) (set_numbered 1)) x.paired (begins 1)).1 x.steps x.ends

turn_keeps_no_pair : GoesThrough (idle 1) (joining 1) (answer.NodeFull (node 1)) → ⊥
turn_keeps_no_pair x = elim (turn_ends (joining 1) (answer.NodeFull (node 1)) x) [
  | inl y ↦ not_with_the_pair y
  | inr y ↦ full_or_merged (node 1) y.set y.moved y.reply
]

turn_tells_the_first : GoesThrough (idle 1) (idle 1) (answer.NodeFull (node 0)) → ⊥
turn_tells_the_first x = elim (turn_ends (idle 1) (answer.NodeFull (node 0)) x) [
  | inl y ↦ not_another_node y
  | inr y ↦ full_or_merged (node 0) y.set y.moved y.reply
]

-- ---- every step is done
abbrev all_joined : FarState
all_joined = far (two set_a set_b) all_up 2 (Some all_done)

abbrev one_set : FarState
one_set = with_merged all_joined all_done set_a set_b (homes_in 2 2)

all_fresh : IsFreshPair all_joined all_done set_a set_b
all_fresh = record {
  was = refl;
  a_stands = record { there = first_of set_a set_b; same = refl; whole = refl };
  b_stands = record { there = second_of set_a set_b; same = refl; whole = refl };
}

merge : MergeStep all_joined one_set (answer.Merged (set_numbered 2) 1)
merge = inr (inr (record {
  pair = all_done;
  a = set_a;
  b = set_b;
  fresh = all_fresh;
  merges = inr is_merged;
}))

ends_merged : EndsMerged all_joined one_set (answer.Merged (set_numbered 2) 1)
ends_merged = record { set = set_numbered 2; moved = 1; merged = merge; reply = refl }

set_same_in : (x y : SetId) (m n : ℕ) → answer.Merged x m ≡ answer.Merged y n → x ≡ y
set_same_in x y m n e = cc

not_another_number : EndsMerged all_joined one_set (answer.Merged (set_numbered 3) 1) → ⊥
not_another_number x =
    let e = ap (λ (s : SetId). s.n) (set_same_in (set_numbered 3) x.set 1 x.moved x.reply) in
    let y = got_merged all_joined one_set x.set x.moved x.merged in
    let f = ap (λ (s : SetId). s.n) (set_same_in x.set (set_numbered 2) x.moved _ y.merged.reply) in
    omega (arith, e, f)

not_before_its_steps : (new : FarState) (r : Reply) → EndsMerged ground new r → ⊥
not_before_its_steps new r x =
    let y = got_merged ground new x.set x.moved x.merged in
    let same = same_fresh ground y.pair begun y.a y.b set_a set_b y.fresh (fresh 2) in
    let done = subst (λ (q : JoiningState). AreDone q 2) same.pairs
    (subst (λ (v : SetState). AreDone y.pair (length v.positions)) same.a_is y.merged.done) in
    false≢true (sym (done 1 (lit< tt)))

-- ---- how far it has gone
none_is_done : IsUndone begun
none_is_done = refl

not_once_one_is : IsUndone stepped → ⊥
not_once_one_is e = let f : 1 ≡ 0 = ap (λ (l : List Shard). length l) e in omega (arith, f)

nothing_to_do_where_a_stays : TriesStep (joining 1) begun set_a set_b 0 (joining 1) None
nothing_to_do_where_a_stays = inl (refl, refl, refl)

full_where_b_is_taken : TriesStep (joining 1) begun set_a set_b 1 (joining 1) (Some (node 1))
full_where_b_is_taken = inr (next_is_the_taken, node_is_full)

none_below : (q : ℕ) → q < 0 → is_undone begun 2 q ≡ false
none_below q l = absurd (omega (arith, l))

abbrev at_the_begin : HasGone (joining 1) (joining 1) 0
at_the_begin = record {
  pair = begun;
  a = set_a;
  b = set_b;
  fresh = fresh 1;
  below = none_below;
  done = [];
  steps = refl;
  count = λ q e. ap (λ (p : JoiningState). length p.steps) (same_Some begun q e);
  keys = lit≤ tt;
  back = refl;
}

to_the_full_node : GoesTo (joining 1) (joining 1) (Some (node 1))
to_the_full_node = (0, at_the_begin, node_is_full)

from_the_begin : EndsFrom (joining 1) (idle 1) (answer.NodeFull (node 1))
from_the_begin = ([], joining 1, refl, inl ends_full)

-- the pair goes on joining
not_without_the_pair : HasGone (joining 1) (idle 1) 0 → ⊥
not_without_the_pair x = kept_pair x.pair (sym x.fresh.was)

-- the step of position 1 is left
not_past_what_is_left : HasGone (joining 1) (joining 1) 2 → ⊥
not_past_what_is_left x =
    let same = same_fresh (joining 1) x.pair begun x.a x.b set_a set_b x.fresh (fresh 1) in
    let y = subst (λ (q : JoiningState). is_undone q 2 1 ≡ false) same.pairs
    (subst (λ (v : SetState). is_undone x.pair (length v.positions) 1 ≡ false) same.a_is
    (x.below 1 (lit< tt))) in
    false≢true (sym y)

-- a key is drawn by a step alone
abbrev more_keys : FarState
more_keys = record (joining 1) { counts = record (joining 1).counts { keys = 7 } }

not_by_other_turns : HasGone (joining 1) more_keys 1 → ⊥
not_by_other_turns x = by x.done x.steps
  where
    by : (done : List ℕ) → AreStepped (joining 1) done more_keys → ⊥
    by [] e = let f : 7 ≡ 6 = ap (λ (f : FarState). f.counts.keys) e in omega (arith, f)
    by (p ∷ rest) steps = not_to_a_full_node p rest more_keys steps

-- and one at most for each position
not_one_key_more : HasGone ground first_put 0 → ⊥
not_one_key_more x = let l = x.keys in omega (arith, l)

-- the rows that were put since are all that the pair has put
abbrev begun_late : JoiningState
begun_late = with_step begun 1 (shard_beside ground (on_node 1))

late_row : row_under first_put.nodes (node 1) 6 ≡ Some (row 0)
late_row = row_is_put ground.nodes (node 1) 6 (row 0) (lit< tt)

late_row_gone : row_under (with_parted first_put begun_late).nodes (node 1) 6 ≡ None
late_row_gone = grind (arith, map.gets)

not_one_put_before : HasGone first_put first_put 0 → ⊥
not_one_put_before x = none-some (row 0) (sym late_row_gone
    ∙ sym (ap (λ (q : JoiningState). row_under (with_parted first_put q).nodes (node 1) 6)
    (same_Some x.pair begun_late (sym x.fresh.was)))
    ∙ ap (λ (f : FarState). row_under f.nodes (node 1) 6) x.back ∙ late_row)

-- ---- a step that is tried
tried_first : TriesStep ground begun set_a set_b 1 first_put None
tried_first = inr (next_is_the_taken, one_step)

false_true : false ≡ true → ⊥
false_true e = false≢true e

no_full_node_where_a_stays : (n : NodeId)
    → TriesStep (joining 1) begun set_a set_b 0 (joining 1) (Some n) → ⊥
no_full_node_where_a_stays n (inl x) = some_none n x.1
  where
    some_none : (m : NodeId) → Some m ≡ None → ⊥
    some_none m e = cc
no_full_node_where_a_stays n (inr x) = false_true x.0.undone

no_change_where_a_stays : (new : FarState) → new.joining ≡ None
    → TriesStep (joining 1) begun set_a set_b 0 new None → ⊥
no_change_where_a_stays new none (inl x) =
    kept_pair begun (sym (ap (λ (f : FarState). f.joining) x.2) ∙ none)
no_change_where_a_stays new none (inr x) = false_true x.0.undone

not_passed_over : TriesStep (joining 2) begun set_a set_b 1 (joining 2) None → ⊥
not_passed_over (inl x) = false_true (sym x.0)
not_passed_over (inr x) = let e : 6 ≡ 7 = ap (λ (f : FarState). f.counts.keys) x.1.state in
    omega (arith, e)

not_before_the_next : (new : FarState) (full : Option NodeId)
    → TriesStep ground begun set_a set_b 2 new full → ⊥
not_before_the_next new full (inl x) = false_true (sym x.0)
not_before_the_next new full (inr x) = false_true (sym (x.0.least 1 (lit< tt)))

-- ---- where the steps end
not_at_another_node : GoesTo (joining 1) (joining 1) (Some (node 0)) → ⊥
not_at_another_node x =
    let patch : PatchStep (joining 1) (joining 1) (answer.NodeFull (node 0)) = inr (inr (record {
      pair = x.1.pair;
      a = x.1.a;
      b = x.1.b;
      fresh = x.1.fresh;
      takes = inr (inl x.2);
    })) in
    let e : 0 ≡ 1 = ap (λ (n : NodeId). n.n) (is_node_one 1 (node 0) patch).0 in omega (arith, e)

not_at_one_that_has_room : (n : NodeId) → GoesTo (joining 2) (joining 2) (Some n) → ⊥
not_at_one_that_has_room n x =
    let patch : PatchStep (joining 2) (joining 2) (answer.NodeFull n) = inr (inr (record {
      pair = x.1.pair;
      a = x.1.a;
      b = x.1.b;
      fresh = x.1.fresh;
      takes = inr (inl x.2);
    })) in
    let e : 1 ≡ 2 = (is_node_one 2 n patch).1 in omega (arith, e)

not_at_the_end_yet : GoesTo (joining 1) (joining 1) None → ⊥
not_at_the_end_yet x =
    let gone = x.1 in
    let same = same_fresh (joining 1) gone.pair begun gone.a gone.b set_a set_b gone.fresh
    (fresh 1) in
    let done = subst (λ (q : JoiningState). AreDone q 2) same.pairs
    (subst (λ (v : SetState). AreDone gone.pair (length v.positions)) same.a_is x.2) in
    false_true (sym (done 1 (lit< tt)))

-- nor with the pair kept, or another node told
does_not_end_with_it : EndsFrom (joining 1) (joining 1) (answer.NodeFull (node 1)) → ⊥
does_not_end_with_it x = elim (ends_there (joining 1) (answer.NodeFull (node 1)) (joining 1) x.1 x.0
    refl x.2 x.3) [
      | inl y ↦ not_with_the_pair y
      | inr y ↦ full_or_merged (node 1) y.set y.moved y.reply
    ]

does_not_end_elsewhere : EndsFrom (joining 1) (idle 1) (answer.NodeFull (node 0)) → ⊥
does_not_end_elsewhere x = elim (ends_there (idle 1) (answer.NodeFull (node 0)) (joining 1) x.1 x.0
    refl x.2 x.3) [
      | inl y ↦ not_another_node y
      | inr y ↦ full_or_merged (node 0) y.set y.moved y.reply
    ]
