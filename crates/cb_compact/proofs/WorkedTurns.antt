-- Worked examples of what the turns of a pair answer, and what they leave: a value that meets each
-- definition, and for each of its parts one that breaks that part alone.
use Rattle.std.proofs.Common.{◌≡◌, ℕ, List, [], ◌∷◌, Option, None, Some, get_or, length, refl, sym, ap, ◌∙◌, subst, arith, inl, inr, lit<}
use Rattle.std.specs.FinMap as map
use Rattle.std.proofs.lemmas.Bool.{false≢true}
use Rattle.std.proofs.lemmas.Option.{none-some, same_Some}
use Rattle.cb_member.specs.declared.names.Loss.{Loss}
use Rattle.cb_node.specs.NodesState.{row_under}
use Rattle.cb_node.proofs.Laws.{row_is_put}
use Rattle.cb_set.specs.Lost.{IsWhole}
use Rattle.cb_set.specs.SetState.{SetState}
use Rattle.cb_types.specs.declared.handle.SetId.{SetId}
use Rattle.cb_types.specs.declared.reply.Reply.{Reply}
use Rattle.cb_types.specs.declared.reply.Reply.TheVariants as answer
use Rattle.cb_world.specs.declared.shown.Shown.{Shown}
use Rattle.cb_world.specs.FarState.{FarState}
use Rattle.cb_world.specs.Joining.{JoiningState}
use Rattle.cb_world.specs.JoinSteps.{with_step}
use Rattle.cb_world.specs.Pairs.{with_no_pair}
use Rattle.cb_world.specs.Sets.{set_in}
use Rattle.cb_world.proofs.Laws.{node, row}
use Rattle.cb_compact.specs.declared.looking.PairStanding.TheVariants as look
use Rattle.cb_compact.specs.Looking.{Looks}
use Rattle.cb_compact.specs.MergeStep.{Merges, MergesOn}
use Rattle.cb_compact.specs.Merging.{IsReadyToMerge}
use Rattle.cb_compact.specs.PairStep.{CanJoin, FindsNoPair, IsJoining, IsPaired, NoneCanJoin, PairStep, begun_pair, live_positions, set_numbered, with_pair}
use Rattle.cb_compact.specs.PartStep.{HasChanged, HasNoPair, IsChangedSet, IsFreshPair, IsPairGivenUp, IsPartedPair, with_parted}
use Rattle.cb_compact.specs.PatchStep.{AreDone, StepsOn, TakesStep, shard_beside, with_stepped}
use Rattle.cb_compact.proofs.Ready.{same_fresh}
use Rattle.cb_compact.proofs.WorkedBegin.{a_or_b}
use Rattle.cb_compact.proofs.WorkedGround.{all_up, far, first_of, ground, one_down, second_of, two}
use Rattle.cb_compact.proofs.WorkedMerge.{all_done}
use Rattle.cb_compact.proofs.WorkedPair.{begun, on_node, set_a, set_b}
use Rattle.cb_compact.proofs.WorkedPatch.{done_at}
use Rattle.cb_compact.proofs.WorkedStanding.{none_changed}

-- two sets that can be joined, and no pair is joining
abbrev pub idle : FarState
idle = far (two set_a set_b) all_up 2 None

-- the numbers that are told
abbrev first_told : Reply → ℕ
first_told (answer.Joining a b) = a.n
first_told (answer.Pair a b) = a.n
first_told (answer.Changed id) = id.n
first_told r = 20

abbrev second_told : Reply → ℕ
second_told (answer.Joining a b) = b.n
second_told (answer.Pair a b) = b.n
second_told r = 20

-- ---- a pair is joining already
joining_is_told : IsJoining ground ground (answer.Joining (set_numbered 0) (set_numbered 1))
joining_is_told = record { pair = begun; there = refl; reply = refl; state = refl }

not_where_none_is : (new : FarState) (r : Reply) → IsJoining idle new r → ⊥
not_where_none_is new r x = none-some x.pair x.there

a_is_told_first : IsJoining ground ground (answer.Joining (set_numbered 1) (set_numbered 1)) → ⊥
a_is_told_first x =
    let e : 1 ≡ x.pair.a = ap first_told x.reply in
    let f : x.pair.a ≡ 0 = ap (λ (p : JoiningState). p.a) (same_Some x.pair begun (sym x.there)) in
    omega (arith, e, f)

b_is_told_next : IsJoining ground ground (answer.Joining (set_numbered 0) (set_numbered 0)) → ⊥
b_is_told_next x =
    let e : 0 ≡ x.pair.b = ap second_told x.reply in
    let f : x.pair.b ≡ 1 = ap (λ (p : JoiningState). p.b) (same_Some x.pair begun (sym x.there)) in
    omega (arith, e, f)

telling_changes_nothing : IsJoining ground (record ground { made = 10 })
    (answer.Joining (set_numbered 0) (set_numbered 1)) → ⊥
telling_changes_nothing x = let e : 10 ≡ 9 = ap (λ (f : FarState). f.made) x.state in
    omega (arith, e)

-- a stale pair is told of too, and a begin does not give it up
abbrev stale : FarState
stale = far (two set_a set_b) one_down 2 (Some begun)

stale_is_told : PairStep stale stale (answer.Joining (set_numbered 0) (set_numbered 1))
stale_is_told = inl (record { pair = begun; there = refl; reply = refl; state = refl })

some_none : (p : JoiningState) → Some p ≡ None → ⊥
some_none p e = cc

stale_is_kept : (r : Reply) → PairStep stale (with_parted stale begun) r → ⊥
stale_is_kept r (inl x) = none-some begun (ap (λ (f : FarState). f.joining) x.state)
stale_is_kept r (inr (inl x)) = some_none begun x.none
stale_is_kept r (inr (inr x)) = some_none begun x.none

-- ---- no two sets can be joined: there is none
abbrev bare : Option JoiningState → FarState
bare joining = far map.empty all_up 2 joining

no_set : (id : ℕ) → set_in map.empty id ≡ None
no_set id = grind (arith, map.gets)

none_can : NoneCanJoin (bare None)
none_can i j c d l x = none-some c (sym (no_set i) ∙ x.a_there)

no_pair_is_told : FindsNoPair (bare None) (with_no_pair (bare None)) answer.NoPair
no_pair_is_told = record { none = refl; no_two = none_can; reply = refl; state = refl }

not_while_one_joins : (new : FarState) (r : Reply) → FindsNoPair (bare (Some begun)) new r → ⊥
not_while_one_joins new r x = some_none begun x.none

can_join : CanJoin idle 0 1 set_a set_b
can_join = record {
  a_there = first_of set_a set_b;
  b_there = second_of set_a set_b;
  data_count = refl;
  parity_count = refl;
  matched = record { whole_a = refl; whole_b = refl; pages = refl; apart = a_or_b };
}

not_where_two_can : (new : FarState) (r : Reply) → FindsNoPair idle new r → ⊥
not_where_two_can new r x = x.no_two 0 1 set_a set_b (omega arith) can_join

not_told_as_a_pair : FindsNoPair (bare None) (with_no_pair (bare None))
    (answer.Pair (set_numbered 0) (set_numbered 1)) → ⊥
not_told_as_a_pair x = let e : 0 ≡ 20 = ap first_told x.reply in omega (arith, e)

-- it is noted, and nothing else changes
finding_none_is_noted : FindsNoPair (bare None) (bare None) answer.NoPair → ⊥
finding_none_is_noted x = none-some _ (ap (λ (f : FarState). f.survey.no_pair) x.state)

finding_none_makes_none : FindsNoPair (bare None) (record (with_no_pair (bare None)) { made = 10 })
    answer.NoPair → ⊥
finding_none_makes_none x = let e : 10 ≡ 9 = ap (λ (f : FarState). f.made) x.state in
    omega (arith, e)

-- ---- the first two begin to join
pub paired : IsPaired idle ground (answer.Pair (set_numbered 0) (set_numbered 1))
paired = record {
  none = refl;
  x = 0;
  y = 1;
  a = set_a;
  b = set_b;
  first = record {
    above = omega arith;
    can = can_join;
    least_a = λ i j c d l x. omega arith;
    least_b = λ j c d l x. omega (arith, l);
  };
  reply = refl;
  state = refl;
}

not_beside_another : (new : FarState) (r : Reply) → IsPaired ground new r → ⊥
not_beside_another new r x = some_none begun x.none

not_the_other_way_round : IsPaired idle (with_pair idle (begun_pair 1 0 set_b set_a))
    (answer.Pair (set_numbered 1) (set_numbered 0)) → ⊥
not_the_other_way_round x =
    let e : 1 ≡ x.x = ap first_told x.reply in let f : 0 ≡ x.y = ap second_told x.reply in
    let l = x.first.above in omega (arith, e, f, l)

-- what is told is the pair that joins
abbrev first_of_pair : Option JoiningState → ℕ
first_of_pair None = 20
first_of_pair (Some pair) = pair.a

abbrev second_of_pair : Option JoiningState → ℕ
second_of_pair None = 20
second_of_pair (Some pair) = pair.b

abbrev first_taken : Option JoiningState → ℕ
first_taken None = 20
first_taken (Some pair) = get_or pair.taken 0 20

tells_the_first : IsPaired idle ground (answer.Pair (set_numbered 1) (set_numbered 1)) → ⊥
tells_the_first x =
    let e : 1 ≡ x.x = ap first_told x.reply in
    let f : 0 ≡ x.x = ap (λ (f : FarState). first_of_pair f.joining) x.state in
    omega (arith, e, f)

tells_the_second : IsPaired idle ground (answer.Pair (set_numbered 0) (set_numbered 2)) → ⊥
tells_the_second x =
    let e : 2 ≡ x.y = ap second_told x.reply in
    let f : 1 ≡ x.y = ap (λ (f : FarState). second_of_pair f.joining) x.state in
    omega (arith, e, f)

lets_it_join : IsPaired idle idle (answer.Pair (set_numbered 0) (set_numbered 1)) → ⊥
lets_it_join x = none-some _ (ap (λ (f : FarState). f.joining) x.state)

takes_what_is_live_in_b : IsPaired idle (with_pair idle (record begun { taken = 0 ∷ [] }))
    (answer.Pair (set_numbered 0) (set_numbered 1)) → ⊥
takes_what_is_live_in_b x =
    let at : x.y ≡ 1 = sym (ap second_told x.reply) in
    let b : x.b ≡ set_b = same_Some x.b set_b (sym x.first.can.b_there ∙ ap (set_in idle.sets) at
    ∙ second_of set_a set_b) in
    let e : 0 ≡ 1 = ap (λ (f : FarState). first_taken f.joining) x.state
    ∙ ap (λ (s : SetState). get_or (live_positions s) 0 20) b in
    omega (arith, e)

-- ---- no pair is joining
no_join : HasNoPair idle idle answer.NoJoin
no_join = record { none = refl; reply = refl; state = refl }

not_where_one_joins : (new : FarState) (r : Reply) → HasNoPair ground new r → ⊥
not_where_one_joins new r x = some_none begun x.none

not_told_as_done : HasNoPair idle idle answer.Done → ⊥
not_told_as_done x = done_or_none x.reply
  where
    done_or_none : answer.Done ≡ answer.NoJoin → ⊥
    done_or_none e = cc

no_pair_changes_nothing : HasNoPair idle (record idle { made = 10 }) answer.NoJoin → ⊥
no_pair_changes_nothing x = let e : 10 ≡ 9 = ap (λ (f : FarState). f.made) x.state in
    omega (arith, e)

-- ---- a pair is given up: a has lost a shard, after one step
abbrev put_pair : JoiningState
put_pair = with_step begun 1 (shard_beside ground (on_node 1))

abbrev pub put : FarState
put = record (with_stepped ground begun 1 (shard_beside ground (on_node 1)) (row 0)) {
  members = one_down;
}

row_is_there : row_under put.nodes (node 1) 6 ≡ Some (row 0)
row_is_there = row_is_put ground.nodes (node 1) 6 (row 0) (lit< tt)

row_is_gone : row_under (with_parted put put_pair).nodes (node 1) 6 ≡ None
row_is_gone = grind (arith, map.gets)

a_changed : HasChanged put 0 set_a.shards
a_changed set x =
    let whole = subst (IsWhole one_down)
    (same_Some set set_a (sym x.there ∙ first_of set_a set_b)) x.whole in
    let e : 1 ≡ 0 = ap (λ (l : List Loss). length l) whole in omega (arith, e)

given_up : IsPairGivenUp put (with_parted put put_pair) (answer.Changed (set_numbered 0))
given_up = record {
  pair = put_pair;
  there = refl;
  id = 0;
  changed = inl (a_changed, refl);
  reply = refl;
  state = refl;
}

none_to_give_up : (new : FarState) (r : Reply) → IsPairGivenUp (record put { joining = None }) new r
    → ⊥
none_to_give_up new r x = none-some x.pair x.there

not_while_both_stand : (new : FarState) (r : Reply) → IsPairGivenUp ground new r → ⊥
not_while_both_stand new r x = none_changed x.id
    (subst (λ (p : JoiningState). IsChangedSet ground p x.id)
    (same_Some x.pair begun (sym x.there)) x.changed)

is_put : (p : JoiningState) → put.joining ≡ Some p → p ≡ put_pair
is_put p there = same_Some p put_pair (sym there)

tells_what_changed : IsPairGivenUp put (with_parted put put_pair) (answer.Changed (set_numbered 1))
    → ⊥
tells_what_changed x = elim (subst (λ (p : JoiningState). IsChangedSet put p x.id)
    (is_put x.pair x.there) x.changed) [
      | inl y ↦ let e : 1 ≡ x.id = ap first_told x.reply in let f : x.id ≡ 0 = y.1 in
          omega (arith, e, f)
      | inr y ↦ a_changed y.0 y.1
    ]

no_changed_pair_is_kept : IsPairGivenUp put put (answer.Changed (set_numbered 0)) → ⊥
no_changed_pair_is_kept x = some_none put_pair (ap (λ (f : FarState). f.joining) x.state)

-- the new row is dropped
parted_has_none : (p : JoiningState) → put.joining ≡ Some p
    → record put { joining = None } ≡ with_parted put p → ⊥
parted_has_none p there state = none-some (row 0) (sym row_is_gone
    ∙ sym (ap (λ (q : JoiningState). row_under (with_parted put q).nodes (node 1) 6)
    (is_put p there))
    ∙ sym (ap (λ (f : FarState). row_under f.nodes (node 1) 6) state) ∙ row_is_there)

leaves_no_new_row : IsPairGivenUp put (record put { joining = None })
    (answer.Changed (set_numbered 0)) → ⊥
leaves_no_new_row x = parted_has_none x.pair x.there x.state

-- ---- a pair is parted
parted : IsPartedPair put (with_parted put put_pair) answer.Done
parted = record { pair = put_pair; there = refl; reply = refl; state = refl }

none_to_part : (new : FarState) (r : Reply) → IsPartedPair idle new r → ⊥
none_to_part new r x = none-some x.pair x.there

parting_is_told_as_done : IsPartedPair put (with_parted put put_pair) answer.NoJoin → ⊥
parting_is_told_as_done x = none_or_done x.reply
  where
    none_or_done : answer.NoJoin ≡ answer.Done → ⊥
    none_or_done e = cc

no_parted_pair_is_kept : IsPartedPair put put answer.Done → ⊥
no_parted_pair_is_kept x = some_none put_pair (ap (λ (f : FarState). f.joining) x.state)

parting_leaves_no_new_row : IsPartedPair put (record put { joining = None }) answer.Done → ⊥
parting_leaves_no_new_row x = parted_has_none x.pair x.there x.state

-- ---- what becomes of a pair only while both sets stand
abbrev all_joined : FarState
all_joined = far (two set_a set_b) all_up 2 (Some all_done)

all_fresh : IsFreshPair all_joined all_done set_a set_b
all_fresh = record {
  was = refl;
  a_stands = record { there = first_of set_a set_b; same = refl; whole = refl };
  b_stands = record { there = second_of set_a set_b; same = refl; whole = refl };
}

pub fresh : IsFreshPair ground begun set_a set_b
fresh = record {
  was = refl;
  a_stands = record { there = first_of set_a set_b; same = refl; whole = refl };
  b_stands = record { there = second_of set_a set_b; same = refl; whole = refl };
}

steps_on : StepsOn all_joined all_joined answer.AllStepped
steps_on = record {
  pair = all_done;
  a = set_a;
  b = set_b;
  fresh = all_fresh;
  takes = inl (record { done = done_at; reply = refl; state = refl });
}

pub not_fresh : (p : JoiningState) (a b : SetState) → IsFreshPair put p a b → ⊥
not_fresh p a b x =
    let y = subst (λ (q : JoiningState). IsFreshPair put q a b) (is_put p x.was) x in
    a_changed a y.a_stands

no_step_once_one_changed : (new : FarState) (r : Reply) → StepsOn put new r → ⊥
no_step_once_one_changed new r x = not_fresh x.pair x.a x.b x.fresh

no_merge_once_one_changed : (new : FarState) (r : Reply) → MergesOn put new r → ⊥
no_merge_once_one_changed new r x = not_fresh x.pair x.a x.b x.fresh

-- a step of the pair at its begin is left
one_is_left : (p : JoiningState) (a b : SetState) → IsFreshPair ground p a b
    → AreDone p (length a.positions) → ⊥
one_is_left p a b x done =
    let same = same_fresh ground p begun a b set_a set_b x fresh in
    let y = subst (λ (q : JoiningState). AreDone q 2) same.pairs
    (subst (λ (v : SetState). AreDone p (length v.positions)) same.a_is done) in
    false≢true (sym (y 1 (lit< tt)))

not_told_as_all : (new : FarState) → StepsOn ground new answer.AllStepped → ⊥
not_told_as_all new x = by x.takes
  where
    by : TakesStep ground x.pair x.a x.b new answer.AllStepped → ⊥
    by (inl y) = one_is_left x.pair x.a x.b x.fresh y.done
    by (inr (inl y)) = other y.reply
      where
        other : answer.AllStepped ≡ answer.NodeFull y.old.node → ⊥
        other e = cc
    by (inr (inr y)) = other y.reply
      where
        other : answer.AllStepped ≡ answer.Stepped y.position → ⊥
        other e = cc

not_told_as_merged : (new : FarState) (set : SetId) (moved : ℕ)
    → MergesOn ground new (answer.Merged set moved) → ⊥
not_told_as_merged new set moved x = by x.merges
  where
    merged_or_not : (left : List ℕ) → answer.Merged set moved ≡ answer.Unfinished left → ⊥
    merged_or_not left e = cc

    by : Merges ground x.pair x.a x.b new (answer.Merged set moved) → ⊥
    by (inl y) = merged_or_not _ y.reply
    by (inr y) = one_is_left x.pair x.a x.b x.fresh y.done

-- ---- how a pair is found
found_fresh : Looks ground look.Fresh
found_fresh = (begun, set_a, set_b, fresh)

found_changed : Looks put (look.Changed 0)
found_changed = (put_pair, refl, inl (a_changed, refl))

found_none : Looks idle look.NoPair
found_none = refl

not_found_fresh : Looks put look.Fresh → ⊥
not_found_fresh x = not_fresh x.0 x.1 x.2 x.3

not_found_changed : (id : ℕ) → Looks ground (look.Changed id) → ⊥
not_found_changed id x = none_changed id (subst (λ (p : JoiningState). IsChangedSet ground p id)
    (same_Some x.0 begun (sym x.1)) x.2)

one_is_found : Looks ground look.NoPair → ⊥
one_is_found x = some_none begun x

-- ---- a commit is ready only once both sets stand and each step is done
not_ready_before_its_steps : (s : Shown) → IsReadyToMerge s ground begun set_a set_b → ⊥
not_ready_before_its_steps s x = one_is_left begun set_a set_b x.fresh x.done

not_ready_once_one_changed : (s : Shown) (p : JoiningState) (a b : SetState)
    → IsReadyToMerge s put p a b → ⊥
not_ready_once_one_changed s p a b x = not_fresh p a b x.fresh
