-- What a turn rests on where it joins two sets at once: the laws of the whole step.
use Rattle.std.proofs.Common.{◌≡◌, ℕ, zero, suc, ◌+◌, ◌≤◌, List, [], ◌∷◌, length, set, Option, Some, None, refl, sym, ap, ◌∙◌, subst, arith, inl, inr, length-set}
use Rattle.std.specs.List.{slice_get}
use Rattle.cb_member.specs.Membership.{Membership}
use Rattle.cb_member.specs.declared.names.NodeId.{NodeId}
use Rattle.cb_member.specs.declared.names.Shard.{Shard}
use Rattle.cb_set.specs.SetState.{SetState}
use Rattle.cb_types.specs.declared.config.Config.{Config}
use Rattle.cb_types.specs.declared.handle.SetId.{SetId}
use Rattle.cb_types.specs.declared.reply.Reply.{Reply}
use Rattle.cb_types.specs.declared.reply.Reply.TheVariants as answer
use Rattle.cb_types.specs.declared.request.Request.TheVariants as line
use Rattle.cb_types.specs.Table.{IsReplyOf}
use Rattle.cb_world.specs.declared.shown.Shown.{Shown}
use Rattle.cb_world.specs.Counts.{CountsState}
use Rattle.cb_world.specs.FarState.{FarState}
use Rattle.cb_world.specs.Joining.{JoiningState}
use Rattle.cb_world.specs.Pairs.{others}
use Rattle.cb_world.specs.JoinSteps.{with_step}
use Rattle.cb_world.specs.Reserved.{put_shards}
use Rattle.cb_world.specs.Sound.{Sound}
use Rattle.cb_world.specs.Stored.{all_dropped}
use Rattle.cb_world.specs.World.{IsConfigured}
use Rattle.cb_world.proofs.Laws.{KeepCodes, KeepsHolding, KeepsNote, StaysBy, StaysIfBy, codes_same, codes_then, others_same, rises_more}
use Rattle.cb_compact.specs.MergeStep.{IsMerged, MergeStep, Merges, replaced_shards}
use Rattle.cb_compact.specs.CompactStep.{AreStepped, CompactStep, GoesThrough, PairEnds}
use Rattle.cb_compact.specs.PairStep.{PairStep, set_numbered}
use Rattle.cb_compact.specs.PartStep.{IsFreshPair, PartStep}
use Rattle.cb_compact.specs.PatchStep.{IsOneStep, PatchStep, TakesStep, shard_beside}
use Rattle.cb_compact.proofs.FarLaws.{AreFarLaws}
use Rattle.cb_compact.proofs.FarTurns.{begin_laws, merge_laws, part_laws, patch_laws}
use Rattle.cb_compact.proofs.CompactKeeps.{JoinKeeps, LeavesLocal, dropped_given, keeps_both, leaves_local, local_of}
use Rattle.cb_compact.proofs.NowGone.{stepped_keeps_all}
use Rattle.cb_compact.proofs.CompactSound.{at_pair, from_keep, has_begun}
use Rattle.cb_compact.proofs.PatchSound.{few_steps, step_is_none}

-- ---- what a reply tells of the step
-- a row was put
pub record TookOne (far new : FarState) (p : ℕ) : Type 0 where
  pub pair : JoiningState
  pub a : SetState
  pub b : SetState
  pub fresh : IsFreshPair far pair a b
  pub step : IsOneStep far pair a b new (answer.Stepped p)

pub took_one : (far new : FarState) (p : ℕ) → PatchStep far new (answer.Stepped p)
    → TookOne far new p
took_one far new p (inl x) = absurd (other x.reply)
  where
    other : answer.Stepped p ≡ answer.NoJoin → ⊥
    other e = cc
took_one far new p (inr (inl x)) = absurd (other x.reply)
  where
    other : answer.Stepped p ≡ answer.Changed (set_numbered x.id) → ⊥
    other e = cc
took_one far new p (inr (inr x)) = by x.takes
  where
    by : TakesStep far x.pair x.a x.b new (answer.Stepped p) → TookOne far new p
    by (inl y) = absurd (other y.reply)
      where
        other : answer.Stepped p ≡ answer.AllStepped → ⊥
        other e = cc
    by (inr (inl y)) = absurd (other y.reply)
      where
        other : answer.Stepped p ≡ answer.NodeFull y.old.node → ⊥
        other e = cc
    by (inr (inr y)) = record { pair = x.pair; a = x.a; b = x.b; fresh = x.fresh; step = y }

-- the pair is one set
pub record GotMerged (far new : FarState) (set : SetId) (moved : ℕ) : Type 0 where
  pub pair : JoiningState
  pub a : SetState
  pub b : SetState
  pub fresh : IsFreshPair far pair a b
  pub merged : IsMerged far pair a b new (answer.Merged set moved)

pub got_merged : (far new : FarState) (set : SetId) (moved : ℕ)
    → MergeStep far new (answer.Merged set moved) → GotMerged far new set moved
got_merged far new set moved (inl x) = absurd (other x.reply)
  where
    other : answer.Merged set moved ≡ answer.NoJoin → ⊥
    other e = cc
got_merged far new set moved (inr (inl x)) = absurd (other x.reply)
  where
    other : answer.Merged set moved ≡ answer.Changed (set_numbered x.id) → ⊥
    other e = cc
got_merged far new set moved (inr (inr x)) = by x.merges
  where
    by : Merges far x.pair x.a x.b new (answer.Merged set moved) → GotMerged far new set moved
    by (inl y) = absurd (other _ y.reply)
      where
        other : (q : _) → answer.Merged set moved ≡ answer.Unfinished q → ⊥
        other q e = cc
    by (inr y) = record { pair = x.pair; a = x.a; b = x.b; fresh = x.fresh; merged = y }

-- then every step was done
merged_all : (far new : FarState) (set : SetId) (moved : ℕ)
    → MergeStep far new (answer.Merged set moved) → PatchStep far far answer.AllStepped
merged_all far new set moved step = let x = got_merged far new set moved step in
    inr (inr (record {
      pair = x.pair;
      a = x.a;
      b = x.b;
      fresh = x.fresh;
      takes = inl (record { done = x.merged.done; reply = refl; state = refl });
    }))

-- ---- one way through
abbrev IsOne : FarState → FarState → Reply → Reply → Type 0
IsOne new other r q = (r ≡ q) × (new ≡ other)

node_same : (x y : NodeId) → answer.NodeFull x ≡ answer.NodeFull y → x ≡ y
node_same x y e = cc

full_or_all : (x : NodeId) → answer.NodeFull x ≡ answer.AllStepped → ⊥
full_or_all x e = cc

full_or_stepped : (x : NodeId) (p : ℕ) → answer.NodeFull x ≡ answer.Stepped p → ⊥
full_or_stepped x p e = cc

all_or_stepped : (p : ℕ) → answer.AllStepped ≡ answer.Stepped p → ⊥
all_or_stepped p e = cc

module _ (s : Shown) (far : FarState) (sound : Sound s far) where
  end_fixed : (new other : FarState) (r q : Reply) → PairEnds far new r → PairEnds far other q
      → IsOne new other r q
  end_fixed new other r q (inl x) (inl y) =
      let e = patch_laws.fixes s far far far (answer.NodeFull x.node) (answer.NodeFull y.node) sound
      x.full y.full in
      let p = part_laws.fixes s far new other answer.Done answer.Done sound x.parted y.parted in
      (x.reply ∙ e.0 ∙ sym y.reply, p.1)
  end_fixed new other r q (inr x) (inr y) =
      let e = merge_laws.fixes s far new other (answer.Merged x.set x.moved)
      (answer.Merged y.set y.moved) sound x.merged y.merged in
      (x.reply ∙ e.0 ∙ sym y.reply, e.1)
  end_fixed new other r q (inl x) (inr y) =
      let e = patch_laws.fixes s far far far (answer.NodeFull x.node) answer.AllStepped sound x.full
      (merged_all far other y.set y.moved y.merged) in
      absurd (full_or_all x.node e.0)
  end_fixed new other r q (inr x) (inl y) =
      let e = patch_laws.fixes s far far far (answer.NodeFull y.node) answer.AllStepped sound y.full
      (merged_all far new x.set x.moved x.merged) in
      absurd (full_or_all y.node e.0)

  end_or_step : (new next : FarState) (r : Reply) (p : ℕ) → PairEnds far new r
      → PatchStep far next (answer.Stepped p) → ⊥
  end_or_step new next r p (inl x) step =
      let e = patch_laws.fixes s far far next (answer.NodeFull x.node) (answer.Stepped p) sound
      x.full step in
      full_or_stepped x.node p e.0
  end_or_step new next r p (inr x) step =
      let e = patch_laws.fixes s far far next answer.AllStepped (answer.Stepped p) sound
      (merged_all far new x.set x.moved x.merged) step in
      all_or_stepped p e.0

through_fixed : (s : Shown) (far mid last new other : FarState) (done more : List ℕ) (r q : Reply)
    → Sound s far → AreStepped far done mid → PairEnds mid new r → AreStepped far more last
    → PairEnds last other q → IsOne new other r q
through_fixed s far mid last new other [] [] r q sound x ends y stops =
    end_fixed s far sound new other r q (subst (λ (f : FarState). PairEnds f new r) x ends)
    (subst (λ (f : FarState). PairEnds f other q) y stops)
through_fixed s far mid last new other [] (p ∷ more) r q sound x ends y stops =
    absurd (end_or_step s far sound new y.0 r p (subst (λ (f : FarState). PairEnds f new r) x ends)
    y.1)
through_fixed s far mid last new other (p ∷ done) [] r q sound x ends y stops =
    absurd (end_or_step s far sound other x.0 q p
    (subst (λ (f : FarState). PairEnds f other q) y stops) x.1)
through_fixed s far mid last new other (p ∷ done) (n ∷ more) r q sound x ends y stops =
    let e = patch_laws.fixes s far x.0 y.0 (answer.Stepped p) (answer.Stepped n) sound x.1 y.1 in
    let k = patch_laws.keeps s far x.0 (answer.Stepped p) sound x.1 in
    through_fixed s x.0 mid last new other done more r q k.sound x.2 ends
    (subst (λ (f : FarState). AreStepped f more last) (sym e.1) y.2) stops

joining_or_pair : (a b c d : SetId) → answer.Joining a b ≡ answer.Pair c d → ⊥
joining_or_pair a b c d e = cc

none_or_pair : (c d : SetId) → answer.NoPair ≡ answer.Pair c d → ⊥
none_or_pair c d e = cc

module _ (s : Shown) (far new other : FarState) (r q : Reply) (sound : Sound s far) where
  -- where no pair begins, none does
  not_begun : PairStep far new r → ((a b : SetId) → r ≡ answer.Pair a b → ⊥)
      → GoesThrough far other q → ⊥
  not_begun x off y =
      off y.a y.b (begin_laws.fixes s far new y.begun r (answer.Pair y.a y.b) sound x y.paired).0

  both_fixed : GoesThrough far new r → GoesThrough far other q → IsOne new other r q
  both_fixed x y =
      let e = begin_laws.fixes s far x.begun y.begun (answer.Pair x.a x.b) (answer.Pair y.a y.b)
      sound x.paired y.paired in
      let k = begin_laws.keeps s far x.begun (answer.Pair x.a x.b) sound x.paired in
      through_fixed s x.begun x.stepped y.stepped new other x.done y.done r q k.sound x.steps x.ends
      (subst (λ (f : FarState). AreStepped f y.done y.stepped) (sym e.1) y.steps) y.ends

pub now_fixes : (s : Shown) (far new other : FarState) (r q : Reply) → Sound s far
    → CompactStep far new r → CompactStep far other q → (r ≡ q) × (new ≡ other)
now_fixes s far new other r q sound (inl x) (inl y) =
    begin_laws.fixes s far new other r q sound (inl x) (inl y)
now_fixes s far new other r q sound (inl x) (inr (inl y)) =
    begin_laws.fixes s far new other r q sound (inl x) (inr (inl y))
now_fixes s far new other r q sound (inr (inl x)) (inl y) =
    begin_laws.fixes s far new other r q sound (inr (inl x)) (inl y)
now_fixes s far new other r q sound (inr (inl x)) (inr (inl y)) =
    begin_laws.fixes s far new other r q sound (inr (inl x)) (inr (inl y))
now_fixes s far new other r q sound (inl x) (inr (inr y)) =
    absurd (not_begun s far new other r q sound (inl x)
    (λ a b e. joining_or_pair (set_numbered x.pair.a) (set_numbered x.pair.b) a b (sym x.reply ∙ e))
    y)
now_fixes s far new other r q sound (inr (inl x)) (inr (inr y)) =
    absurd (not_begun s far new other r q sound (inr (inl x))
    (λ a b e. none_or_pair a b (sym x.reply ∙ e)) y)
now_fixes s far new other r q sound (inr (inr x)) (inl y) =
    absurd (not_begun s far other new q r sound (inl y)
    (λ a b e. joining_or_pair (set_numbered y.pair.a) (set_numbered y.pair.b) a b (sym y.reply ∙ e))
    x)
now_fixes s far new other r q sound (inr (inr x)) (inr (inl y)) =
    absurd (not_begun s far other new q r sound (inr (inl y))
    (λ a b e. none_or_pair a b (sym y.reply ∙ e)) x)
now_fixes s far new other r q sound (inr (inr x)) (inr (inr y)) =
    both_fixed s far new other r q sound x y

-- ---- what is kept
now_keeps : (s : Shown) (far new : FarState) (r : Reply) → Sound s far → CompactStep far new r
    → JoinKeeps s far new
now_keeps s far new r sound (inl x) = begin_laws.keeps s far new r sound (inl x)
now_keeps s far new r sound (inr (inl x)) = begin_laws.keeps s far new r sound (inr (inl x))
now_keeps s far new r sound (inr (inr x)) =
    let k = begin_laws.keeps s far x.begun (answer.Pair x.a x.b) sound x.paired in
    keeps_both s far x.begun new k
    (from_keep s x.begun new r k.sound (x.done, x.stepped, x.steps, x.ends))

-- ---- what stays
-- what no part of the turn changes, but for the keys and the set numbers that are drawn
record StayCounted (far new : FarState) : Type 0 where
  turns : new.counts.turns ≡ far.counts.turns
  by_job : new.counts.by_job ≡ far.counts.by_job
  members : new.members ≡ far.members
  given : new.nodes.given ≡ far.nodes.given

counted_both : (far mid new : FarState) → StayCounted far mid → StayCounted mid new
    → StayCounted far new
counted_both far mid new x y = record {
  turns = y.turns ∙ x.turns;
  by_job = y.by_job ∙ x.by_job;
  members = y.members ∙ x.members;
  given = y.given ∙ x.given;
}

record StepCounted (far new : FarState) : Type 0 where
  counted : StayCounted far new
  sets : new.counts.sets ≡ far.counts.sets

step_counted : (far new : FarState) (p : ℕ) → PatchStep far new (answer.Stepped p)
    → StepCounted far new
step_counted far new p step = let x = took_one far new p step in
    subst (StepCounted far) (sym x.step.state) (record {
      counted = record { turns = refl; by_job = refl; members = refl; given = refl };
      sets = refl;
    })

steps_counted : (far new : FarState) (done : List ℕ) → AreStepped far done new
    → StepCounted far new
steps_counted far new [] steps = subst (StepCounted far) (sym steps) (record {
  counted = record { turns = refl; by_job = refl; members = refl; given = refl };
  sets = refl;
})
steps_counted far new (p ∷ done) steps =
    let x = step_counted far steps.0 p steps.1 in
    let y = steps_counted steps.0 new done steps.2 in record {
      counted = counted_both far steps.0 new x.counted y.counted;
      sets = y.sets ∙ x.sets;
    }

record EndCounted (far new : FarState) : Type 0 where
  counted : StayCounted far new
  sets : new.counts.sets ≤ far.counts.sets + 1
  keys : new.counts.keys ≡ far.counts.keys

part_counted : (far new : FarState) (r : Reply) → PartStep far new r → EndCounted far new
part_counted far new r (inl x) = subst (EndCounted far) (sym x.state) (record {
  counted = record { turns = refl; by_job = refl; members = refl; given = refl };
  sets = omega arith;
  keys = refl;
})
part_counted far new r (inr x) = subst (EndCounted far) (sym x.state) (record {
  counted = record {
    turns = refl;
    by_job = refl;
    members = refl;
    given = dropped_given far.nodes (put_shards x.pair.steps);
  };
  sets = omega arith;
  keys = refl;
})

merged_counted : (far new : FarState) (set : SetId) (moved : ℕ)
    → MergeStep far new (answer.Merged set moved) → EndCounted far new
merged_counted far new set moved step =
    let x = got_merged far new set moved step in
    subst (EndCounted far) (sym x.merged.state) (record {
      counted = record {
        turns = refl;
        by_job = refl;
        members = refl;
        given = dropped_given (all_dropped far.nodes x.pair.shards_b)
            (replaced_shards x.pair.steps x.pair.shards_a)
            ∙ dropped_given far.nodes x.pair.shards_b;
      };
      sets = omega arith;
      keys = refl;
    })

end_counted : (far new : FarState) (r : Reply) → PairEnds far new r → EndCounted far new
end_counted far new r (inl x) = part_counted far new answer.Done x.parted
end_counted far new r (inr x) = merged_counted far new x.set x.moved x.merged

-- a key is drawn for a step alone, and there are as many as the pair has positions at most
put_few : (steps : List (Option Shard)) → length (put_shards steps) ≤ length steps
put_few [] = omega arith
put_few (None ∷ steps) = let l = put_few steps in omega (arith, l)
put_few (Some shard ∷ steps) = let l = put_few steps in omega (arith, l)

no_place : (p : ℕ) → slice_get {X = Option Shard} [] p ≡ Some None → ⊥
no_place p e = cc

some_none : (x : Shard) → Some (Some x) ≡ Some None → ⊥
some_none x e = cc

put_more : (steps : List (Option Shard)) (p : ℕ) (shard : Shard) → slice_get steps p ≡ Some None
    → length (put_shards (set steps p (Some shard))) ≡ length (put_shards steps) + 1
put_more [] p shard at = absurd (no_place p at)
put_more (None ∷ steps) zero shard at = omega arith
put_more (Some x ∷ steps) zero shard at = absurd (some_none x at)
put_more (None ∷ steps) (suc p) shard at = put_more steps p shard at
put_more (Some x ∷ steps) (suc p) shard at = let l = put_more steps p shard at in omega (arith, l)

pair_same : (p q : JoiningState) → Some p ≡ Some q → p ≡ q
pair_same p q e = cc

keys_few : (far new : FarState) (pair : JoiningState) (done : List ℕ) → far.joining ≡ Some pair
    → AreStepped far done new
    → new.counts.keys + length (put_shards pair.steps) ≤ far.counts.keys + length pair.steps
keys_few far new pair [] there steps =
    let l = put_few pair.steps in let e = ap (λ (f : FarState). f.counts.keys) steps in
    omega (arith, l, e)
keys_few far new pair (p ∷ done) there steps =
    let x = took_one far steps.0 p steps.1 in
    let same = pair_same x.pair pair (sym x.fresh.was ∙ there) in
    let shard = shard_beside far x.step.old in
    let e = ap (λ (f : FarState). f.counts.keys) x.step.state in
    let l = keys_few steps.0 new (with_step x.pair x.step.position shard) done
    (ap (λ (f : FarState). f.joining) x.step.state) steps.2 in
    let m = put_more x.pair.steps x.step.position shard
    (step_is_none x.pair (length x.a.positions) x.step.position x.step.next) in
    let n = length-set x.pair.steps x.step.position (Some shard) in
    let u = ap (λ (q : JoiningState). length (put_shards q.steps)) same in
    let v = ap (λ (q : JoiningState). length q.steps) same in
    omega (arith, e, l, m, n, u, v)

-- ---- what is configured
steps_configured : (c : Config) (s : Shown) (far new : FarState) (done : List ℕ) → Sound s far
    → AreStepped far done new → IsConfigured c far → IsConfigured c new
steps_configured c s far new [] sound steps is = subst (IsConfigured c) (sym steps) is
steps_configured c s far new (p ∷ done) sound steps is =
    let k = patch_laws.keeps s far steps.0 (answer.Stepped p) sound steps.1 in
    steps_configured c s steps.0 new done k.sound steps.2
    (patch_laws.stays c s far steps.0 (answer.Stepped p) sound steps.1 is).configured

end_configured : (c : Config) (s : Shown) (far new : FarState) (r : Reply) → Sound s far
    → PairEnds far new r → IsConfigured c far → IsConfigured c new
end_configured c s far new r sound (inl x) is =
    (part_laws.stays c s far new answer.Done sound x.parted is).configured
end_configured c s far new r sound (inr x) is =
    (merge_laws.stays c s far new (answer.Merged x.set x.moved) sound x.merged is).configured

-- ---- no other code comes up
steps_codes : (c : Config) (s : Shown) (far new : FarState) (done : List ℕ) → Sound s far
    → AreStepped far done new → IsConfigured c far → KeepCodes far new
steps_codes c s far new [] sound steps is = codes_same far new steps
steps_codes c s far new (p ∷ done) sound steps is =
    let k = patch_laws.keeps s far steps.0 (answer.Stepped p) sound steps.1 in
    let z = patch_laws.stays c s far steps.0 (answer.Stepped p) sound steps.1 is in
    codes_then far steps.0 new z.codes
    (steps_codes c s steps.0 new done k.sound steps.2 z.configured)

end_codes : (c : Config) (s : Shown) (far new : FarState) (r : Reply) → Sound s far
    → PairEnds far new r → IsConfigured c far → KeepCodes far new
end_codes c s far new r sound (inl x) is =
    (part_laws.stays c s far new answer.Done sound x.parted is).codes
end_codes c s far new r sound (inr x) is =
    (merge_laws.stays c s far new (answer.Merged x.set x.moved) sound x.merged is).codes

-- a pair was found, so that nothing noted is of now, and no part of the turn notes anything
steps_note : (c : Config) (s : Shown) (far new : FarState) (done : List ℕ) → Sound s far
    → AreStepped far done new → IsConfigured c far → KeepsNote far new
steps_note c s far new [] sound steps is n e =
    subst (λ (f : FarState). f.survey.no_pair ≡ Some n → far.survey.no_pair ≡ Some n) (sym steps)
    (λ x. x) e
steps_note c s far new (p ∷ done) sound steps is n e =
    let k = patch_laws.keeps s far steps.0 (answer.Stepped p) sound steps.1 in
    let z = patch_laws.stays c s far steps.0 (answer.Stepped p) sound steps.1 is in
    z.rises.note n (steps_note c s steps.0 new done k.sound steps.2 z.configured n e)

end_note : (c : Config) (s : Shown) (far new : FarState) (r : Reply) → Sound s far
    → PairEnds far new r
    → IsConfigured c far → KeepsNote far new
end_note c s far new r sound (inl x) is =
    (part_laws.stays c s far new answer.Done sound x.parted is).rises.note
end_note c s far new r sound (inr x) is =
    (merge_laws.stays c s far new (answer.Merged x.set x.moved) sound x.merged is).rises.note

-- the note of a far state in which two sets can be joined is an older one
older_note : (far mid new : FarState) (a b : SetId) → PairStep far mid (answer.Pair a b)
    → KeepsNote mid new → others new.counts ≡ others far.counts → KeepsHolding far new
older_note far mid new a b begun keeps same holds n e =
    let x = at_pair far mid a b begun in
    let was : far.survey.no_pair ≡ Some n =
    sym (ap (λ (f : FarState). f.survey.no_pair) x.state) ∙ keeps n e in
    let z = holds n was in let l = z.0 in (
      omega (arith, l, same),
      λ now. absurd (z.1 (now ∙ same) x.x x.y x.a x.b x.first.above x.first.can),
    )

through_stays : (c : Config) (s : Shown) (far new : FarState) (r : Reply) → Sound s far
    → GoesThrough far new r → StaysIfBy KeepsHolding c 20 far new
through_stays c s far new r sound x is =
    let k = begin_laws.keeps s far x.begun (answer.Pair x.a x.b) sound x.paired in
    let l = stepped_keeps_all s x.begun x.stepped x.done k.sound x.steps in
    let h = has_begun far x.begun x.a x.b x.paired in
    let counts = ap (λ (f : FarState). f.counts) h.state in
    let p = steps_counted x.begun x.stepped x.done x.steps in
    let q = end_counted x.stepped new r x.ends in
    let few = few_steps s x.begun h.pair k.sound.away h.fresh.was in
    let keys = keys_few x.begun x.stepped h.pair x.done h.fresh.was x.steps in
    let sets_first = ap (λ (z : CountsState). z.sets) counts in
    let keys_first = ap (λ (z : CountsState). z.keys) counts in
    let sets_then = p.sets in let sets_last = q.sets in let keys_last = q.keys in
    let all = counted_both x.begun x.stepped new p.counted q.counted in
    let begun =
    (begin_laws.stays c s far x.begun (answer.Pair x.a x.b) sound x.paired is).configured in
    let turns = all.turns ∙ ap (λ (z : CountsState). z.turns) counts in
    let by_job = all.by_job ∙ ap (λ (z : CountsState). z.by_job) counts in
    let stepped = steps_configured c s x.begun x.stepped x.done k.sound x.steps begun in
    record {
      configured = end_configured c s x.stepped new r l.sound x.ends
          (steps_configured c s x.begun x.stepped x.done k.sound x.steps
          (begin_laws.stays c s far x.begun (answer.Pair x.a x.b) sound x.paired is).configured);
      codes = codes_then far x.begun new
          (begin_laws.stays c s far x.begun (answer.Pair x.a x.b) sound x.paired is).codes
          (codes_then x.begun x.stepped new
          (steps_codes c s x.begun x.stepped x.done k.sound x.steps begun)
          (end_codes c s x.stepped new r l.sound x.ends stepped));
      rises = record {
        turns = all.turns ∙ ap (λ (z : CountsState). z.turns) counts;
        by_job = all.by_job ∙ ap (λ (z : CountsState). z.by_job) counts;
        sets = omega (arith, sets_first, sets_then, sets_last);
        keys = omega (arith, keys_first, keys, keys_last, few);
        epoch = let e = ap (λ (m : Membership). m.epoch) all.members in
            let f = ap (λ (z : FarState). z.members.epoch) h.state in omega (arith, e, f);
        given = let e = all.given in let f = ap (λ (z : FarState). z.nodes.given) h.state in
            omega (arith, e, f);
        note = older_note far x.begun new x.a x.b x.paired
            (λ n e. steps_note c s x.begun x.stepped x.done k.sound x.steps begun n
            (end_note c s x.stepped new r l.sound x.ends stepped n e))
            (others_same far new turns by_job);
      };
    }

more_stays : (c : Config) (far new : FarState) → StaysBy KeepsHolding c 1 far new
    → StaysBy KeepsHolding c 20 far new
more_stays c far new z = record {
  configured = z.configured;
  codes = z.codes;
  rises = rises_more 1 20 far new (omega arith) z.rises;
}

now_stays : (c : Config) (s : Shown) (far new : FarState) (r : Reply) → Sound s far
    → CompactStep far new r → StaysIfBy KeepsHolding c 20 far new
now_stays c s far new r sound (inl x) is = more_stays c far new
    (begin_laws.stays c s far new r sound (inl x) is)
now_stays c s far new r sound (inr (inl x)) is = more_stays c far new
    (begin_laws.stays c s far new r sound (inr (inl x)) is)
now_stays c s far new r sound (inr (inr x)) is = through_stays c s far new r sound x is

-- ---- local memory
pub leaves_both : (far mid new : FarState) → LeavesLocal far mid → LeavesLocal mid new
    → LeavesLocal far new
leaves_both far mid new x y = record {
  first = y.first ∙ x.first;
  made = y.made ∙ x.made;
  frames = y.frames ∙ x.frames;
  spans = y.spans ∙ x.spans;
  members = y.members ∙ x.members;
  leaving = y.leaving ∙ x.leaving;
  turns = y.turns ∙ x.turns;
}

steps_leave : (far new : FarState) (done : List ℕ) → AreStepped far done new → LeavesLocal far new
steps_leave far new [] steps = leaves_local far new (ap local_of steps)
steps_leave far new (p ∷ done) steps =
    leaves_both far steps.0 new (patch_laws.leaves far steps.0 (answer.Stepped p) steps.1)
    (steps_leave steps.0 new done steps.2)

ends_leave : (far new : FarState) (r : Reply) → PairEnds far new r → LeavesLocal far new
ends_leave far new r (inl x) = part_laws.leaves far new answer.Done x.parted
ends_leave far new r (inr x) = merge_laws.leaves far new (answer.Merged x.set x.moved) x.merged

now_leaves : (far new : FarState) (r : Reply) → CompactStep far new r → LeavesLocal far new
now_leaves far new r (inl x) = begin_laws.leaves far new r (inl x)
now_leaves far new r (inr (inl x)) = begin_laws.leaves far new r (inr (inl x))
now_leaves far new r (inr (inr x)) =
    leaves_both far x.begun new (begin_laws.leaves far x.begun (answer.Pair x.a x.b) x.paired)
    (leaves_both x.begun x.stepped new (steps_leave x.begun x.stepped x.done x.steps)
    (ends_leave x.stepped new r x.ends))

-- ---- replies
now_answers : (far new : FarState) (r : Reply) → CompactStep far new r → IsReplyOf line.Compact r
now_answers far new r (inl x) = subst (IsReplyOf line.Compact) (sym x.reply) tt
now_answers far new r (inr (inl x)) = subst (IsReplyOf line.Compact) (sym x.reply) tt
now_answers far new r (inr (inr x)) = by x.ends
  where
    by : PairEnds x.stepped new r → IsReplyOf line.Compact r
    by (inl y) = subst (IsReplyOf line.Compact) (sym y.reply) tt
    by (inr y) = subst (IsReplyOf line.Compact) (sym y.reply) tt

-- ---- all of it
pub now_laws : AreFarLaws KeepsHolding 20 line.Compact CompactStep
now_laws = record {
  stays = now_stays;
  keeps = now_keeps;
  leaves = now_leaves;
  fixes = now_fixes;
  answers = now_answers;
  framed = λ far new r x e. subst (IsReplyOf line.Compact) e (now_answers far new r x);
}
