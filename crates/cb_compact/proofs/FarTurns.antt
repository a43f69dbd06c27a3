-- What a turn of compaction rests on: the laws of each step of a pair.
use Rattle.std.proofs.Common.{refl, sym, ap, subst, inl, inr}
use Rattle.cb_types.specs.declared.reply.Reply.{Reply}
use Rattle.cb_types.specs.declared.reply.Reply.TheVariants as answer
use Rattle.cb_types.specs.declared.request.Request.TheVariants as line
use Rattle.cb_types.specs.Table.{IsReplyOf}
use Rattle.cb_world.specs.declared.shown.Shown.{Shown}
use Rattle.cb_world.specs.FarState.{FarState}
use Rattle.cb_world.specs.Pairs.{with_no_pair}
use Rattle.cb_world.specs.Sound.{Sound}
use Rattle.cb_world.proofs.Laws.{KeepsHolding, KeepsNote, no_pair_sound}
use Rattle.cb_compact.specs.MergeStep.{MergeStep, Merges}
use Rattle.cb_compact.specs.PairStep.{PairStep}
use Rattle.cb_compact.specs.PartStep.{PartStep}
use Rattle.cb_compact.specs.PatchStep.{PatchStep, TakesStep}
use Rattle.cb_compact.proofs.PairSound.{begin_words, begun_keeps}
use Rattle.cb_compact.proofs.MergeSound.{merge_keeps}
use Rattle.cb_compact.proofs.FarLaws.{AreFarLaws}
use Rattle.cb_compact.proofs.CompactFixed.{begin_fixes, merge_fixes, part_fixes, patch_fixes}
use Rattle.cb_compact.proofs.CompactKeeps.{JoinKeeps, LeavesLocal, keeps_all, leaves_local, local_of, parted_keeps}
use Rattle.cb_compact.proofs.PatchSound.{patch_keeps}
use Rattle.cb_compact.proofs.CompactStays.{begin_stays, merge_stays, part_stays, patch_stays}
use Rattle.cb_compact.proofs.TableExists.{table_exists}

-- ---- what is kept
begin_keeps : (s : Shown) (far new : FarState) (r : Reply) → Sound s far → PairStep far new r
    → JoinKeeps s far new
begin_keeps s far new r sound (inl x) =
    subst (JoinKeeps s far) (sym x.state) (keeps_all s far sound)
begin_keeps s far new r sound (inr (inl x)) = subst (JoinKeeps s far) (sym x.state)
    (record {
      sound = no_pair_sound s far sound;
      same_now = λ h. refl;
      words = begin_words far (with_no_pair far) answer.NoPair
          (inr (inl (record { none = x.none; no_two = x.no_two; reply = refl; state = refl })));
    })
begin_keeps s far new r sound (inr (inr x)) =
    let shaped = sound.away.sound.sets.shaped x.x x.a x.first.can.a_there in
    let table = table_exists _ _ shaped.range in
    subst (JoinKeeps s far) (sym x.state)
    (begun_keeps s far x.x x.y x.a x.b table.0 sound x.none x.first table.1)

part_keeps : (s : Shown) (far new : FarState) (r : Reply) → Sound s far → PartStep far new r
    → JoinKeeps s far new
part_keeps s far new r sound (inl x) = subst (JoinKeeps s far) (sym x.state) (keeps_all s far sound)
part_keeps s far new r sound (inr x) =
    subst (JoinKeeps s far) (sym x.state) (parted_keeps s far x.pair sound x.there)

-- ---- local memory
begin_leaves : (far new : FarState) (r : Reply) → PairStep far new r → LeavesLocal far new
begin_leaves far new r (inl x) = leaves_local far new (ap local_of x.state)
begin_leaves far new r (inr (inl x)) = leaves_local far new (ap local_of x.state)
begin_leaves far new r (inr (inr x)) = leaves_local far new (ap local_of x.state)

patch_leaves : (far new : FarState) (r : Reply) → PatchStep far new r → LeavesLocal far new
patch_leaves far new r (inl x) = leaves_local far new (ap local_of x.state)
patch_leaves far new r (inr (inl x)) = leaves_local far new (ap local_of x.state)
patch_leaves far new r (inr (inr x)) = elim x.takes [
  | inl y ↦ leaves_local far new (ap local_of y.state)
  | inr (inl y) ↦ leaves_local far new (ap local_of y.state)
  | inr (inr y) ↦ leaves_local far new (ap local_of y.state)
]

merge_leaves : (far new : FarState) (r : Reply) → MergeStep far new r → LeavesLocal far new
merge_leaves far new r (inl x) = leaves_local far new (ap local_of x.state)
merge_leaves far new r (inr (inl x)) = leaves_local far new (ap local_of x.state)
merge_leaves far new r (inr (inr x)) = elim x.merges [
  | inl y ↦ leaves_local far new (ap local_of y.state)
  | inr y ↦ leaves_local far new (ap local_of y.state)
]

part_leaves : (far new : FarState) (r : Reply) → PartStep far new r → LeavesLocal far new
part_leaves far new r (inl x) = leaves_local far new (ap local_of x.state)
part_leaves far new r (inr x) = leaves_local far new (ap local_of x.state)

-- ---- replies
begin_answers : (far new : FarState) (r : Reply) → PairStep far new r → IsReplyOf line.Pair r
begin_answers far new r (inl x) = subst (IsReplyOf line.Pair) (sym x.reply) tt
begin_answers far new r (inr (inl x)) = subst (IsReplyOf line.Pair) (sym x.reply) tt
begin_answers far new r (inr (inr x)) = subst (IsReplyOf line.Pair) (sym x.reply) tt

patch_answers : (far new : FarState) (r : Reply) → PatchStep far new r → IsReplyOf line.Patch r
patch_answers far new r (inl x) = subst (IsReplyOf line.Patch) (sym x.reply) tt
patch_answers far new r (inr (inl x)) = subst (IsReplyOf line.Patch) (sym x.reply) tt
patch_answers far new r (inr (inr x)) = by x.takes
  where
    by : TakesStep far x.pair x.a x.b new r → IsReplyOf line.Patch r
    by (inl y) = subst (IsReplyOf line.Patch) (sym y.reply) tt
    by (inr (inl y)) = subst (IsReplyOf line.Patch) (sym y.reply) tt
    by (inr (inr y)) = subst (IsReplyOf line.Patch) (sym y.reply) tt

merge_answers : (far new : FarState) (r : Reply) → MergeStep far new r → IsReplyOf line.Merge r
merge_answers far new r (inl x) = subst (IsReplyOf line.Merge) (sym x.reply) tt
merge_answers far new r (inr (inl x)) = subst (IsReplyOf line.Merge) (sym x.reply) tt
merge_answers far new r (inr (inr x)) = by x.merges
  where
    by : Merges far x.pair x.a x.b new r → IsReplyOf line.Merge r
    by (inl y) = subst (IsReplyOf line.Merge) (sym y.reply) tt
    by (inr y) = subst (IsReplyOf line.Merge) (sym y.reply) tt

part_answers : (far new : FarState) (r : Reply) → PartStep far new r → IsReplyOf line.Part r
part_answers far new r (inl x) = subst (IsReplyOf line.Part) (sym x.reply) tt
part_answers far new r (inr x) = subst (IsReplyOf line.Part) (sym x.reply) tt

-- ---- all of it, for each step
pub begin_laws : AreFarLaws KeepsHolding 1 line.Pair PairStep
begin_laws = record {
  stays = begin_stays;
  keeps = begin_keeps;
  leaves = begin_leaves;
  fixes = begin_fixes;
  answers = begin_answers;
  framed = λ far new r x e. subst (IsReplyOf line.Pair) e (begin_answers far new r x);
}

pub patch_laws : AreFarLaws KeepsNote 1 line.Patch PatchStep
patch_laws = record {
  stays = patch_stays;
  keeps = patch_keeps;
  leaves = patch_leaves;
  fixes = patch_fixes;
  answers = patch_answers;
  framed = λ far new r x e. subst (IsReplyOf line.Patch) e (patch_answers far new r x);
}

pub merge_laws : AreFarLaws KeepsNote 1 line.Merge MergeStep
merge_laws = record {
  stays = merge_stays;
  keeps = merge_keeps;
  leaves = merge_leaves;
  fixes = merge_fixes;
  answers = merge_answers;
  framed = λ far new r x e. subst (IsReplyOf line.Merge) e (merge_answers far new r x);
}

pub part_laws : AreFarLaws KeepsNote 1 line.Part PartStep
part_laws = record {
  stays = part_stays;
  keeps = part_keeps;
  leaves = part_leaves;
  fixes = part_fixes;
  answers = part_answers;
  framed = λ far new r x e. subst (IsReplyOf line.Part) e (part_answers far new r x);
}
