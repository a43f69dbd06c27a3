-- Behind a compaction in one turn no pair is joining, where none was before.
use Rattle.std.proofs.Common.{◌≡◌, ℕ, List, None, Some, refl, ap, ◌∙◌, inl, inr}
use Rattle.cb_types.specs.declared.reply.Reply.{Reply}
use Rattle.cb_types.specs.declared.reply.Reply.TheVariants as answer
use Rattle.cb_types.specs.declared.handle.SetId.{SetId}
use Rattle.cb_world.specs.FarState.{FarState}
use Rattle.cb_world.specs.Joining.{JoiningState}
use Rattle.cb_compact.specs.MergeStep.{MergeStep}
use Rattle.cb_compact.specs.CompactStep.{CompactStep, PairEnds}
use Rattle.cb_compact.specs.PartStep.{PartStep}
use Rattle.cb_compact.proofs.Laws.{now_laws}
use Rattle.cb_core.proofs.RowsHeld.{IsIdle}

is_joining : (far : FarState) (pair : JoiningState) → far.joining ≡ None
    → far.joining ≡ Some pair → ⊥
is_joining far pair none some = cc

-- the replies that end no pair
not_parted : (r : Reply) → r ≡ answer.Done → r ≡ answer.NoJoin → ⊥
not_parted r done none = cc

not_merged : (r : Reply) (set : SetId) (moved : ℕ) → r ≡ answer.Merged set moved
    → r ≡ answer.NoJoin → ⊥
not_merged r set moved done none = cc

not_finished : (r : Reply) (set : SetId) (moved : ℕ) (left : List ℕ) → r ≡ answer.Merged set moved
    → r ≡ answer.Unfinished left → ⊥
not_finished r set moved left done none = cc

part_ends : (far new : FarState) → PartStep far new answer.Done → new.joining ≡ None
part_ends far new (inl none) = absurd (not_parted _ refl none.reply)
part_ends far new (inr parted) = ap (λ (f : FarState). f.joining) parted.state

merge_ends : (far new : FarState) (set : SetId) (moved : ℕ)
    → MergeStep far new (answer.Merged set moved) → new.joining ≡ None
merge_ends far new set moved (inl none) = absurd (not_merged _ set moved refl none.reply)
merge_ends far new set moved (inr (inl given)) = ap (λ (f : FarState). f.joining) given.state
merge_ends far new set moved (inr (inr on)) = elim on.merges [
  | inl left ↦ absurd (not_finished _ set moved _ refl left.reply)
  | inr merged ↦ ap (λ (f : FarState). f.joining) merged.state
]

ends_none : (far new : FarState) (r : Reply) → PairEnds far new r → new.joining ≡ None
ends_none far new r (inl full) = part_ends far new full.parted
ends_none far new r (inr merged) = merge_ends far new merged.set merged.moved merged.merged

pub now_idle : (far new : FarState) (r : Reply) → CompactStep far new r → IsIdle far → IsIdle new
now_idle far new r step idle = ((now_laws.leaves far new r step).leaving ∙ idle.0, by step)
  where
    by : CompactStep far new r → new.joining ≡ None
    by (inl pair) = absurd (is_joining far pair.pair idle.1 pair.there)
    by (inr (inl none)) = ap (λ (f : FarState). f.joining) none.state ∙ idle.1
    by (inr (inr through)) = ends_none through.stepped new r through.ends
