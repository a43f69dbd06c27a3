-- An abort is fixed: one reply, one set of words and one far state.
use Rattle.std.proofs.Common.{◌≡◌, List, sym, ap, ◌∙◌, subst, inl, inr}
use Rattle.cb_types.specs.declared.reply.Reply.{Reply}
use Rattle.cb_types.specs.declared.reply.Reply.TheVariants as answer
use Rattle.cb_world.specs.declared.leaving.Former.{Former}
use Rattle.cb_world.specs.FarState.{FarState}
use Rattle.cb_world.specs.Leaving.{LeavingState}
use Rattle.cb_world.specs.Plain.{Words}
use Rattle.cb_world.specs.Reserved.{without_batch}
use Rattle.cb_world.specs.World.{word_at}
use Rattle.cb_world.proofs.Laws.{IsOneEnd, refused_alike, some_same}
use Rattle.cb_evict.specs.AbortStep.{ArePutBack, IsAbortStep, no_batch, given_up}
use Rattle.cb_evict.proofs.ChangedWords.{changes_fixed}
use Rattle.cb_evict.proofs.Claims.{among, no_former}
use Rattle.cb_evict.proofs.BeginFixed.{leaving_or_not}

back_fixed : (x y z : Words) (formers : List Former) → ArePutBack x y formers
    → ArePutBack x z formers → y ≡ z
back_fixed x y z formers a b =
    changes_fixed x y z _ _ _ a b (λ h. elim (among formers h) [
      | inl (k, l, e) ↦ inr (ap (word_at y) (sym (e no_former)) ∙ a.changed k no_former l
          ∙ sym (b.changed k no_former l) ∙ ap (word_at z) (e no_former))
      | inr none ↦ inl none
    ])

pub abort_step_fixes : (x y z : Words) (far new other : FarState) (r q : Reply)
    → IsAbortStep x y far new r → IsAbortStep x z far other q → IsOneEnd r q y z new other
abort_step_fixes x y z far new other r q (no_batch a e) (no_batch b f) =
    refused_alike r q answer.NoBatch x y z far new other a.reply b.reply e f a.state b.state
abort_step_fixes x y z far new other r q (no_batch a e) (given_up b f) =
    absurd (leaving_or_not far b.batch b.there a.none)
abort_step_fixes x y z far new other r q (given_up a e) (no_batch b f) =
    absurd (leaving_or_not far a.batch a.there b.none)
abort_step_fixes x y z far new other r q (given_up a e) (given_up b f) =
    let same : a.batch ≡ b.batch = some_same a.batch b.batch (sym a.there ∙ b.there) in
    record {
      reply = a.reply ∙ sym b.reply;
      words = back_fixed x y z b.batch.words
          (subst (λ (batch : LeavingState). ArePutBack x y batch.words) same e) f;
      far = a.state ∙ ap (without_batch far) same ∙ sym b.state;
    }
