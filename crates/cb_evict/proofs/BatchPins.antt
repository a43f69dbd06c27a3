-- The objects of a leaving batch had no pins: where they have none behind a step either, pins stay.
use Rattle.std.proofs.Common.{◌≡◌, ℕ, ◌<◌, length, get_or, All, Some, sym, ◌∙◌, subst, arith, inl, inr}
use Rattle.cb_ptr.specs.Word.{pins_of}
use Rattle.cb_world.specs.declared.leaving.Former.{Former}
use Rattle.cb_world.specs.declared.object.Object.{Object}
use Rattle.cb_world.specs.declared.shown.Shown.{Shown}
use Rattle.cb_world.specs.FarState.{FarState}
use Rattle.cb_world.specs.Leaving.{LeavingState}
use Rattle.cb_world.specs.Plain.{Words}
use Rattle.cb_world.specs.Shown.{Fits}
use Rattle.cb_world.specs.World.{IsKnown, word_at}
use Rattle.cb_world.proofs.Laws.{KeepsPins}
use Rattle.cb_evict.specs.ChangesWords.{ChangesWords}
use Rattle.cb_evict.specs.Claims.{IsNone}
use Rattle.cb_evict.specs.Restoring.{IsClaimedFrom}
use Rattle.cb_evict.proofs.ChangedWords.{changes_keep}
use Rattle.cb_evict.proofs.Claims.{among, no_former}
use Rattle.cb_evict.proofs.Noted.{claimed_all}

module _ (x y : Words) (far : FarState) (s : Shown) (batch : LeavingState) (k : IsKnown x far s)
    (there : far.leaving ≡ Some batch) where
  pub batch_claimed : All (IsClaimedFrom s) batch.words
  batch_claimed = claimed_all s far batch k.sound there (k.shows.hots ∙ sym k.shows.objects)

  none_before : (f : Former) → IsClaimedFrom s f → pins_of (word_at x f.handle) ≡ 0
  none_before f c =
      let within = c.handle in
      let below : f.handle < length x.words = omega (arith, within, k.shows.objects) in
      (subst (λ (o : Object). Fits o (word_at x f.handle)) c.object (k.shows.fit f.handle below)).3

  abbrev HasNone : ℕ → Type 0
  HasNone h = (pins_of (word_at x h) ≡ 0) × (pins_of (word_at y h) ≡ 0)

  pub batch_pins : (so : Type 0) → ChangesWords x y so (IsNone batch.words)
      → All (λ former. pins_of (word_at y former.handle) ≡ 0) batch.words → KeepsPins x y
  batch_pins so change none = changes_keep x y so (IsNone batch.words) change
      (λ h. elim (among batch.words h) [
        | inl (i, l, e) ↦ inr (subst HasNone (e no_former) (
          none_before (get_or batch.words i no_former) (batch_claimed i no_former l),
          none i no_former l,
        ))
        | inr out ↦ inl out
      ])
