-- Worked examples of what the closing of a runtime comes to: what meets each definition, and what
-- breaks one of its parts alone.
use Rattle.std.proofs.Common.{◌≡◌, ◌∙◌, ℕ, [], ◌∷◌, length, replicate, refl, sym, ap, subst, lit<}
use Rattle.std.proofs.Common.{arith, Some}
use Rattle.std.proofs.lemmas.Bool.{eqb-false}
use Rattle.std.proofs.lemmas.Option.{none-some}
use Rattle.cb_types.specs.declared.config.Config.{Config}
use Rattle.cb_types.specs.declared.order.Kept.{Kept}
use Rattle.cb_world.specs.Empty.{empty_far, empty_words}
use Rattle.cb_world.specs.Seats.{idle_seat}
use Rattle.cb_world.specs.World.{WorldState}
use Rattle.cb_rule.specs.declared.view.View.{View}
use Rattle.cb_rule.specs.Closing.{IsClosed}
use Rattle.cb_shared.specs.declared.pass.Pass.{Pass}
use Rattle.cb_shared.specs.declared.refused.CloseRefused.TheVariants.{Out, NoMemory}
use Rattle.cb_shared.specs.declared.runtime.Shared.{Shared}
use Rattle.cb_shared.specs.declared.seal.Seal.{Seal}
use Rattle.cb_shared.specs.declared.sealed.Sealed.{Sealed}
use Rattle.cb_shared.specs.Closing.{IsClosedBy, RefusesToClose}
use Rattle.cb_shared.specs.Joining.{unpinned_all}
use Rattle.cb_shared.specs.OrdersKept.{AreOfPasses, begun}
use Rattle.cb_shared.specs.Passes.{record_of}
use Rattle.cb_shared.specs.Sealing.{least_config, sealed, sealed_record, sealed_world, unsealed}
use Rattle.cb_shared.specs.Turning.{Did}
use Rattle.cb_shared.proofs.WorkedGround.{a_stand, part, two, whole}
use Rattle.cb_shared.proofs.WorkedPasses.{none_kept}

-- ---- what stands under a seal
abbrev a_world : ℕ → WorldState
a_world first = record {
  desk = empty_words two;
  far = empty_far first two;
  seats = replicate 64 idle_seat;
}

has_world : (sealed (a_world 3) whole).world ≡ a_world 3
has_world = refl

has_view : (sealed (a_world 3) whole).view ≡ whole
has_view = refl

-- nothing is under it at first
had_no_share : unsealed.view.share ≡ 0
had_no_share = refl

-- ---- a pass with the whole share and a pin closes; the seal has its record without the pin
abbrev pinning : View
pinning = record whole { pins = a_stand ∷ [] }

module _ (s : Shared) (p : Pass) (seal : Seal) where
  closes : record_of p ≡ pinning → seal.mark.view ≡ sealed (a_world 3) whole
      → IsClosed Did s.board.shared.key.first s.config whole (a_world 3)
      → IsClosedBy s p (a_world 3) seal
  closes e under k = record {
    whole = ap (λ (v : View). v.share) e;
    view = ap (λ (x : Sealed). x.view) under ∙ sym (ap unpinned_all e);
    world = ap (λ (x : Sealed). x.world) under;
    closed = subst (λ (v : View).
        IsClosed Did s.board.shared.key.first s.config v (a_world 3)) (sym (ap unpinned_all e)) k;
    orders = subst (λ (v : View). AreOfPasses v.turns v.order) (sym e) begun;
  }

  -- with an order that no turn of its record left
  closes_with_an_order : (o : Kept) → record_of p ≡ record whole { order = Some o }
      → IsClosedBy s p (a_world 3) seal → ⊥
  closes_with_an_order o e k = none-some o (sym (none_kept [] (Some o)
      (subst (λ (v : View). AreOfPasses v.turns v.order) e k.orders) refl))

  closes_with_a_part : record_of p ≡ part → IsClosedBy s p (a_world 3) seal → ⊥
  closes_with_a_part e k = eqb-false 40 64 refl (ap (λ (v : View). v.share) (sym e) ∙ k.whole)

  seals_the_pin : record_of p ≡ pinning → sealed_record seal ≡ pinning
      → IsClosedBy s p (a_world 3) seal → ⊥
  seals_the_pin e f k = eqb-false 1 0 refl (ap (λ (v : View). length v.pins) (sym f ∙ k.view))

  seals_another_world : sealed_world seal ≡ a_world 4 → IsClosedBy s p (a_world 3) seal → ⊥
  seals_another_world f k = eqb-false 4 3 refl (ap (λ (w : WorldState). w.far.first)
      (sym f ∙ k.world))

  of_another_configuration : s.config ≡ least_config → IsClosedBy s p (a_world 3) seal → ⊥
  of_another_configuration e k = eqb-false 2 1 refl (ap (λ (c : Config). c.handles)
      (k.closed.settings ∙ e))

-- ---- what is refused
module _ (s t : Shared) (p q : Pass) where
  is_out : (record_of p).share ≡ 63 → RefusesToClose s p (Out s p 63)
  is_out e = (refl, refl, sym e, lit< tt)

  out_with_the_whole : RefusesToClose s p (Out s p 64) → ⊥
  out_with_the_whole r = let e = r.3 in omega (arith, e)

  out_with_another_share : (record_of p).share ≡ 63 → RefusesToClose s p (Out s p 62) → ⊥
  out_with_another_share e r = eqb-false 62 63 refl (r.2 ∙ e)

  out_with_another_pass : (record_of p).share ≡ 63 → (record_of q).share ≡ 62
      → RefusesToClose s p (Out s q 63) → ⊥
  out_with_another_pass e f r = eqb-false 62 63 refl (sym f
      ∙ ap (λ (x : Pass). (record_of x).share) r.1 ∙ e)

  out_of_another_runtime : s.config ≡ two → t.config ≡ least_config
      → RefusesToClose s p (Out t p 63) → ⊥
  out_of_another_runtime e f r = eqb-false 1 2 refl (ap (λ (c : Config). c.handles)
      (sym f ∙ ap (λ (x : Shared). x.config) r.0 ∙ e))

  has_no_memory : (record_of p).share ≡ 64 → RefusesToClose s p (NoMemory s p)
  has_no_memory e = (refl, refl, e)

  -- a part of the share is tested before any memory is taken
  no_memory_with_a_part : (record_of p).share ≡ 63 → RefusesToClose s p (NoMemory s p) → ⊥
  no_memory_with_a_part e r = eqb-false 63 64 refl (sym e ∙ r.2)

  no_memory_with_another_pass : (record_of p).share ≡ 64 → (record_of q).share ≡ 62
      → RefusesToClose s p (NoMemory s q) → ⊥
  no_memory_with_another_pass e f r = eqb-false 62 64 refl (sym f
      ∙ ap (λ (x : Pass). (record_of x).share) r.1 ∙ e)

  no_memory_of_another_runtime : s.config ≡ two → t.config ≡ least_config
      → RefusesToClose s p (NoMemory t p) → ⊥
  no_memory_of_another_runtime e f r = eqb-false 1 2 refl (ap (λ (c : Config). c.handles)
      (sym f ∙ ap (λ (x : Shared). x.config) r.0 ∙ e))
