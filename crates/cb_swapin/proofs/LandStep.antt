-- The landing of a row over a still desk is a step.
use Rattle.std.proofs.Common.{◌≡◌, List, [], None, Option, Some, refl, sym, subst, inl, inr}
use Rattle.cb_types.specs.declared.order.DecodeOrder.{DecodeOrder}
use Rattle.cb_types.specs.declared.order.Kept.{Kept}
use Rattle.cb_types.specs.declared.order.Kept.TheVariants.{Encode, Decode}
use Rattle.cb_types.specs.declared.reply.Reply.{Reply}
use Rattle.cb_types.specs.declared.reply.Reply.TheVariants as answer
use Rattle.cb_world.specs.declared.access.Access.{Access}
use Rattle.cb_world.specs.declared.shown.Shown.{Shown}
use Rattle.cb_world.specs.FarState.{FarState}
use Rattle.cb_world.specs.Now.{now}
use Rattle.cb_world.specs.Plain.{Words, Plain}
use Rattle.cb_world.specs.Played.{played}
use Rattle.cb_world.specs.World.{IsKnown}
use Rattle.cb_world.specs.Written.{Writes}
use Rattle.cb_world.proofs.Laws.{IsStepKnown, PerformsStill, known_then}
use Rattle.cb_swapin.specs.LandEffect.{LandEffect, LandsRow}
use Rattle.cb_swapin.specs.LandRule.{LandRule}
use Rattle.cb_swapin.specs.LandStep.{IsLandStep, IsRefused}
use Rattle.cb_swapin.specs.SwapEffect.{SwapEffect}
use Rattle.cb_swapin.proofs.SwapStep.{swap_step}
use Rattle.cb_swapin.proofs.SwapUnwritten.{swap_unwritten}

-- how its clause reads where its desk is still
abbrev pub PerformsLand : Words → Words → FarState → FarState → Option Kept → Reply → Type 0
PerformsLand x y far new order r =
    PerformsStill x y far new (LandRule order far new r) (LandEffect order far new r)

-- it does what bringing its position in does
pub lands_swaps : (o : DecodeOrder) (far new : FarState) (r : Reply) (es : List Access) (s t : Shown)
    → LandsRow o far new r es s t → SwapEffect o.set o.position far new r es s t
lands_swaps o far new (answer.Swapped f) es s t x = x.swapped
lands_swaps o far new r es s t x = x

-- a refusal leaves every word, and the far state
refused : (x y : Words) (far new : FarState) (s : Shown) (es : List Access) (r refusal : Reply)
    → Plain x es y → r ≡ refusal → new ≡ far → es ≡ [] → IsKnown y new (played es s)
    → IsRefused refusal x y far new r × IsStepKnown y far new s
refused x y far new s es r refusal run reply same none known = (
  record { reply = reply; words = subst (λ (l : List Access). Plain x l y) none run; same = same },
  record {
    shown = played es s;
    known = known;
    same_now = λ h i. now (played (none i) s) (same i) h;
  },
)

-- Over a still desk of which all is known it is a step, and all is known of it afterwards.
pub land_step : (x y : Words) (far new : FarState) (order : Option Kept) (r : Reply) (s : Shown)
    → PerformsLand x y far new order r → IsKnown x far s
    → IsLandStep x y far new order r × IsStepKnown y far new s
land_step x y far new None r s op k =
    refused x y far new s op.events r answer.NoOrder op.ran.0 op.rule.reply op.rule.same op.rule.none
    (known_then x y far new (LandRule None far new r) (LandEffect None far new r) s k op)
land_step x y far new (Some (Encode o)) r s op k =
    refused x y far new s op.events r answer.NoOrder op.ran.0 op.rule.reply op.rule.same op.rule.none
    (known_then x y far new (LandRule (Some (Encode o)) far new r)
    (LandEffect (Some (Encode o)) far new r) s k op)
land_step x y far new (Some (Decode o)) r s op k = elim op.rule [
  | inl gone ↦
      let z = refused x y far new s op.events r (answer.Changed (record { n = o.set })) op.ran.0
      gone.reply gone.same gone.none
      (known_then x y far new (LandRule (Some (Decode o)) far new r)
      (LandEffect (Some (Decode o)) far new r) s k op) in
      (inl (record { gone = gone.gone; refused = z.0 }), z.1)
  | inr lands ↦
      let z = swap_step {rows = λ set. 0} x y far new o.set o.position r s (record {
        events = op.events;
        ran = op.ran;
        looks_first = op.looks_first;
        rule = lands.brings;
        allowed = op.allowed;
        sound_after = op.sound_after;
        effect = λ t q. lands_swaps o far new r op.events t (played op.events t) (op.effect t q);
      }) k in
      (inr (record { live = lands.live; brings = z.0 }), z.1)
]

-- no version is written
nothing_written : (es : List Access) (s : Shown) → es ≡ [] → Writes es s []
nothing_written es s none = subst (λ (l : List Access). Writes l s []) (sym none) (λ old. refl)

pub land_unwritten : (order : Option Kept) (far new : FarState) (r : Reply) (es : List Access)
    (s t : Shown) → LandRule order far new r es → LandEffect order far new r es s t → Writes es s []
land_unwritten None far new r es s t rule x = nothing_written es s rule.none
land_unwritten (Some (Encode o)) far new r es s t rule x = nothing_written es s rule.none
land_unwritten (Some (Decode o)) far new r es s t rule x = elim rule [
  | inl gone ↦ nothing_written es s gone.none
  | inr lands ↦ swap_unwritten o.set o.position far new r es s t lands.brings
      (lands_swaps o far new r es s t x)
]
