-- What a step that lands a row keeps; and that it is fixed.
use Rattle.std.proofs.Common.{◌≡◌, ℕ, true, false, List, None, Option, Some, refl, sym, ap, ◌∙◌, subst, arith, inl, inr}
use Rattle.std.proofs.lemmas.Bool.{false≢true}
use Rattle.cb_types.specs.declared.config.Config.{Config}
use Rattle.cb_types.specs.declared.order.DecodeOrder.{DecodeOrder}
use Rattle.cb_types.specs.declared.order.Kept.{Kept}
use Rattle.cb_types.specs.declared.order.Kept.TheVariants.{Encode, Decode}
use Rattle.cb_types.specs.declared.reply.Reply.{Reply}
use Rattle.cb_types.specs.declared.reply.Reply.TheVariants as answer
use Rattle.cb_world.specs.declared.access.Access.{Access}
use Rattle.cb_world.specs.declared.shown.Shown.{Shown}
use Rattle.cb_world.specs.FarState.{FarState}
use Rattle.cb_world.specs.Plain.{Words}
use Rattle.cb_world.specs.World.{IsKnown}
use Rattle.cb_world.proofs.Laws.{IsOneEnd, KeepCodes, KeepsFar, KeepsPins, StaysIf, StepKeeps, codes_same, far_same, pins_same, stays_same}
use Rattle.cb_swapin.specs.LandRule.{LandRule}
use Rattle.cb_swapin.specs.LandStep.{IsLandStep, IsRefused}
use Rattle.cb_swapin.specs.SwapRule.{BringsRule}
use Rattle.cb_swapin.specs.SwapStep.{IsBringStep}
use Rattle.cb_swapin.proofs.SwapFixed.{swap_step_fixes}
use Rattle.cb_swapin.proofs.SwapKeeps.{keeps_far, leaving_stays, settings_stay}
use Rattle.cb_swapin.proofs.SwapPins.{swap_keeps}
use Rattle.cb_swapin.proofs.SwapStays.{bring_stays, bring_step_stays, swap_codes, swap_step_codes}

-- it changes nothing, or is a step that brings the position in and gives no row out
pub land_cases : (P : Type 0) (x y : Words) (far new : FarState) (order : Option Kept) (r : Reply)
    → IsLandStep x y far new order r → ((y ≡ x) × (new ≡ far) → P)
    → ((o : DecodeOrder) → order ≡ Some (Decode o)
    → IsBringStep (λ set. 0) x y far new o.set o.position r → P)
    → P
land_cases P x y far new None r z stays brings = stays (z.words, z.same)
land_cases P x y far new (Some (Encode o)) r z stays brings = stays (z.words, z.same)
land_cases P x y far new (Some (Decode o)) r z stays brings = elim z [
  | inl gone ↦ stays (gone.refused.words, gone.refused.same)
  | inr lands ↦ brings o refl lands.brings
]

-- by its rule
pub land_rule_cases : (P : Type 0) (order : Option Kept) (far new : FarState) (r : Reply)
    (es : List Access) → LandRule order far new r es → (new ≡ far → P)
    → ((id p : ℕ) → BringsRule (λ set. 0) id p far new r es → P) → P
land_rule_cases P None far new r es z stays brings = stays z.same
land_rule_cases P (Some (Encode o)) far new r es z stays brings = stays z.same
land_rule_cases P (Some (Decode o)) far new r es z stays brings = elim z [
  | inl gone ↦ stays gone.same
  | inr lands ↦ brings o.set o.position lands.brings
]

-- ---- what it keeps
pub land_keeps : (x y : Words) (far new : FarState) (order : Option Kept) (r : Reply) (s : Shown)
    → IsKnown x far s → IsLandStep x y far new order r → StepKeeps x y far new
land_keeps x y far new order r s k z = land_cases (StepKeeps x y far new) x y far new order r z
    (λ same. record {
      far = subst (KeepsFar far) (sym same.1) (far_same far);
      words = subst (KeepsPins x) (sym same.0) (pins_same x);
    })
    (λ o at step. swap_keeps x y far new o.set o.position r s k step)

pub land_keeps_far : (x y : Words) (far new : FarState) (order : Option Kept) (r : Reply)
    → IsLandStep x y far new order r → KeepsFar far new
land_keeps_far x y far new order r z = land_cases (KeepsFar far new) x y far new order r z
    (λ same. subst (KeepsFar far) (sym same.1) (far_same far))
    (λ o at step. keeps_far x y far new o.set o.position r step)

pub land_leaving_stays : (x y : Words) (far new : FarState) (order : Option Kept) (r : Reply)
    → IsLandStep x y far new order r → new.leaving ≡ far.leaving
land_leaving_stays x y far new order r z =
    land_cases (new.leaving ≡ far.leaving) x y far new order r z
    (λ same. ap (λ (q : FarState). q.leaving) same.1)
    (λ o at step. leaving_stays x y far new o.set o.position r step)

pub land_settings_stay : (x y : Words) (far new : FarState) (order : Option Kept) (r : Reply)
    → IsLandStep x y far new order r → y.settings ≡ x.settings
land_settings_stay x y far new order r z =
    land_cases (y.settings ≡ x.settings) x y far new order r z
    (λ same. ap (λ (q : Words). q.settings) same.0)
    (λ o at step. settings_stay x y far new o.set o.position r step)

-- the configured sizes, and what is counted
pub land_stays : (c : Config) (order : Option Kept) (far new : FarState) (r : Reply)
    (es : List Access) → LandRule order far new r es → StaysIf c 16 far new
land_stays c order far new r es z = land_rule_cases (StaysIf c 16 far new) order far new r es z
    (λ same. stays_same c 16 far new (omega arith) same)
    (λ id p brings. bring_stays c id p far new r es (λ set there. omega arith) brings)

pub land_step_stays : (c : Config) (x y : Words) (far new : FarState) (order : Option Kept)
    (r : Reply) → IsLandStep x y far new order r → StaysIf c 16 far new
land_step_stays c x y far new order r z = land_cases (StaysIf c 16 far new) x y far new order r z
    (λ same. stays_same c 16 far new (omega arith) same.1)
    (λ o at step. bring_step_stays c x y far new o.set o.position r (λ set there. omega arith) step)

-- no set has another code
pub land_codes : (order : Option Kept) (far new : FarState) (r : Reply) (es : List Access)
    → LandRule order far new r es → KeepCodes far new
land_codes order far new r es z = land_rule_cases (KeepCodes far new) order far new r es z
    (λ same. codes_same far new same) (λ id p brings. swap_codes id p far new r es brings)

pub land_step_codes : (x y : Words) (far new : FarState) (order : Option Kept) (r : Reply)
    → IsLandStep x y far new order r → KeepCodes far new
land_step_codes x y far new order r z = land_cases (KeepCodes far new) x y far new order r z
    (λ same. codes_same far new same.1)
    (λ o at step. swap_step_codes x y far new o.set o.position r step)

-- ---- one reply, one set of words and one far state
refused_alike : (refusal : Reply) (x y z : Words) (far new other : FarState) (r q : Reply)
    → IsRefused refusal x y far new r → IsRefused refusal x z far other q
    → IsOneEnd r q y z new other
refused_alike refusal x y z far new other r q a b = record {
  reply = a.reply ∙ sym b.reply;
  words = a.words ∙ sym b.words;
  far = a.same ∙ sym b.same;
}

pub land_step_fixes : (x y z : Words) (far new other : FarState) (order : Option Kept) (r q : Reply)
    → IsLandStep x y far new order r → IsLandStep x z far other order q → IsOneEnd r q y z new other
land_step_fixes x y z far new other None r q a b =
    refused_alike answer.NoOrder x y z far new other r q a b
land_step_fixes x y z far new other (Some (Encode o)) r q a b =
    refused_alike answer.NoOrder x y z far new other r q a b
land_step_fixes x y z far new other (Some (Decode o)) r q a b = elim a [
  | inl gone ↦ elim b [
    | inl too ↦ refused_alike (answer.Changed (record { n = o.set })) x y z far new other r q
        gone.refused too.refused
    | inr lands ↦ absurd (false≢true (sym gone.gone ∙ lands.live))
  ]
  | inr lands ↦ elim b [
    | inl gone ↦ absurd (false≢true (sym gone.gone ∙ lands.live))
    | inr too ↦ swap_step_fixes x y z far new other o.set o.position r q lands.brings too.brings
  ]
]
