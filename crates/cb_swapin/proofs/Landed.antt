-- How bringing a position in reads as a swap-in, and with an order's row as the landing of that.
use Rattle.std.proofs.Common.{◌≡◌, ℕ, ◌≤◌, Bool, true, false, Bor, List, [], Option, None, Some, refl, sym, ap, ◌∙◌, subst, arith, inl, inr}
use Rattle.std.specs.Option.{option_map_or}
use Rattle.std.proofs.lemmas.Bool.{false≢true}
use Rattle.cb_orders.specs.Done.{DecodeDoneState, IsDecoded}
use Rattle.cb_set.specs.SetState.{SetState, live_at}
use Rattle.cb_types.specs.declared.order.DecodeOrder.{DecodeOrder}
use Rattle.cb_types.specs.declared.reply.Reply.{Reply}
use Rattle.cb_types.specs.declared.reply.Reply.TheVariants as answer
use Rattle.cb_world.specs.declared.access.Access.{Access}
use Rattle.cb_world.specs.declared.shown.Shown.{Shown}
use Rattle.cb_world.specs.FarState.{FarState}
use Rattle.cb_world.specs.Orders.{IsDecodeKept, KeepsOrder}
use Rattle.cb_world.specs.Performs.{Performs}
use Rattle.cb_world.specs.Played.{played}
use Rattle.cb_world.specs.Sets.{set_in}
use Rattle.cb_swapin.specs.Fetching.{IsRowOf, far_given}
use Rattle.cb_swapin.specs.LandEffect.{LandEffect, LandsRow}
use Rattle.cb_swapin.specs.LandRule.{LandRule, done_order, live_in}
use Rattle.cb_swapin.specs.SwapEffect.{BringsEffect, SwapEffect}
use Rattle.cb_swapin.specs.SwapRule.{BringsRule}
use Rattle.cb_swapin.proofs.OrderRow.{made_row}
use Rattle.cb_swapin.proofs.RowGiven.{none_given}

-- an operation is told by another rule and effect, where these follow
pub performs_as : {runs : List Access → Type 0} {knows sound : Shown → Type 0}
    {rules others : List Access → Type 0} {does more : List Access → Shown → Shown → Type 0}
    → ((es : List Access) → rules es → others es)
    → ((es : List Access) (s t : Shown) → does es s t → more es s t)
    → Performs runs knows rules sound does → Performs runs knows others sound more
performs_as rule effect x = record {
  events = x.events;
  ran = x.ran;
  looks_first = x.looks_first;
  rule = rule x.events x.rule;
  allowed = x.allowed;
  sound_after = x.sound_after;
  effect = λ s k. effect x.events s (played x.events s) (x.effect s k);
}

-- what does nothing, and leaves the far state
pub performs_nothing : {runs : List Access → Type 0} {knows sound : Shown → Type 0}
    {rules : List Access → Type 0} {does : List Access → Shown → Shown → Type 0}
    → runs [] → ((s : Shown) → knows s → sound s) → rules [] → ((s : Shown) → does [] s s)
    → Performs runs knows rules sound does
performs_nothing ran stays rule still = record {
  events = [];
  ran = ran;
  looks_first = tt;
  rule = rule;
  allowed = λ s k. tt;
  sound_after = stays;
  effect = λ s k. still s;
}

-- ---- a swap-in
pub effect_swaps : (given : Option (Bor (List ℕ))) (id p : ℕ) (far new : FarState) (r : Reply)
    (es : List Access) (s t : Shown) → BringsEffect given id p far new r es s t
    → SwapEffect id p far new r es s t
effect_swaps given id p far new (answer.Swapped f) es s t x = x.0
effect_swaps given id p far new r es s t x = x

-- ---- the landing of an order's row
effect_lands : (o : DecodeOrder) (row : Bor (List ℕ)) (far new : FarState) (r : Reply)
    (es : List Access) (s t : Shown) → IsDecoded o row.now
    → BringsEffect (Some row) o.set o.position far new r es s t → LandsRow o far new r es s t
effect_lands o row far new (answer.Swapped f) es s t made x =
    record { swapped = x.0; made = subst (IsDecoded o) (sym x.1) made }
effect_lands o row far new r es s t made x = x

module _ (done : Option (Bor DecodeDoneState)) (far : FarState) where
  abbrev Lands : (List Access → Type 0) → (Shown → Type 0) → (Shown → Type 0)
      → Option (Bor DecodeDoneState) → FarState → Reply → Type 0
  Lands runs knows sound d new r = Performs runs knows (LandRule (done_order d) far new r) sound
      (LandEffect (done_order d) far new r)

  -- there is no order
  pub lands_none : {runs : List Access → Type 0} {knows sound : Shown → Type 0} → done ≡ None
      → runs [] → ((s : Shown) → knows s → sound s) → Lands runs knows sound done far answer.NoOrder
  lands_none {runs = runs} {knows = knows} {sound = sound} e ran stays =
      subst (λ (d : Option (Bor DecodeDoneState)). Lands runs knows sound d far answer.NoOrder) (sym e)
      (performs_nothing ran stays (record { reply = refl; same = refl; none = refl }) (λ s. refl))

  module _ (d : Bor DecodeDoneState) (at : done ≡ Some d) where
    pub decode_kept : (s : Shown) → KeepsOrder s far (done_order done) → IsDecodeKept far d.now.order
    decode_kept s kept =
        subst (λ (o : Option (Bor DecodeDoneState)). KeepsOrder s far (done_order o)) at kept

    -- its position is not live
    pub lands_outdated : {runs : List Access → Type 0} {knows sound : Shown → Type 0}
        (a b : DecodeOrder) → a ≡ d.now.order → b ≡ d.now.order → live_in far a.set b.position ≡ false
        → runs [] → ((s : Shown) → knows s → sound s)
        → Lands runs knows sound done far (answer.Changed (record { n = a.set }))
    lands_outdated {runs = runs} {knows = knows} {sound = sound} a b e f gone ran stays =
        subst (λ (q : Option (Bor DecodeDoneState)).
        Lands runs knows sound q far (answer.Changed (record { n = a.set }))) (sym at)
        (performs_nothing ran stays (inl (record {
          gone = sym (λ i. live_in far (e i).set (f i).position) ∙ gone;
          reply = λ i. answer.Changed (record { n = (e i).set });
          same = refl;
          none = refl;
        })) (λ s. refl))

    -- the row is that of the set's word
    pub row_lands : (a b : DecodeOrder) (row : Bor (List ℕ)) → a ≡ d.now.order → b ≡ d.now.order
        → IsDecodeKept far d.now.order → IsDecoded d.now.order row.now
        → IsRowOf (Some row) far a.set b.position
    row_lands a b row e f kept made =
        subst (λ (q : DecodeOrder). IsRowOf (Some row) far q.set b.position) (sym e)
        (subst (λ (q : DecodeOrder). IsRowOf (Some row) far d.now.order.set q.position) (sym f)
        (made_row far d.now.order row.now kept made))

    -- and it is brought in
    pub lands_row : {runs : List Access → Type 0} {knows sound : Shown → Type 0}
        (a b : DecodeOrder) (row : Bor (List ℕ)) (new : FarState) (r : Reply) → a ≡ d.now.order
        → b ≡ d.now.order → live_in far a.set b.position ≡ true → IsDecoded d.now.order row.now
        → Performs runs knows (BringsRule (λ set. 0) a.set b.position far new r) sound
        (BringsEffect (Some row) a.set b.position far new r)
        → Lands runs knows sound done new r
    lands_row {runs = runs} {knows = knows} {sound = sound} a b row new r e f live made x =
        let o = d.now.order in
        let y : Performs runs knows (BringsRule (λ set. 0) o.set o.position far new r) sound
        (BringsEffect (Some row) o.set o.position far new r) =
        subst (λ (q : DecodeOrder). Performs runs knows
        (BringsRule (λ set. 0) o.set q.position far new r) sound
        (BringsEffect (Some row) o.set q.position far new r)) f
        (subst (λ (q : DecodeOrder). Performs runs knows
        (BringsRule (λ set. 0) q.set b.position far new r) sound
        (BringsEffect (Some row) q.set b.position far new r)) e x) in
        let here : live_in far o.set o.position ≡ true =
        sym (λ i. live_in far (e i).set (f i).position) ∙ live in
        subst (λ (q : Option (Bor DecodeDoneState)). Lands runs knows sound q new r) (sym at)
        (performs_as (λ es rule. inr (record { live = here; brings = rule }))
        (λ es s t z. effect_lands o row far new r es s t made z) y)

-- a live position is one of a committed set
abbrev live_of : Option SetState → ℕ → Bool
live_of o p = option_map_or (λ set. live_at set p) o false

pub live_found : (far : FarState) (id p : ℕ) → live_in far id p ≡ true
    → (set : SetState) × (set_in far.sets id ≡ Some set) × (live_at set p ≡ true)
live_found far id p live = by (set_in far.sets id) refl
  where
    by : (o : Option SetState) → set_in far.sets id ≡ o
        → (set : SetState) × (set_in far.sets id ≡ Some set) × (live_at set p ≡ true)
    by None e = absurd (false≢true (sym (ap (λ (q : Option SetState). live_of q p) e) ∙ live))
    by (Some set) e = (set, e, sym (ap (λ (q : Option SetState). live_of q p) e) ∙ live)

-- where no row is given out, the far state is as it was
pub nothing_given : (far new : FarState) (n : ℕ) → n ≤ 0 → new ≡ far_given far n → new ≡ far
nothing_given far new n none e =
    let z : n ≡ 0 = omega (arith, none) in
    e ∙ ap (far_given far) z ∙ sym (none_given far)
