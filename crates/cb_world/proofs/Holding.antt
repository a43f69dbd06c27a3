-- How the first frame of a span is found from one of its frames.
use Rattle.std.proofs.Common.{◌≡◌, ◌⊎◌, ℕ, ◌-◌, ◌+◌, ◌<◌, ◌≤◌, Bool, true, false, List, Option, Some, None, is_some, refl, sym, ap, ◌∙◌, arith, inl, inr}
use Rattle.std.proofs.lemmas.Bool.{cases_eq, cases_order, false≢true}
use Rattle.cb_class.specs.Class.{pages_of}
use Rattle.cb_class.proofs.Laws.{pages_few}
use Rattle.cb_span.specs.Contents.{Contents}
use Rattle.cb_world.specs.FarState.{span_in}
use Rattle.cb_world.proofs.SlotFinding.{TellsHolder}

-- no span stands at the last frames up to this one, so many
abbrev pub NoneBack : List (Option Contents) → ℕ → ℕ → Type 0
NoneBack spans frame back = (h : ℕ) → h ≤ frame → frame < h + back → span_in spans h ≡ None

none_some : (x : Contents) → None ≡ Some x → ⊥
none_some x e = cc

is_none : (o : Option Contents) → is_some o ≡ false → o ≡ None
is_none None e = refl
is_none (Some x) e = absurd (false≢true (sym e))

is_there : (o : Option Contents) → o ≡ None → is_some o ≡ true → ⊥
is_there o e t = false≢true (sym (ap is_some e) ∙ t)

-- a span that is found at a frame is the nearest, and so the one that has the frame
pub holder_found : (spans : List (Option Contents)) (frame back : ℕ) (b : Bool) → back ≤ frame
    → NoneBack spans frame back → b ≡ is_some (span_in spans (frame - back)) → b ≡ true
    → TellsHolder spans frame (Some (frame - back))
holder_found spans frame back b low none is yes' g over known alone =
    ap (λ (i : ℕ). Some i) (elim (cases_order (frame - back) g) [
      | inl e ↦ e
      | inr differ ↦ elim differ [
        | inl less ↦ absurd (none_some over.span
            (sym (none g over.from (omega (arith, less, low))) ∙ over.there))
        | inr more ↦ absurd (is_there (span_in spans (frame - back))
            (alone (frame - back) more (omega (arith, low))) (sym is ∙ yes'))
      ]
    ])

-- one frame more at which no span stands
pub none_back : (spans : List (Option Contents)) (frame back : ℕ) (b : Bool) → back ≤ frame
    → NoneBack spans frame back → b ≡ is_some (span_in spans (frame - back)) → b ≡ false
    → NoneBack spans frame (back + 1)
none_back spans frame back b low none is not h to from = elim (cases_eq h (frame - back)) [
  | inl e ↦ ap (span_in spans) e ∙ is_none (span_in spans (frame - back)) (sym is ∙ not)
  | inr off ↦ none h to (omega (arith, off, from, to, low))
]

-- where no span stands at the frames that are looked at, none has the frame
pub holder_none : (spans : List (Option Contents)) (frame back : ℕ) (found : Option ℕ)
    → NoneBack spans frame back → (4 ≤ back) ⊎ (frame < back) → TellsHolder spans frame found
holder_none spans frame back found none end g over known alone =
    let few = pages_few over.span.class known in
    absurd (none_some over.span (sym (none g over.from (by end few)) ∙ over.there))
  where
    by : (4 ≤ back) ⊎ (frame < back) → pages_of over.span.class ≤ 4 → frame < g + back
    by (inl all) few = omega (arith, all, over.to, few)
    by (inr past) few = omega (arith, past)
