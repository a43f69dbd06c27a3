-- Where each span and each set has one page, no job but a long make needs a span of more; and when a
-- turn that was refused for want of loose spans is made again.
use Rattle.std.proofs.Common.{◌≡◌, ◌⊎◌, ℕ, ◌+◌, ◌*◌, ◌<◌, ◌≤◌, Bool, true, false, ◌&&◌, ◌||◌, not, leb, ltb, eqb, eqb-true, length, get_or, Option, None, Some, ap, ◌∙◌, refl, inl, inr, arith}
use Rattle.std.proofs.Math.Bool.{or-true}
use Rattle.std.specs.List.{list_any}
use Rattle.std.proofs.lemmas.Bool.{agree_below_at, le-leb, le-ltb, lt-ltb}
use Rattle.std.proofs.lemmas.List.{get_or_default}
use Rattle.std.proofs.lemmas.List.Folds.{list_any_none}
use Rattle.cb_set.specs.SetState.{SetState}
use Rattle.cb_span.specs.Contents.{Contents}
use Rattle.cb_types.specs.declared.job.Job.{Job}
use Rattle.cb_types.specs.declared.job.Job.TheVariants as job
use Rattle.cb_types.specs.declared.order.Kept.{Kept}
use Rattle.cb_types.specs.declared.order.Kept.TheVariants.{Decode, Encode}
use Rattle.cb_world.specs.declared.homes.Home.{Home}
use Rattle.cb_world.specs.FarState.{FarState, pages_if, span_in}
use Rattle.cb_world.specs.Homes.{home_at}
use Rattle.cb_world.specs.Sets.{set_in}
use Rattle.cb_core.specs.Narrow.{IsNarrow}
use Rattle.cb_rule.specs.TriesAgain.{home_pages, is_wide, job_pages, may_come_loose, order_pages}
use Rattle.cb_rule.specs.TriesAgain.{pages_for, set_pages}
use Rattle.cb_app.proofs.LongMakes.{MakesShort}

-- ---- spans of one page
pages_few : (len : ℕ) → len ≤ 1024 → pages_for len ≤ 1
pages_few len few =
    let one = eqb-true (pages_for len) 1
    (agree_below_at (λ n. eqb (pages_for n) 1) (λ _. true) 1025 len refl (omega (arith, few))) in
    omega (arith, one)

module _ (far : FarState) (narrow : IsNarrow far) where
  set_few : (id : ℕ) (o : Option SetState) → set_in far.sets id ≡ o → set_pages o ≤ 1
  set_few id None at = omega arith
  set_few id (Some set) at = let one = narrow.sets id set at in omega (arith, one)

  home_few : (o : Option Home) → home_pages far o ≤ 1
  home_few None = omega arith
  home_few (Some home) = set_few home.set (set_in far.sets home.set) refl

  order_few : (order : Option Kept) → order_pages far order ≤ 1
  order_few None = omega arith
  order_few (Some (Encode o)) = omega arith
  order_few (Some (Decode o)) = set_few o.set (set_in far.sets o.set) refl

  job_few : (order : Option Kept) (j : Job) → MakesShort j → job_pages far order j ≤ 1
  job_few order (job.Make bytes) short = pages_few (length bytes) short
  job_few order (job.Read handle) short = home_few (home_at far.homes handle.n)
  job_few order (job.Write handle at bytes) short = home_few (home_at far.homes handle.n)
  job_few order (job.Swap handle) short = home_few (home_at far.homes handle.n)
  job_few order job.Land short = order_few order
  job_few order j short = omega arith

  span_few : (f : ℕ) (o : Option Contents) → span_in far.spans f ≡ o → pages_if o ≤ 1
  span_few f None at = omega arith
  span_few f (Some span) at = let one = narrow.spans f span at in omega (arith, one)

  spans_few : list_any (λ span. ltb 1 (pages_if span)) far.spans ≡ false
  spans_few = list_any_none (λ span. ltb 1 (pages_if span)) far.spans
      (λ f d below. le-ltb 1 (pages_if (get_or far.spans f d))
      (span_few f (get_or far.spans f d) (get_or_default far.spans f None d below)))

  pub never_wide : (order : Option Kept) (j : Job) → MakesShort j
      → is_wide far (job_pages far order j) ≡ false
  never_wide order j short =
      ap (λ (b : Bool). b || list_any (λ span. ltb 1 (pages_if span)) far.spans)
      (le-ltb 1 (job_pages far order j) (job_few order j short)) ∙ spans_few

-- ---- a turn is made again where there are so many frames
pub comes_again : (far : FarState) (pages frames loose : ℕ) → loose < far.code.k
    → 2 * far.code.k + 360 ≤ frames
    → (is_wide far pages ≡ false) ⊎ (28 * far.code.k + 2600 ≤ frames)
    → may_come_loose far pages frames loose ≡ true
comes_again far pages frames loose few enough holes =
    ap (λ (b : Bool). b && (leb (2 * far.code.k + 360) frames
    && (leb (28 * far.code.k + 2600) frames || not (is_wide far pages))))
    (lt-ltb loose far.code.k few)
    ∙ ap (λ (b : Bool). b && (leb (28 * far.code.k + 2600) frames || not (is_wide far pages)))
    (le-leb (2 * far.code.k + 360) frames enough) ∙ by holes
  where
    by : (is_wide far pages ≡ false) ⊎ (28 * far.code.k + 2600 ≤ frames)
        → (leb (28 * far.code.k + 2600) frames || not (is_wide far pages)) ≡ true
    by (inl narrow) = ap (λ (b : Bool). leb (28 * far.code.k + 2600) frames || not b) narrow
        ∙ or-true (leb (28 * far.code.k + 2600) frames)
    by (inr room) = ap (λ (b : Bool). b || not (is_wide far pages))
        (le-leb (28 * far.code.k + 2600) frames room)
