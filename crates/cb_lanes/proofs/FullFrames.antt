-- Where no run of frames is free that a span of some class fits, there are at most seven frames for
-- each span, and three more. Where each span has one page and no frame is free, each frame has one.
-- There are no more spans than a list has elements that has the frame of each.
use Rattle.std.proofs.Common.{◌≡◌, ◌≢◌, ◌⊎◌, ℕ, zero, suc, ◌+◌, ◌-◌, ◌*◌, ◌<◌, ◌≤◌, Bool, true}
use Rattle.std.proofs.Common.{false}
use Rattle.std.proofs.Common.{List, [], ◌∷◌, ◌++◌, Option, None, Some, length, is_some, refl, sym}
use Rattle.std.proofs.Common.{ap}
use Rattle.std.proofs.Common.{◌∙◌, ◌||◌, subst, arith, inl, inr, nat_eq, eq-eqb, if◌then◌else◌}
use Rattle.std.specs.List.{list_any}
use Rattle.std.proofs.lemmas.Bool.{cases_Bool, cases_eq, cases_lt, true≢false, or_left, or_right}
use Rattle.std.proofs.lemmas.List.{length-append}
use Rattle.std.proofs.lemmas.List.Folds.{list_any-append}
use Rattle.std.proofs.lemmas.Map.Steps.{le-length_from_below}
use Rattle.cb_class.specs.declared.class.Class.{Class}
use Rattle.cb_class.specs.Class.{IsClass, pages_of}
use Rattle.cb_class.proofs.Laws.{pages_few, pages_some}
use Rattle.cb_frame.specs.FreeFrames.{IsFreeFrame}
use Rattle.cb_frame.specs.Runs.{is_run, least_run}
use Rattle.cb_frame.proofs.Laws.{is_run_has, least_run-None, run_of_free}
use Rattle.cb_span.specs.Contents.{Contents}
use Rattle.cb_world.specs.FarState.{FarState, span_in}
use Rattle.cb_world.specs.LocalSound.{AreFrames, LiesOver}
use Rattle.cb_lanes.proofs.Lists.{one_if}

-- ---- so many spans
-- whether a span stands at the frame
abbrev pub stands_at : List (Option Contents) → ℕ → Bool
stands_at spans f = is_some (span_in spans f)

-- how many stand below frame n
abbrev pub spans_below : List (Option Contents) → ℕ → ℕ
spans_below spans zero = 0
spans_below spans (suc n) = spans_below spans n + one_if (stands_at spans n)

rises : (spans : List (Option Contents)) (n d : ℕ) → spans_below spans n ≤ spans_below spans (n + d)
rises spans n zero = subst (λ (x : ℕ). spans_below spans n ≤ spans_below spans x)
    (let e : n ≡ n + 0 = omega arith in e) (omega arith)
rises spans n (suc d) =
    let so = rises spans n d in
    let is : spans_below spans (suc (n + d)) ≡ spans_below spans (n + d) + one_if
    (stands_at spans (n + d)) =
    refl in
    subst (λ (x : ℕ). spans_below spans n ≤ spans_below spans x)
    (let e : suc (n + d) ≡ n + suc d = omega arith in e) (omega (arith, so, is))

one_more : (spans : List (Option Contents)) (g n : ℕ) (span : Contents)
    → span_in spans g ≡ Some span
    → g < n → spans_below spans g + 1 ≤ spans_below spans n
one_more spans g n span at below =
    let is : spans_below spans (suc g) ≡ spans_below spans g + 1 =
    ap (λ (o : Option Contents). spans_below spans g + one_if (is_some o)) at in
    let up = rises spans (suc g) (n - suc g) in
    let e : suc g + (n - suc g) ≡ n = omega (arith, below) in
    let there : spans_below spans (suc g) ≤ spans_below spans n =
    subst (λ (x : ℕ). spans_below spans (suc g) ≤ spans_below spans x) e up in
    omega (arith, is, there)

-- the frames below n at which none stands
abbrev gaps : List (Option Contents) → ℕ → List ℕ
gaps spans zero = []
gaps spans (suc n) = if stands_at spans n then gaps spans n else n ∷ gaps spans n

gaps_count : (spans : List (Option Contents)) (n : ℕ)
    → spans_below spans n + length (gaps spans n) ≡ n
gaps_count spans zero = refl
gaps_count spans (suc n) = by (gaps_count spans n) (stands_at spans n)
  where
    by : spans_below spans n + length (gaps spans n) ≡ n → (b : Bool)
        → spans_below spans n + one_if b + length
        (if b then gaps spans n else n ∷ gaps spans n) ≡ suc n
    by rest true = omega (arith, rest)
    by rest false = omega (arith, rest)

in_gaps : (spans : List (Option Contents)) (n f : ℕ) → f < n → stands_at spans f ≡ false
    → list_any (nat_eq f) (gaps spans n) ≡ true
in_gaps spans zero f below none = absurd (omega (arith, below))
in_gaps spans (suc n) f below none = by (λ lt. in_gaps spans n f lt none) (cases_eq f n)
  where
    last : f ≡ n → (b : Bool) → b ≡ false
        → list_any (nat_eq f) (if b then gaps spans n else n ∷ gaps spans n) ≡ true
    last e true off = absurd (true≢false off)
    last e false off = or_left (nat_eq f n) (list_any (nat_eq f) (gaps spans n)) (eq-eqb f n e)

    earlier : list_any (nat_eq f) (gaps spans n) ≡ true → (b : Bool)
        → list_any (nat_eq f) (if b then gaps spans n else n ∷ gaps spans n) ≡ true
    earlier there true = there
    earlier there false = or_right (nat_eq f n) (list_any (nat_eq f) (gaps spans n)) there

    by : (f < n → list_any (nat_eq f) (gaps spans n) ≡ true) → (f ≡ n) ⊎ (f ≢ n)
        → list_any (nat_eq f) (gaps spans (suc n)) ≡ true
    by more (inl e) = last e (stands_at spans n) (ap (stands_at spans) (sym e) ∙ none)
    by more (inr off) = earlier (more (omega (arith, below, off))) (stands_at spans n)

-- a list that has the frame of each span is no shorter than there are spans
pub few_stand : (spans : List (Option Contents)) (xs : List ℕ) (n : ℕ)
    → ((f : ℕ) (span : Contents) → span_in spans f ≡ Some span → list_any (nat_eq f) xs ≡ true)
    → spans_below spans n ≤ length xs
few_stand spans xs n held =
    let all = le-length_from_below (xs ++ gaps spans n) n there in
    let both = length-append xs (gaps spans n) in
    let count = gaps_count spans n in omega (arith, all, both, count)
  where
    by : (f : ℕ) → f < n → (o : Option Contents) → span_in spans f ≡ o
        → (list_any (nat_eq f) xs || list_any (nat_eq f) (gaps spans n)) ≡ true
    by f below (Some span) at = or_left (list_any (nat_eq f) xs)
        (list_any (nat_eq f) (gaps spans n))
        (held f span at)
    by f below None at = or_right (list_any (nat_eq f) xs) (list_any (nat_eq f) (gaps spans n))
        (in_gaps spans n f below (ap (λ (o : Option Contents). is_some o) at))

    there : (f : ℕ) → f < n → list_any (nat_eq f) (xs ++ gaps spans n) ≡ true
    there f below = list_any-append (nat_eq f) xs (gaps spans n) ∙ by f below (span_in spans f) refl

-- ---- where no run is free
-- where no span of a class fits there are no four free frames side by side
no_four : (far : FarState) (class : Class) → IsClass class
    → least_run far.frames (pages_of class) ≡ None → (f : ℕ) → is_run far.frames f 4 ≡ false
no_four far class in_table full f = by (cases_Bool (is_run far.frames f 4))
  where
    free : is_run far.frames f 4 ≡ true → (g : ℕ) → f ≤ g → g < f + pages_of class
        → IsFreeFrame far.frames g
    free run g from to = let few = pages_few class in_table in
        subst (IsFreeFrame far.frames) (let e : f + (g - f) ≡ g = omega (arith, from) in e)
        (is_run_has far.frames f 4 (g - f) run (omega (arith, from, to, few)))

    by : (is_run far.frames f 4 ≡ true) ⊎ (is_run far.frames f 4 ≡ false)
        → is_run far.frames f 4 ≡ false
    by (inr none) = none
    by (inl run) = absurd (true≢false (sym
        (run_of_free far.frames f (pages_of class) (free run))
        ∙ least_run-None far.frames (pages_of class) full (pages_some class in_table) f))

module _ (far : FarState) (are : AreFrames far) where
  -- The first n frames were the first with fewer spans below them: then the last four of them are
  -- free.
  module _ (n : ℕ) (fits : n ≤ length far.frames)
      (before : (g : ℕ) → g < n → g ≤ 7 * spans_below far.spans g + 3)
      (bad : 7 * spans_below far.spans n + 3 < n) where
    over_none : (y : ℕ) → n ≤ y + 4 → y < n → (g : ℕ) → LiesOver far.spans g y → ⊥
    over_none y near below g over =
        let from = over.from in let to = over.to in
        let four_at_most = pages_few over.span.class (are.valid g over.span over.there).in_table in
        let here = before g (omega (arith, from, below)) in
        let rise = one_more far.spans g n over.span over.there (omega (arith, from, below)) in
        omega (arith, four_at_most, here, rise, to, from, near, bad)

    is_free : (y : ℕ) → n ≤ y + 4 → y < n → IsFreeFrame far.frames y
    is_free y near below = (are.free y (omega (arith, below, fits))).1
        (λ (x : (g : ℕ) × LiesOver far.spans g y). over_none y near below x.0 x.1)

    four_free : is_run far.frames (n - 4) 4 ≡ true
    four_free = run_of_free far.frames (n - 4) 4
        (λ y from to. is_free y (omega (arith, from)) (omega (arith, from, to, bad)))

  counted : ((f : ℕ) → is_run far.frames f 4 ≡ false) → (m n : ℕ) → n ≤ m → n ≤ length far.frames
      → n ≤ 7 * spans_below far.spans n + 3
  counted none zero n low fits = omega (arith, low)
  counted none (suc m) n low fits = by (cases_lt (7 * spans_below far.spans n + 3) n)
      (λ g below. counted none m g (omega (arith, below, low)) (omega (arith, below, fits)))
    where
      by : (7 * spans_below far.spans n + 3 < n) ⊎ (n ≤ 7 * spans_below far.spans n + 3)
          → ((g : ℕ) → g < n → g ≤ 7 * spans_below far.spans g + 3)
          → n ≤ 7 * spans_below far.spans n + 3
      by (inr good) before = good
      by (inl bad) before = absurd (true≢false (sym (four_free n fits before bad) ∙ none (n - 4)))

  -- seven frames for each span, and three more
  pub few_frames : (class : Class) → IsClass class → least_run far.frames (pages_of class) ≡ None
      → length far.frames ≤ 7 * spans_below far.spans (length far.frames) + 3
  few_frames class in_table full = counted (no_four far class in_table full) (length far.frames)
      (length far.frames) (omega arith) (omega arith)

-- ---- where each span has one page
none_some : (span : Contents) → None ≡ Some span → ⊥
none_some span e = cc

module _ (far : FarState) (are : AreFrames far)
    (narrow : (f : ℕ) (span : Contents) → span_in far.spans f ≡ Some span → pages_of span.class ≡ 1)
    (full : least_run far.frames 1 ≡ None) where
  pub has_span : (f : ℕ) → f < length far.frames
      → (span : Contents) × (span_in far.spans f ≡ Some span)
  has_span f below = by (span_in far.spans f) refl
    where
      none_over : span_in far.spans f ≡ None → (g : ℕ) × LiesOver far.spans g f → ⊥
      none_over none (g, over) =
          let one = narrow g over.span over.there in
          let from = over.from in let to = over.to in
          let here : f ≡ g = omega (arith, one, from, to) in
          none_some over.span (sym none ∙ ap (span_in far.spans) here ∙ over.there)

      free_from : IsFreeFrame far.frames f → (g : ℕ) → f ≤ g → g < f + 1 → IsFreeFrame far.frames g
      free_from free g from to =
          subst (IsFreeFrame far.frames) (let e : f ≡ g = omega (arith, from, to) in e) free

      by : (o : Option Contents) → span_in far.spans f ≡ o
          → (span : Contents) × (span_in far.spans f ≡ Some span)
      by (Some span) there = (span, there)
      by None none = absurd (true≢false (sym (run_of_free far.frames f 1
          (free_from ((are.free f below).1 (none_over none))))
          ∙ least_run-None far.frames 1 full (omega arith) f))

  all_stand : (n : ℕ) → n ≤ length far.frames → spans_below far.spans n ≡ n
  all_stand zero fits = refl
  all_stand (suc n) fits =
      let rest = all_stand n (omega (arith, fits)) in
      let one : one_if (stands_at far.spans n) ≡ 1 =
      ap (λ (o : Option Contents). one_if (is_some o)) (has_span n (omega (arith, fits))).1 in
      omega (arith, rest, one)

  -- so there are as many spans as frames
  pub all_frames : spans_below far.spans (length far.frames) ≡ length far.frames
  all_frames = all_stand (length far.frames) (omega arith)
