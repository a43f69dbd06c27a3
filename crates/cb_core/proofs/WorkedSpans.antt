-- Worked examples of frames and the spans that they are of: one of two pages, one of four.
use Rattle.std.proofs.Common.{◌≡◌, ◌↔◌, ◌⊎◌, ℕ, zero, suc, ◌+◌, ◌<◌, ◌≤◌, Bool, true, false, List, [], ◌∷◌, Option, None, Some, length, replicate, refl, sym, ◌∙◌, subst, lit<, lit≤, arith, inl, inr}
use Rattle.cb_class.specs.Class.{bytes_of, pages_of, slots_of}
use Rattle.cb_frame.specs.FrameSet.{contains}
use Rattle.cb_frame.specs.FreeFrames.{IsFreeFrame}
use Rattle.cb_member.specs.Membership.{fresh_members}
use Rattle.cb_span.specs.declared.temp.Temp.TheVariants.{Hot}
use Rattle.cb_span.specs.Contents.{Contents, IsSpan, live_count, span_of}
use Rattle.cb_world.specs.FarState.{FarState, span_in}
use Rattle.cb_world.specs.LocalSound.{AreFrames, LiesOver}
use Rattle.cb_world.proofs.Laws.{some_same}
use Rattle.cb_core.proofs.WorkedRoom.{counts, far_of}

-- slots of 1,536 bytes, five in two pages
abbrev two : Contents
two = span_of (record { index = 12 }) Hot (Some 0 ∷ None ∷ None ∷ None ∷ None ∷ [])

-- slots of 4,096 bytes, four in four pages
abbrev four : Contents
four = span_of (record { index = 15 }) Hot (Some 1 ∷ None ∷ None ∷ None ∷ [])

two_pages : pages_of two.class ≡ 2
unfolding pages_of
two_pages = refl

four_pages : pages_of four.class ≡ 4
unfolding pages_of
four_pages = refl

two_is_span : IsSpan two
unfolding slots_of pages_of bytes_of
two_is_span = record { in_table = lit< tt; sized = refl }

four_is_span : IsSpan four
unfolding slots_of pages_of bytes_of
four_is_span = record { in_table = lit< tt; sized = refl }

abbrev far : List Bool → List (Option Contents) → FarState
far frames spans =
    record (far_of None None None (fresh_members 2) (counts 0 [])) { frames = frames; spans = spans }

-- both spans, the one of four pages behind the one of two, and a free frame behind them
abbrev whole : FarState
whole = far (false ∷ false ∷ false ∷ false ∷ false ∷ false ∷ true ∷ [])
    (Some two ∷ None ∷ Some four ∷ None ∷ None ∷ None ∷ None ∷ [])

-- there are five frames, and the span of four pages stands at frame 2
abbrev short : FarState
short = far (false ∷ false ∷ false ∷ false ∷ false ∷ [])
    (Some two ∷ None ∷ Some four ∷ None ∷ None ∷ [])

-- it stands at frame 1, which is the other span's too
abbrev crossing : FarState
crossing = far (false ∷ false ∷ false ∷ false ∷ false ∷ [])
    (Some two ∷ Some four ∷ None ∷ None ∷ None ∷ [])

-- ---- what is true of all three

-- the spans are these two, and the one of four pages stands at this frame
abbrev AreThese : List (Option Contents) → ℕ → Type 0
AreThese spans at = (f : ℕ) (x : Contents) → span_in spans f ≡ Some x
    → ((f ≡ 0) × (two ≡ x)) ⊎ ((f ≡ at) × (four ≡ x))

-- of each span alone, and of each frame whether it is free: all but where spans may stand, which is
-- said behind it
record AreFilled (far : FarState) : Type 0 where
  sized : length far.spans ≡ length far.frames
  free : (f : ℕ) → f < length far.frames → IsFreeFrame far.frames f
      ↔ ¬ ((g : ℕ) × LiesOver far.spans g f)
  valid : (f : ℕ) (x : Contents) → span_in far.spans f ≡ Some x → IsSpan x
  taken : (f : ℕ) (x : Contents) → span_in far.spans f ≡ Some x → 1 ≤ live_count x

abbrev Within : FarState → Type 0
Within far = (f : ℕ) (x : Contents) → span_in far.spans f ≡ Some x
    → f + pages_of x.class ≤ length far.spans

abbrev Apart : FarState → Type 0
Apart far = (f g : ℕ) (a b : Contents) → span_in far.spans f ≡ Some a
    → span_in far.spans g ≡ Some b → f < g → f + pages_of a.class ≤ g

pages_as : (x y : Contents) (n : ℕ) → pages_of x.class ≡ n → x ≡ y → pages_of y.class ≡ n
pages_as x y n pages e = subst (λ (z : Contents). pages_of z.class ≡ n) e pages

module _ (spans : List (Option Contents)) (at : ℕ) (these : AreThese spans at) where
  valid : (f : ℕ) (x : Contents) → span_in spans f ≡ Some x → IsSpan x
  valid f x e = elim (these f x e) [
    | inl first ↦ subst IsSpan first.1 two_is_span
    | inr second ↦ subst IsSpan second.1 four_is_span
  ]

  taken : (f : ℕ) (x : Contents) → span_in spans f ≡ Some x → 1 ≤ live_count x
  taken f x e = elim (these f x e) [
    | inl first ↦ subst (λ (z : Contents). 1 ≤ live_count z) first.1 (lit≤ tt)
    | inr second ↦ subst (λ (z : Contents). 1 ≤ live_count z) second.1 (lit≤ tt)
  ]

  within : (n f : ℕ) (x : Contents) → 2 ≤ n → at + 4 ≤ n → span_in spans f ≡ Some x
      → f + pages_of x.class ≤ n
  within n f x a b e = elim (these f x e) [
    | inl first ↦ omega (arith, a, first.0, pages_as two x 2 two_pages first.1)
    | inr second ↦ omega (arith, b, second.0, pages_as four x 4 four_pages second.1)
  ]

  apart : (f g : ℕ) (a b : Contents) → 2 ≤ at → span_in spans f ≡ Some a
      → span_in spans g ≡ Some b → f < g → f + pages_of a.class ≤ g
  apart f g a b far d e less = elim (these f a d) [
    | inl first ↦ elim (these g b e) [
      | inl other ↦ absurd (omega (arith, less, other.0))
      | inr other ↦
          omega (arith, far, first.0, other.0, pages_as two a 2 two_pages first.1)
    ]
    | inr second ↦ elim (these g b e) [
      | inl other ↦ absurd (omega (arith, less, other.0))
      | inr other ↦ absurd (omega (arith, less, second.0, other.0))
    ]
  ]

  -- no frame behind both is one of theirs
  none_behind : (n g f : ℕ) → 2 ≤ n → at + 4 ≤ n → n ≤ f → LiesOver spans g f → ⊥
  none_behind n g f a b past over =
      omega (arith, past, over.to, within n g over.span a b over.there)

-- a frame that is taken is one of a span's
busy : (frames : List Bool) (spans : List (Option Contents)) (f g : ℕ) (x : Contents)
    → contains frames f ≡ false → span_in spans g ≡ Some x → g ≤ f → f < g + pages_of x.class
    → IsFreeFrame frames f ↔ ¬ ((h : ℕ) × LiesOver spans h f)
busy frames spans f g x taken there from to = (
  (λ free none. differ (sym taken ∙ free)),
  (λ none. absurd (none (g, record { span = x; there = there; from = from; to = to }))),
)
  where
    differ : false ≡ true → ⊥
    differ e = cc

no_spans : (n f : ℕ) (x : Contents) → span_in (replicate n None) f ≡ Some x → ⊥
no_spans zero f x e = cc
no_spans (suc n) zero x e = cc
no_spans (suc n) (suc f) x e = no_spans n f x e

-- ---- both stand apart and within the frames
whole_these : AreThese whole.spans 2
whole_these zero x e = inl (refl, some_same two x e)
whole_these (suc zero) x e = absurd (cc)
whole_these (suc (suc zero)) x e = inr (refl, some_same four x e)
whole_these (suc (suc (suc f))) x e = absurd (no_spans 4 f x e)

whole_free : (f : ℕ) → f < 7
    → IsFreeFrame whole.frames f ↔ ¬ ((g : ℕ) × LiesOver whole.spans g f)
whole_free zero below =
    busy whole.frames whole.spans 0 0 two refl refl (lit≤ tt) (omega (arith, two_pages))
whole_free (suc zero) below =
    busy whole.frames whole.spans 1 0 two refl refl (lit≤ tt) (omega (arith, two_pages))
whole_free (suc (suc zero)) below =
    busy whole.frames whole.spans 2 2 four refl refl (lit≤ tt) (omega (arith, four_pages))
whole_free (suc (suc (suc zero))) below =
    busy whole.frames whole.spans 3 2 four refl refl (lit≤ tt) (omega (arith, four_pages))
whole_free (suc (suc (suc (suc zero)))) below =
    busy whole.frames whole.spans 4 2 four refl refl (lit≤ tt) (omega (arith, four_pages))
whole_free (suc (suc (suc (suc (suc zero))))) below =
    busy whole.frames whole.spans 5 2 four refl refl (lit≤ tt) (omega (arith, four_pages))
whole_free (suc (suc (suc (suc (suc (suc zero)))))) below = (
  (λ free over. none_behind whole.spans 2 whole_these 6 over.0 6 (lit≤ tt) (lit≤ tt) (lit≤ tt)
      over.1),
  (λ none. refl),
)
whole_free (suc (suc (suc (suc (suc (suc (suc f))))))) below = absurd (omega (arith, below))

are_frames : AreFrames whole
are_frames = record {
  sized = refl;
  within = λ f x e. within whole.spans 2 whole_these 7 f x (lit≤ tt) (lit≤ tt) e;
  apart = λ f g a b d e less. apart whole.spans 2 whole_these f g a b (lit≤ tt) d e less;
  free = whole_free;
  valid = valid whole.spans 2 whole_these;
  taken = taken whole.spans 2 whole_these;
}

-- ---- the span of four pages ends behind the last frame: this alone is wrong
short_these : AreThese short.spans 2
short_these zero x e = inl (refl, some_same two x e)
short_these (suc zero) x e = absurd (cc)
short_these (suc (suc zero)) x e = inr (refl, some_same four x e)
short_these (suc (suc (suc f))) x e = absurd (no_spans 2 f x e)

short_free : (f : ℕ) → f < 5
    → IsFreeFrame short.frames f ↔ ¬ ((g : ℕ) × LiesOver short.spans g f)
short_free zero below =
    busy short.frames short.spans 0 0 two refl refl (lit≤ tt) (omega (arith, two_pages))
short_free (suc zero) below =
    busy short.frames short.spans 1 0 two refl refl (lit≤ tt) (omega (arith, two_pages))
short_free (suc (suc zero)) below =
    busy short.frames short.spans 2 2 four refl refl (lit≤ tt) (omega (arith, four_pages))
short_free (suc (suc (suc zero))) below =
    busy short.frames short.spans 3 2 four refl refl (lit≤ tt) (omega (arith, four_pages))
short_free (suc (suc (suc (suc zero)))) below =
    busy short.frames short.spans 4 2 four refl refl (lit≤ tt) (omega (arith, four_pages))
short_free (suc (suc (suc (suc (suc f))))) below = absurd (omega (arith, below))

short_filled : AreFilled short
short_filled = record {
  sized = refl;
  free = short_free;
  valid = valid short.spans 2 short_these;
  taken = taken short.spans 2 short_these;
}

short_apart : Apart short
short_apart f g a b d e less = apart short.spans 2 short_these f g a b (lit≤ tt) d e less

ends_behind_the_last_frame : ¬ (AreFrames short)
ends_behind_the_last_frame x = omega (arith, x.within 2 four refl, four_pages)

-- ---- the spans have frame 1 in common: this alone is wrong
crossing_these : AreThese crossing.spans 1
crossing_these zero x e = inl (refl, some_same two x e)
crossing_these (suc zero) x e = inr (refl, some_same four x e)
crossing_these (suc (suc f)) x e = absurd (no_spans 3 f x e)

crossing_free : (f : ℕ) → f < 5
    → IsFreeFrame crossing.frames f ↔ ¬ ((g : ℕ) × LiesOver crossing.spans g f)
crossing_free zero below =
    busy crossing.frames crossing.spans 0 0 two refl refl (lit≤ tt) (omega (arith, two_pages))
crossing_free (suc zero) below =
    busy crossing.frames crossing.spans 1 0 two refl refl (lit≤ tt) (omega (arith, two_pages))
crossing_free (suc (suc zero)) below =
    busy crossing.frames crossing.spans 2 1 four refl refl (lit≤ tt) (omega (arith, four_pages))
crossing_free (suc (suc (suc zero))) below =
    busy crossing.frames crossing.spans 3 1 four refl refl (lit≤ tt) (omega (arith, four_pages))
crossing_free (suc (suc (suc (suc zero)))) below =
    busy crossing.frames crossing.spans 4 1 four refl refl (lit≤ tt) (omega (arith, four_pages))
crossing_free (suc (suc (suc (suc (suc f))))) below = absurd (omega (arith, below))

crossing_filled : AreFilled crossing
crossing_filled = record {
  sized = refl;
  free = crossing_free;
  valid = valid crossing.spans 1 crossing_these;
  taken = taken crossing.spans 1 crossing_these;
}

crossing_within : Within crossing
crossing_within f x e = within crossing.spans 1 crossing_these 5 f x (lit≤ tt) (lit≤ tt) e

have_a_frame_in_common : ¬ (AreFrames crossing)
have_a_frame_in_common x =
    omega (arith, x.apart 0 1 two four refl refl (lit< tt), two_pages)
