-- Which frames a span has, once it is put at its first frame, and once it is taken out.
use Rattle.std.proofs.Common.{◌≡◌, ◌≢◌, ◌⊎◌, ◌↔◌, ℕ, Bool, true, false, ◌+◌, ◌<◌, ◌≤◌, List, Option, Some, None, length, set, sym, ap, ◌∙◌, subst, refl, arith, inl, inr, if◌then◌else◌, length-set, get_or-set_other, get_or-set_same}
use Rattle.std.proofs.lemmas.Bool.{cases_eq, cases_lt, cases_order, false≢true}
use Rattle.cb_class.specs.Class.{pages_of}
use Rattle.cb_class.proofs.Laws.{pages_some}
use Rattle.cb_frame.specs.FrameSet.{contains}
use Rattle.cb_frame.specs.FreeFrames.{IsFreeFrame, with_run_given, with_run_taken}
use Rattle.cb_frame.proofs.Laws.{flag_from_taken, length-with_run, with_run_in, with_run_out}
use Rattle.cb_span.specs.Contents.{Contents, IsSpan, live_count, with_cleared}
use Rattle.cb_span.proofs.Laws.{slot_in_range}
use Rattle.cb_world.specs.FarState.{FarState, span_in}
use Rattle.cb_world.specs.LocalSound.{AreFrames, HasSlot, LiesOver}
use Rattle.cb_world.specs.Released.{IsSlotAt, frames_without, is_last, with_released}
use Rattle.cb_world.proofs.Apart.{some_same}

none_some : (x : Contents) → None ≡ Some x → ⊥
none_some x e = cc

-- inside a run or out of it
abbrev pub IsOutOf : ℕ → ℕ → ℕ → Type 0
IsOutOf f n x = (x < f) ⊎ (f + n ≤ x)

pub where_is : (f n x : ℕ) → ((f ≤ x) × (x < f + n)) ⊎ IsOutOf f n x
where_is f n x = elim (cases_lt x f) [
  | inl before ↦ inr (inl before)
  | inr from ↦ elim (cases_lt x (f + n)) [
    | inl inside ↦ inl (from, inside)
    | inr behind ↦ inr (inr behind)
  ]
]

-- a frame out of a run is none of it, whatever the run is called
misses : (f n x g m : ℕ) → IsOutOf f n x → g ≤ x → x < g + m → g ≡ f → m ≡ n → ⊥
misses f n x g m (inl before) from to e k = omega (arith, before, from, e)
misses f n x g m (inr behind) from to e k = omega (arith, behind, to, e, k)

pages_same : (a b : Contents) → a ≡ b → pages_of a.class ≡ pages_of b.class
pages_same a b e = ap (λ (z : Contents). pages_of z.class) e

-- a span has a frame
pub has_pages : (far : FarState) (f : ℕ) (x : Contents) → AreFrames far
    → span_in far.spans f ≡ Some x → 1 ≤ pages_of x.class
has_pages far f x frames there = pages_some x.class (frames.valid f x there).in_table

-- no frame of a span is free
pub span_busy : (far : FarState) (f g : ℕ) (x : Contents) → AreFrames far
    → span_in far.spans f ≡ Some x → f ≤ g → g < f + pages_of x.class → ¬ (IsFreeFrame far.frames g)
span_busy far f g x frames there from to is =
    (frames.free g (omega (arith, to, frames.within f x there, frames.sized))).0 is
    (f, record { span = x; there = there; from = from; to = to })

-- no span stands at a later frame of another one
pub stands_alone : (far : FarState) (f g : ℕ) (x : Contents) → AreFrames far
    → span_in far.spans f ≡ Some x → f < g → g < f + pages_of x.class → span_in far.spans g ≡ None
stands_alone far f g x frames there behind to = at (span_in far.spans g) refl
  where
    at : (o : Option Contents) → span_in far.spans g ≡ o → span_in far.spans g ≡ None
    at None e = e
    at (Some y) e = absurd (omega (arith, frames.apart f g x y there e behind, to))

-- no span has a free frame
pub free_of_spans : (far : FarState) (f g : ℕ) (x : Contents) → AreFrames far
    → span_in far.spans g ≡ Some x → g ≤ f → f < g + pages_of x.class
    → IsFreeFrame far.frames f → ⊥
free_of_spans far f g x frames there from to is = span_busy far g f x frames there from to is

-- no span stands at a free frame
pub none_at_free : (far : FarState) (f : ℕ) → AreFrames far → IsFreeFrame far.frames f
    → span_in far.spans f ≡ None
none_at_free far f frames is = at (span_in far.spans f) refl
  where
    at : (o : Option Contents) → span_in far.spans f ≡ o → span_in far.spans f ≡ None
    at None e = e
    at (Some x) e = absurd (span_busy far f f x frames e (omega arith)
        (omega (arith, has_pages far f x frames e)) is)

-- what is said of frames and spans alone
pub frames_as : (far new : FarState) → new.frames ≡ far.frames → new.spans ≡ far.spans
    → AreFrames far → AreFrames new
frames_as far new frames spans x = rw (frames, spans) (record {
  sized = x.sized;
  within = x.within;
  apart = x.apart;
  free = x.free;
  valid = x.valid;
  taken = x.taken;
})

-- A span of so many pages may stand at the frame f: one that stands there has as many, no other one
-- has a frame of the run, and of the frames that are free then, these are none.
pub record MayStand (far : FarState) (f pages : ℕ) (new : List Bool) : Type 0 where
  pub within : f + pages ≤ length far.spans
  pub same : (q : Contents) → span_in far.spans f ≡ Some q → pages_of q.class ≡ pages
  pub apart : (g : ℕ) (q : Contents) → span_in far.spans g ≡ Some q → g ≢ f
      → (g + pages_of q.class ≤ f) ⊎ (f + pages ≤ g)
  pub sized : length new ≡ length far.frames
  pub busy : (g : ℕ) → f ≤ g → g < f + pages → contains new g ≡ false
  pub others : (g : ℕ) → IsOutOf f pages g → contains new g ≡ contains far.frames g

-- two spans have no frame in common
pub spans_apart : (far : FarState) (f g : ℕ) (x y : Contents) → AreFrames far
    → span_in far.spans f ≡ Some x → span_in far.spans g ≡ Some y → g ≢ f
    → (g + pages_of y.class ≤ f) ⊎ (f + pages_of x.class ≤ g)
spans_apart far f g x y frames there at off = elim (cases_order g f) [
  | inl e ↦ absurd (off e)
  | inr differ ↦ elim differ [
    | inl less ↦ inl (frames.apart g f y x at there less)
    | inr more ↦ inr (frames.apart f g x y there at more)
  ]
]

-- another span of as many pages may stand where one stands
pub stands_in_place : (far : FarState) (f : ℕ) (x : Contents) → AreFrames far
    → span_in far.spans f ≡ Some x → MayStand far f (pages_of x.class) far.frames
stands_in_place far f x frames there = record {
  within = frames.within f x there;
  same = λ q at. pages_same q x (some_same q x (sym at ∙ there));
  apart = λ g q at off. spans_apart far f g x q frames there at off;
  sized = refl;
  busy = λ g from to. flag_from_taken far.frames g (span_busy far f g x frames there from to);
  others = λ g out. refl;
}

-- and one may stand where as many frames are free, which are taken
pub stands_where_free : (far : FarState) (f pages : ℕ) → AreFrames far → 1 ≤ pages
    → f + pages ≤ length far.frames
    → ((g : ℕ) → f ≤ g → g < f + pages → IsFreeFrame far.frames g)
    → MayStand far f pages (with_run_taken far.frames f pages)
stands_where_free far f pages frames some fits free = record {
  within = omega (arith, fits, frames.sized);
  same = λ q at. absurd (no_span f f q at (omega arith) (omega (arith, some)) (omega arith)
      (omega (arith, has_pages far f q frames at)));
  apart = λ g q at off. beside g q at;
  sized = length-with_run far.frames f pages false;
  busy = λ g from to. with_run_in far.frames f pages g false fits from to;
  others = λ g out. with_run_out far.frames f pages g false out;
}
  where
    -- no span has one of these frames
    no_span : (g x : ℕ) (q : Contents) → span_in far.spans g ≡ Some q → f ≤ x → x < f + pages
        → g ≤ x → x < g + pages_of q.class → ⊥
    no_span g x q at low high from to = span_busy far g x q frames at from to (free x low high)

    beside : (g : ℕ) (q : Contents) → span_in far.spans g ≡ Some q
        → (g + pages_of q.class ≤ f) ⊎ (f + pages ≤ g)
    beside g q at = elim (cases_lt g f) [
      | inl below ↦ elim (cases_lt f (g + pages_of q.class)) [
        | inl over ↦ absurd (no_span g f q at (omega arith) (omega (arith, some))
            (omega (arith, below)) over)
        | inr done ↦ inl done
      ]
      | inr above ↦ elim (cases_lt g (f + pages)) [
        | inl over ↦ absurd (no_span g g q at above over (omega arith)
            (omega (arith, has_pages far g q frames at)))
        | inr behind ↦ inr behind
      ]
    ]

-- ---- a span is put where it may stand
module _ (far : FarState) (f : ℕ) (y : Contents) (new : List Bool) (frames : AreFrames far)
    (may : MayStand far f (pages_of y.class) new) (valid : IsSpan y) (live : 1 ≤ live_count y) where
  abbrev pub put_far : FarState
  put_far = record far { frames = new; spans = set far.spans f (Some y) }

  some : 1 ≤ pages_of y.class
  some = pages_some y.class valid.in_table

  here : span_in put_far.spans f ≡ Some y
  here = get_or-set_same far.spans f (Some y) None (omega (arith, some, may.within))

  elsewhere : (g : ℕ) → g ≢ f → span_in put_far.spans g ≡ span_in far.spans g
  elsewhere g off = get_or-set_other far.spans f g (Some y) None off

  is_put : (g : ℕ) (q : Contents) → span_in put_far.spans g ≡ Some q → g ≡ f → y ≡ q
  is_put g q at e = some_same y q (sym here ∙ ap (span_in put_far.spans) (sym e) ∙ at)

  older : (x g : ℕ) → IsOutOf f (pages_of y.class) x → LiesOver put_far.spans g x
      → LiesOver far.spans g x
  older x g out over = elim (cases_eq g f) [
    | inl e ↦ absurd (misses f (pages_of y.class) x g (pages_of over.span.class) out over.from
        over.to e (sym (pages_same y over.span (is_put g over.span over.there e))))
    | inr off ↦ record {
      span = over.span;
      there = sym (elsewhere g off) ∙ over.there;
      from = over.from;
      to = over.to;
    }
  ]

  newer : (x g : ℕ) → IsOutOf f (pages_of y.class) x → LiesOver far.spans g x
      → LiesOver put_far.spans g x
  newer x g out over = elim (cases_eq g f) [
    | inl e ↦ absurd (misses f (pages_of y.class) x g (pages_of over.span.class) out over.from
        over.to e (may.same over.span (ap (span_in far.spans) (sym e) ∙ over.there)))
    | inr off ↦ record {
      span = over.span;
      there = elsewhere g off ∙ over.there;
      from = over.from;
      to = over.to;
    }
  ]

  free_by : (x : ℕ) → x < length far.frames
      → ((f ≤ x) × (x < f + pages_of y.class)) ⊎ IsOutOf f (pages_of y.class) x
      → IsFreeFrame new x ↔ ¬ ((g : ℕ) × LiesOver put_far.spans g x)
  free_by x low (inl inside) = (
    (λ is. absurd (false≢true (sym (may.busy x inside.0 inside.1) ∙ is))),
    (λ none. absurd (none (f, record { span = y; there = here; from = inside.0; to = inside.1 }))),
  )
  free_by x low (inr out) = (
    (λ is over. (frames.free x low).0 (sym (may.others x out) ∙ is)
        (over.0, older x over.0 out over.1)),
    (λ none. may.others x out
        ∙ (frames.free x low).1 (λ over. none (over.0, newer x over.0 out over.1))),
  )

  pub frames_put : AreFrames put_far
  frames_put = record {
    sized = length-set far.spans f (Some y) ∙ frames.sized ∙ sym may.sized;
    within = λ g q at. let len = length-set far.spans f (Some y) in elim (cases_eq g f) [
      | inl e ↦ let k = pages_same y q (is_put g q at e) in omega (arith, k, e, may.within, len)
      | inr off ↦ let w = frames.within g q (sym (elsewhere g off) ∙ at) in omega (arith, w, len)
    ];
    apart = λ g h a b at_g at_h less. elim (cases_eq g f) [
      | inl e ↦
          let off : h ≢ f = λ z. omega (arith, less, e, z) in
          let k = pages_same y a (is_put g a at_g e) in
          elim (may.apart h b (sym (elsewhere h off) ∙ at_h) off) [
            | inl before ↦ absurd (omega (arith, before, less, e))
            | inr behind ↦ omega (arith, behind, e, k)
          ]
      | inr off_g ↦ elim (cases_eq h f) [
        | inl e ↦ elim (may.apart g a (sym (elsewhere g off_g) ∙ at_g) off_g) [
          | inl before ↦ omega (arith, before, e)
          | inr behind ↦ absurd (omega (arith, behind, less, e, some))
        ]
        | inr off_h ↦ frames.apart g h a b (sym (elsewhere g off_g) ∙ at_g) (sym (elsewhere h off_h) ∙ at_h)
            less
      ]
    ];
    free = λ x below. free_by x (omega (arith, below, may.sized)) (where_is f (pages_of y.class) x);
    valid = λ g q at. elim (cases_eq g f) [
      | inl e ↦ subst IsSpan (is_put g q at e) valid
      | inr off ↦ frames.valid g q (sym (elsewhere g off) ∙ at)
    ];
    taken = λ g q at. elim (cases_eq g f) [
      | inl e ↦ subst (λ (z : Contents). 1 ≤ live_count z) (is_put g q at e) live
      | inr off ↦ frames.taken g q (sym (elsewhere g off) ∙ at)
    ];
  }

-- ---- a span is taken out, and its frames are free
module _ (far : FarState) (f : ℕ) (x : Contents) (frames : AreFrames far)
    (there : span_in far.spans f ≡ Some x) where
  abbrev pub closed_far : FarState
  closed_far = record far {
    frames = with_run_given far.frames f (pages_of x.class);
    spans = set far.spans f None;
  }

  fits : f + pages_of x.class ≤ length far.frames
  fits = let w = frames.within f x there in omega (arith, w, frames.sized)

  gone : span_in closed_far.spans f ≡ None
  gone = get_or-set_same far.spans f None None
      (omega (arith, fits, frames.sized, has_pages far f x frames there))

  as_was : (g : ℕ) → g ≢ f → span_in closed_far.spans g ≡ span_in far.spans g
  as_was g off = get_or-set_other far.spans f g None None off

  pub stays_open : (g : ℕ) (q : Contents) → span_in closed_far.spans g ≡ Some q
      → (g ≢ f) × (span_in far.spans g ≡ Some q)
  stays_open g q at = elim (cases_eq g f) [
    | inl e ↦ absurd (none_some q (sym gone ∙ ap (span_in closed_far.spans) (sym e) ∙ at))
    | inr off ↦ (off, sym (as_was g off) ∙ at)
  ]

  before : (y g : ℕ) → LiesOver closed_far.spans g y → LiesOver far.spans g y
  before y g over = record {
    span = over.span;
    there = (stays_open g over.span over.there).1;
    from = over.from;
    to = over.to;
  }

  after : (y g : ℕ) → IsOutOf f (pages_of x.class) y → LiesOver far.spans g y
      → LiesOver closed_far.spans g y
  after y g out over = elim (cases_eq g f) [
    | inl e ↦ absurd (misses f (pages_of x.class) y g (pages_of over.span.class) out over.from
        over.to e (pages_same over.span x (some_same over.span x
        (sym over.there ∙ ap (span_in far.spans) e ∙ there))))
    | inr off ↦ record {
      span = over.span;
      there = as_was g off ∙ over.there;
      from = over.from;
      to = over.to;
    }
  ]

  -- the closed span alone had the frames of its run
  had_alone : (y : ℕ) → f ≤ y → y < f + pages_of x.class → (g : ℕ)
      → LiesOver closed_far.spans g y → ⊥
  had_alone y from to g over =
      let was = stays_open g over.span over.there in
      elim (spans_apart far f g x over.span frames there was.1 was.0) [
        | inl below ↦ omega (arith, below, over.to, from)
        | inr above ↦ omega (arith, above, over.from, to)
      ]

  free_then : (y : ℕ) → y < length far.frames
      → ((f ≤ y) × (y < f + pages_of x.class)) ⊎ IsOutOf f (pages_of x.class) y
      → IsFreeFrame closed_far.frames y ↔ ¬ ((g : ℕ) × LiesOver closed_far.spans g y)
  free_then y low (inl inside) = (
    (λ is over. had_alone y inside.0 inside.1 over.0 over.1),
    (λ none. with_run_in far.frames f (pages_of x.class) y true fits inside.0 inside.1),
  )
  free_then y low (inr out) = (
    (λ is over. (frames.free y low).0
        (sym (with_run_out far.frames f (pages_of x.class) y true out) ∙ is)
        (over.0, before y over.0 over.1)),
    (λ none. with_run_out far.frames f (pages_of x.class) y true out
        ∙ (frames.free y low).1 (λ over. none (over.0, after y over.0 out over.1))),
  )

  pub frames_closed : AreFrames closed_far
  frames_closed = record {
    sized = length-set far.spans f None ∙ frames.sized
        ∙ sym (length-with_run far.frames f (pages_of x.class) true);
    within = λ g q at. let w = frames.within g q (stays_open g q at).1 in
        let len = length-set far.spans f None in omega (arith, w, len);
    apart = λ g h a b at_g at_h less.
        frames.apart g h a b (stays_open g a at_g).1 (stays_open h b at_h).1 less;
    free = λ y below. let len = length-with_run far.frames f (pages_of x.class) true in
        free_then y (omega (arith, below, len)) (where_is f (pages_of x.class) y);
    valid = λ g q at. frames.valid g q (stays_open g q at).1;
    taken = λ g q at. frames.taken g q (stays_open g q at).1;
  }

  -- ---- a span may stand where it might before an object of another one went
  module _ (g pages : ℕ) (new : List Bool) (may : MayStand far g pages new) (off : f ≢ g) where
    apart_from : (f + pages_of x.class ≤ g) ⊎ (g + pages ≤ f)
    apart_from = may.apart f x there off

    run_off : (y : ℕ) → g ≤ y → y < g + pages → IsOutOf f (pages_of x.class) y
    run_off y from to = elim apart_from [
      | inl below ↦ inr (omega (arith, below, from))
      | inr above ↦ inl (omega (arith, above, to))
    ]

    given_alike : (y : ℕ) → IsOutOf g pages y
        → ((f ≤ y) × (y < f + pages_of x.class)) ⊎ IsOutOf f (pages_of x.class) y
        → contains (with_run_given new f (pages_of x.class)) y ≡ contains closed_far.frames y
    given_alike y out (inl inside) =
        with_run_in new f (pages_of x.class) y true (omega (arith, fits, may.sized)) inside.0 inside.1
        ∙ sym (with_run_in far.frames f (pages_of x.class) y true fits inside.0 inside.1)
    given_alike y out (inr beside) =
        with_run_out new f (pages_of x.class) y true beside ∙ may.others y out
        ∙ sym (with_run_out far.frames f (pages_of x.class) y true beside)

    pub stands_closed : MayStand closed_far g pages (with_run_given new f (pages_of x.class))
    stands_closed = record {
      within = subst (λ (n : ℕ). g + pages ≤ n) (sym (length-set far.spans f None)) may.within;
      same = λ q at. may.same q (stays_open g q at).1;
      apart = λ h q at apart. may.apart h q (stays_open h q at).1 apart;
      sized = length-with_run new f (pages_of x.class) true ∙ may.sized
          ∙ sym (length-with_run far.frames f (pages_of x.class) true);
      busy = λ y from to. with_run_out new f (pages_of x.class) y true (run_off y from to)
          ∙ may.busy y from to;
      others = λ y out. given_alike y out (where_is f (pages_of x.class) y);
    }

    -- where the span that stood at f is another one of its pages
    pub stands_beside : (z : Contents) → pages_of z.class ≡ pages_of x.class
        → MayStand (record far { spans = set far.spans f (Some z) }) g pages new
    stands_beside z alike = record {
      within = subst (λ (n : ℕ). g + pages ≤ n) (sym (length-set far.spans f (Some z))) may.within;
      same = λ q at. may.same q (sym (else_same g (λ e. off (sym e))) ∙ at);
      apart = λ h q at apart. elim (cases_eq h f) [
        | inl e ↦
            let k = pages_same z q (some_same z q (sym (put_same) ∙ ap (span_in spans) (sym e) ∙ at)) in
            elim apart_from [
              | inl below ↦ inl (omega (arith, below, e, k, alike))
              | inr above ↦ inr (omega (arith, above, e))
            ]
        | inr other ↦ may.apart h q (sym (else_same h other) ∙ at) apart
      ];
      sized = may.sized;
      busy = may.busy;
      others = may.others;
    }
      where
        spans : List (Option Contents)
        spans = set far.spans f (Some z)

        put_same : span_in spans f ≡ Some z
        put_same = get_or-set_same far.spans f (Some z) None
            (omega (arith, fits, frames.sized, has_pages far f x frames there))

        else_same : (h : ℕ) → h ≢ f → span_in spans h ≡ span_in far.spans h
        else_same h other = get_or-set_other far.spans f h (Some z) None other

-- ---- the slot of an object, and no other span has its frames
pub slot_lies : (far : FarState) (h len place : ℕ) → AreFrames far
    → (c : HasSlot far.spans h len place)
    → IsSlotAt far.frames far.spans place c.frame c.slot c.span
slot_lies far h len place frames c =
    let run = frames.within c.frame c.span c.there in record {
      there = c.there;
      at = c.at;
      inside = slot_in_range c.span c.slot h c.named;
      valid = frames.valid c.frame c.span c.there;
      within = omega (arith, run, has_pages far c.frame c.span frames c.there);
      counted = omega (arith, run, frames.sized);
      alone = λ g behind to. stands_alone far c.frame g c.span frames c.there behind to;
      busy = λ g from to. span_busy far c.frame g c.span frames c.there from to;
    }

-- where a span may stand, it may once an object of another span is released
pub stands_released : (far : FarState) (f slot : ℕ) (x : Contents) → AreFrames far
    → span_in far.spans f ≡ Some x → (g pages : ℕ) (new : List Bool) → MayStand far g pages new
    → f ≢ g → MayStand (with_released far f slot x) g pages (frames_without new f slot x)
stands_released far f slot x frames there g pages new may off = by (is_last x slot)
  where
    by : (b : Bool) → MayStand (record far {
      frames = if b then with_run_given far.frames f (pages_of x.class) else far.frames;
      spans = set far.spans f (if b then None else Some (with_cleared x slot));
    }) g pages (if b then with_run_given new f (pages_of x.class) else new)
    by true = stands_closed far f x frames there g pages new may off
    by false = stands_beside far f x frames there g pages new may off (with_cleared x slot) refl
