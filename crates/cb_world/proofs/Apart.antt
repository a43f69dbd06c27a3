-- Objects in local memory do not overlap, and owned places stay owned.
use Rattle.std.proofs.Common.{◌≡◌, ◌≢◌, ℕ, ◌+◌, ◌*◌, ◌<◌, ◌≤◌, sym, ap, ◌∙◌, subst, arith, inl, inr, Option, Some, None}
use Rattle.std.proofs.lemmas.Bool.{cases_order}
use Rattle.cb_class.specs.Class.{words_of, slots_of, pages_of}
use Rattle.cb_class.proofs.Laws.{object_fits, slot_in_run, slots_apart}
use Rattle.cb_span.specs.Contents.{Contents, IsSpan, handle_at}
use Rattle.cb_span.proofs.Laws.{slot_in_range}
use Rattle.cb_world.specs.Memory.{words_for}
use Rattle.cb_world.specs.declared.shown.Shown.{Shown}
use Rattle.cb_world.specs.Shown.{Covers, object_at}
use Rattle.cb_world.specs.FarState.{FarState, span_in}
use Rattle.cb_world.specs.LocalSound.{LocalSound, HasSlot, LiesAt}

-- where a slot lies: inside the frames of its span
pub slot_inside : (far : FarState) (s : Shown) (h len place : ℕ) → LocalSound s far
    → (c : HasSlot far.spans h len place)
    → (512 * c.frame ≤ place)
    × (place + words_for len ≤ 512 * (c.frame + pages_of c.span.class))
slot_inside far s h len place sound c =
    let valid : IsSpan c.span = sound.frames.valid c.frame c.span c.there in
    let range : c.slot < slots_of c.span.class =
    subst (λ (n : ℕ). c.slot < n) valid.sized (slot_in_range c.span c.slot h c.named) in
    let ends = slot_in_run c.span.class c.slot valid.in_table range in
    let fits = object_fits len c.span.class c.fits in
    (omega (arith, c.at), omega (arith, c.at, ends, fits))

abbrev unwrapped : {A : Type 0} → A → Option A → A
unwrapped d None = d
unwrapped d (Some z) = z

pub some_same : {A : Type 0} (x y : A) → Some x ≡ Some y → x ≡ y
some_same x y e = ap (unwrapped x) e

-- two objects in one span lie in different slots
in_one : (far : FarState) (h len place k len' place' p : ℕ) (c : HasSlot far.spans h len place)
    (d : HasSlot far.spans k len' place') → h ≢ k
    → Covers place len p → Covers place' len' p → c.frame ≡ d.frame → ⊥
in_one far h len place k len' place' p c d other u v same =
    let span : c.span ≡ d.span =
    some_same c.span d.span (sym c.there ∙ ap (span_in far.spans) same ∙ d.there) in
    let fit_h = object_fits len c.span.class c.fits in
    let fit_k = object_fits len' d.span.class d.fits in
    let width : words_of c.span.class ≡ words_of d.span.class =
    ap (λ (q : Contents). words_of q.class) span in
    let starts : 512 * c.frame + c.slot * words_of c.span.class ≡ place = sym c.at in
    let starts' : 512 * c.frame + d.slot * words_of c.span.class ≡ place' =
    ap (λ (n : ℕ). 512 * n + d.slot * words_of c.span.class) same
    ∙ ap (λ (n : ℕ). 512 * d.frame + d.slot * n) width ∙ sym d.at in
    elim (cases_order c.slot d.slot) [
      | inl one ↦
          other (some_same h k (sym c.named ∙ ap (λ (q : Contents). handle_at q c.slot) span
          ∙ ap (handle_at d.span) one ∙ d.named))
      | inr differ ↦ elim differ [
        | inl less ↦ let far_off =
            slots_apart c.span.class c.slot d.slot less in
            omega (arith, u.0, u.1, v.0, v.1, fit_h, fit_k, width, starts, starts', far_off)
        | inr more ↦ let far_off =
            slots_apart c.span.class d.slot c.slot more in
            omega (arith, u.0, u.1, v.0, v.1, fit_h, fit_k, width, starts, starts', far_off)
      ]
    ]

pub apart : (far : FarState) (s : Shown) (h len place k len' place' p : ℕ) → LocalSound s far
    → LiesAt (object_at s h) len place → LiesAt (object_at s k) len' place' → h ≢ k
    → Covers place len p → Covers place' len' p → ⊥
apart far s h len place k len' place' p sound a b other u v =
    let c = sound.placed.placed h len place a in
    let d = sound.placed.placed k len' place' b in
    let x = slot_inside far s h len place sound c in
    let y = slot_inside far s k len' place' sound d in
    elim (cases_order c.frame d.frame) [
      | inl same ↦ in_one far h len place k len' place' p c d other u v same
      | inr differ ↦ elim differ [
        | inl less ↦
            let run = sound.frames.apart c.frame d.frame c.span d.span c.there d.there less in
            omega (arith, u.0, u.1, v.0, v.1, x.0, x.1, y.0, y.1, run)
        | inr more ↦
            let run = sound.frames.apart d.frame c.frame d.span c.span d.there c.there more in
            omega (arith, u.0, u.1, v.0, v.1, x.0, x.1, y.0, y.1, run)
      ]
    ]
