-- The sound world once all objects of a span are away and its frames are given back.
use Rattle.std.proofs.Common.{◌≡◌, ◌≢◌, ◌⊎◌, ◌↔◌, ℕ, ◌*◌, ◌<◌, ◌≤◌, length, set, sym, ap, ◌∙◌, subst, arith, inl, inr, Some, None, length-set, get_or-set_other, get_or-set_same}
use Rattle.std.proofs.lemmas.Bool.{cases_eq}
use Rattle.cb_class.specs.Class.{pages_of}
use Rattle.cb_frame.specs.FreeFrames.{with_run_given}
use Rattle.cb_span.specs.Contents.{Contents, handle_at}
use Rattle.cb_span.specs.Places.{slot_place}
use Rattle.cb_world.specs.declared.object.Object.{Object}
use Rattle.cb_world.specs.declared.shown.Shown.{Shown}
use Rattle.cb_world.specs.Shown.{object_at, version_at, never}
use Rattle.cb_world.specs.FarState.{FarState, span_in}
use Rattle.cb_world.specs.LocalSound.{LocalSound, LiesAt, IsStamped}
use Rattle.cb_world.proofs.Freed.{one_slot}
use Rattle.cb_world.proofs.Lying.{frames_closed}

-- the object is as it was, and the span does not name it
pub record IsSpared (s t : Shown) (span : Contents) (h : ℕ) : Type 0 where
  pub object : object_at t h ≡ object_at s h
  pub absent : (slot : ℕ) → handle_at span slot ≡ Some h → ⊥

-- the span names the object, which was made and lies nowhere in local memory any more
pub record IsSentAway (t : Shown) (span : Contents) (h : ℕ) : Type 0 where
  pub slot : ℕ
  pub named : handle_at span slot ≡ Some h
  pub gone : (len place : ℕ) → LiesAt (object_at t h) len place → ⊥
  pub made : object_at t h ≡ never → ⊥

pub record IsSentOff (s t : Shown) (span : Contents) : Type 0 where
  pub first : t.first ≡ s.first
  pub memory : length t.memory ≡ length s.memory
  pub objects : length t.objects ≡ length s.objects
  pub stamped : (h : ℕ) → IsStamped (object_at t h) (version_at t h)
  pub risen : (h : ℕ) → version_at s h ≤ version_at t h
  pub each : (h : ℕ) → IsSpared s t span h ⊎ IsSentAway t span h

-- the far state without the span, whose frames are given back
abbrev pub with_closed : FarState → ℕ → Contents → FarState
with_closed far f span = record far {
  frames = with_run_given far.frames f (pages_of span.class);
  spans = set far.spans f None;
}

some_none : (x : Contents) → Some x ≡ None → ⊥
some_none x e = cc

lies_never : (o : Object) (len place : ℕ) → LiesAt o len place → o ≡ never → ⊥
lies_never o len place lies e = subst (λ (q : Object). LiesAt q len place) e lies

pub sound_closed : (far : FarState) (s t : Shown) (f : ℕ) (span : Contents) → LocalSound s far
    → span_in far.spans f ≡ Some span → f < length far.spans → IsSentOff s t span
    → LocalSound t (with_closed far f span)
sound_closed far s t f span sound there within x =
    let here : span_in (set far.spans f None) f ≡ None =
    get_or-set_same far.spans f None None within in
    let else : (g : ℕ) → g ≢ f → span_in (set far.spans f None) g ≡ span_in far.spans g =
    λ g off. get_or-set_other far.spans f g None None off in
    record {
      known = record {
        first = x.first ∙ sound.known.first;
        least = sound.known.least;
        bounded = omega (arith, sound.known.bounded, x.objects);
        made = λ h below. elim (x.each h) [
          | inl spared ↦
              subst (λ (o : Object).
              far.made ≤ h ↔ (o ≡ never)) (sym spared.object) (sound.known.made h (omega (
                arith,
                below,
                x.objects,
              )))
          | inr sent ↦ let n = sound.placed.named f sent.slot h span there sent.named in (
            (λ m. absurd
                (lies_never (object_at s h) n.len (slot_place span.class f sent.slot) n.lies
                ((sound.known.made h (omega (arith, below, x.objects))).0 m))),
            (λ z. absurd
                (sent.made z)),
          )
        ];
        stamped = x.stamped;
        versioned = λ h below. omega (arith, sound.known.versioned h below, x.risen h);
      };
      frames = frames_closed far f span sound.frames there;
      placed = record {
        memory = x.memory ∙ sound.placed.memory
            ∙ ap (λ (n : ℕ). 512 * n) (sym (length-set far.spans f None));
        placed = λ h len place lies. elim (x.each h) [
          | inl spared ↦ let d =
              sound.placed.placed h len place (subst (λ (o : Object).
              LiesAt o len place) spared.object lies) in
              let off : d.frame ≢ f =
              λ e. spared.absent d.slot (ap (λ (c : Contents).
              handle_at c d.slot) (same_span span d.span (sym there
              ∙ ap (span_in far.spans) (sym e) ∙ d.there)) ∙ d.named) in
              record {
                frame = d.frame;
                slot = d.slot;
                span = d.span;
                there = else d.frame off
                    ∙ d.there;
                named = d.named;
                at = d.at;
                fits = d.fits;
              }
          | inr sent ↦ absurd (sent.gone len place lies)
        ];
        named = λ g slot h other at taken. let d =
            sound.placed.named g slot h other (was g other at) taken in elim (x.each h) [
              | inl spared ↦
                  record {
                    len = d.len;
                    lies =
                        subst (λ (o : Object).
                        LiesAt o d.len (slot_place other.class g slot)) (sym spared.object) d.lies;
                  }
              | inr sent ↦
                  let c = sound.placed.placed h d.len (slot_place other.class g slot) d.lies in
                  let one = one_slot far s h d.len (slot_place other.class g slot) g slot other sound
                  d.lies c (was g other at) taken in
                  let two = one_slot far s h d.len (slot_place other.class g slot) f sent.slot span
                  sound d.lies c there sent.named in
                  absurd (some_none other (sym at
                  ∙ ap (span_in (set far.spans f None)) (one.0 ∙ sym two.0) ∙ here))
            ];
      };
    }
  where
    same_span : (a b : Contents) → Some a ≡ Some b → a ≡ b
    same_span a b e = cc

    was : (g : ℕ) (other : Contents) → span_in (set far.spans f None) g ≡ Some other
        → span_in far.spans g ≡ Some other
    was g other at = elim (cases_eq g f) [
      | inl e ↦ absurd (some_none other (sym at ∙ ap (span_in (set far.spans f None)) e
          ∙ get_or-set_same far.spans f None None within))
      | inr off ↦ sym (get_or-set_other far.spans f g None None off) ∙ at
    ]
