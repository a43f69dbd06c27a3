-- The sound world over the words as they are now, where others pinned, read and wrote since.
use Rattle.std.proofs.Common.{◌≡◌, ℕ, ◌+◌, ◌*◌, ◌<◌, ◌≤◌, ◌↔◌, List, length, get_or, Some, Contains, sym, refl, ap, ◌∙◌, subst, arith, inl, inr}
use Rattle.std.proofs.lemmas.Bool.{cases_eq}
use Rattle.cb_class.specs.Class.{pages_of}
use Rattle.cb_span.specs.Contents.{Contents, handle_at}
use Rattle.cb_span.specs.Places.{slot_place}
use Rattle.cb_world.specs.declared.object.Object.{Object}
use Rattle.cb_world.specs.declared.object.Object.TheVariants as is
use Rattle.cb_world.specs.declared.shown.Shown.{Shown}
use Rattle.cb_world.specs.Shown.{Owns, Spares, IsHeld, object_at, version_at, never}
use Rattle.cb_world.specs.FarState.{FarState, span_in}
use Rattle.cb_world.specs.Leaving.{LeavingState}
use Rattle.cb_world.specs.LocalSound.{LocalSound, LiesAt, IsStamped}
use Rattle.cb_world.specs.Sound.{Sound}
use Rattle.cb_world.proofs.Apart.{slot_inside, some_same}
use Rattle.cb_world.proofs.Lying.{spans_apart}
use Rattle.cb_world.proofs.Windows.{window_same}
use Rattle.cb_world.proofs.Unmoved.{KeepsLeaving, keeps_all, sound_near}

-- no object that others may change lies in the frames of a span whose objects are all held
pub frame_spares : (far : FarState) (s : Shown) (f p : ℕ) (span : Contents) → LocalSound s far
    → span_in far.spans f ≡ Some span
    → ((slot h : ℕ) → handle_at span slot ≡ Some h → IsHeld (object_at s h))
    → (512 * f ≤ p) × (p < 512 * (f + pages_of span.class)) → (k : ℕ) → Spares p (object_at s k)
frame_spares far s f p span sound there held (from, to) k = spare (object_at s k) refl
  where
    spare : (o : Object) → object_at s k ≡ o → Spares p o
    spare (is.Empty v) e = tt
    spare (is.Far len v words) e = tt
    spare (is.Claimed len place v words) e = tt
    spare (is.Here len place) e = λ covers.
        let lies : LiesAt (object_at s k) len place =
        subst (λ (o : Object). LiesAt o len place) (sym e) (refl, refl) in
        let c = sound.placed.placed k len place lies in
        let x = slot_inside far s k len place sound c in
        let here : c.frame ≡ f = elim (cases_eq c.frame f) [
          | inl same ↦ same
          | inr off ↦ absurd (elim (spans_apart far f c.frame span c.span sound.frames there c.there off) [
            | inl less ↦ omega (arith, x.0, x.1, covers.0, covers.1, from, to, less)
            | inr more ↦ omega (arith, x.0, x.1, covers.0, covers.1, from, to, more)
          ])
        ] in
        let one : c.span ≡ span =
        some_same c.span span (sym c.there ∙ ap (span_in far.spans) here ∙ there) in
        subst IsHeld e (held c.slot k (ap (λ (y : Contents). handle_at y c.slot) (sym one) ∙ c.named))

-- the caller owns every word of the frames of a span whose objects are all held
pub frame_owned : (far : FarState) (s : Shown) (f : ℕ) (span : Contents) → LocalSound s far
    → span_in far.spans f ≡ Some span
    → ((slot h : ℕ) → handle_at span slot ≡ Some h → IsHeld (object_at s h))
    → (p : ℕ) → (512 * f ≤ p) × (p < 512 * (f + pages_of span.class)) → Owns s p
frame_owned far s f span sound there held p lies = (
  omega (arith, lies.1, sound.frames.within f span there, sound.placed.memory),
  frame_spares far s f p span sound there held lies,
)

-- the holder of the far lock owns the words of the batch that is leaving
pub batch_owned : (s : Shown) (far : FarState) (batch : LeavingState) → Sound s far
    → far.leaving ≡ Some batch → (f : ℕ) (span : Contents) → Contains batch.frames f
    → span_in far.spans f ≡ Some span
    → (p : ℕ) → (512 * f ≤ p) × (p < 512 * (f + pages_of span.class)) → Owns s p
batch_owned s far batch sound at f span leaves there =
    let n = sound.noted batch at in
    frame_owned far s f span sound.here there
    (λ slot h named. subst IsHeld (sym (n.each f slot h span leaves there named).claimed) tt)

-- The objects are what they were. No version fell; those of objects that no one else may change are
-- the same, and so are the memory words that the holder owns.
pub record IsSeenFrom (s t : Shown) : Type 0 where
  pub first : t.first ≡ s.first
  pub objects : t.objects ≡ s.objects
  pub memory : length t.memory ≡ length s.memory
  pub stamps : (h : ℕ) → IsHeld (object_at s h) → version_at t h ≡ version_at s h
  pub risen : (h : ℕ) → version_at s h ≤ version_at t h
  pub owned : (p : ℕ) → Owns s p → get_or t.memory p 0 ≡ get_or s.memory p 0

-- The world is sound over the words as they are now.
pub seen_sound : (s t : Shown) (far : FarState) → Sound s far → IsSeenFrom s t → Sound t far
seen_sound s t far sound x = sound_near s t far far sound here (keeps_all far)
    (λ h. inl (at h)) leaving
  where
    at : (h : ℕ) → object_at t h ≡ object_at s h
    at h = ap (λ (l : List Object). get_or l h never) x.objects

    stamped_as : (o : Object) (v n : ℕ) → (IsHeld o → n ≡ v) → IsStamped o v → IsStamped o n
    stamped_as (is.Empty m) v n same e = same tt ∙ e
    stamped_as (is.Far len m words) v n same e = same tt ∙ e
    stamped_as (is.Here len place) v n same e = tt
    stamped_as (is.Claimed len place m words) v n same e = same tt ∙ e

    here : LocalSound t far
    here = let l = sound.here in record {
      known = record {
        first = x.first ∙ l.known.first;
        least = l.known.least;
        bounded = omega (arith, l.known.bounded, ap length x.objects);
        made = λ h below. subst (λ (o : Object). far.made ≤ h ↔ (o ≡ never)) (sym (at h))
            (l.known.made h (omega (arith, below, ap length x.objects)));
        stamped = λ h. subst (λ (o : Object). IsStamped o (version_at t h)) (sym (at h))
            (stamped_as (object_at s h) (version_at s h) (version_at t h) (x.stamps h)
            (l.known.stamped h));
        versioned = λ h below. omega (arith, l.known.versioned h below, x.risen h);
      };
      frames = l.frames;
      placed = record {
        memory = x.memory ∙ l.placed.memory;
        placed = λ h len place lies. l.placed.placed h len place
            (subst (λ (o : Object). LiesAt o len place) (at h) lies);
        named = λ f slot h span there taken. let y = l.placed.named f slot h span there taken in
            record {
              len = y.len;
              lies = subst (λ (o : Object). LiesAt o y.len (slot_place span.class f slot))
                  (sym (at h)) y.lies;
            };
      };
    }

    leaving : (batch : LeavingState) → far.leaving ≡ Some batch → KeepsLeaving s t far far batch
    leaving batch there = record {
      spans = λ f leaves. refl;
      words = λ f leaves. let held = (sound.noted batch there).held f leaves in
          window_same t.memory s.memory (512 * f) (512 * batch.pages) (λ p from to. x.owned p
          (batch_owned s far batch sound there f held.0 leaves held.1 p
          (from, omega (arith, to, held.2))));
    }
