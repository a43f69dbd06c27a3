-- The world after an object in local memory is freed.
use Rattle.std.proofs.Common.{◌≡◌, ◌≢◌, ◌↔◌, ℕ, ◌+◌, ◌*◌, ◌<◌, ◌≤◌, List, length, set, sym, ap, ◌∙◌, subst, arith, inl, inr, Option, Some, None, length-set, get_or-set_other, get_or-set_same}
use native.Mathlib.Decide.{ℕ_discrete}
use Rattle.cb_class.specs.declared.class.Class.{Class}
use Rattle.cb_class.specs.Class.{IsClass, IsClassOf, pages_of, slots_of}
use Rattle.cb_class.proofs.Laws.{words_at_least}
use Rattle.std.proofs.lemmas.Bool.{cases_order}
use Rattle.cb_span.specs.Contents.{Contents, handle_at, with_cleared, live_count}
use Rattle.cb_span.specs.Places.{slot_place}
use Rattle.cb_span.proofs.Laws.{slot_in_range, frames_apart, same_slot, IsSpan-with_cleared, handle_at-with_cleared, handle_at-with_cleared_other}
use Rattle.cb_world.specs.declared.object.Object.{Object}
use Rattle.cb_world.specs.declared.object.Object.TheVariants as is
use Rattle.cb_world.specs.declared.shown.Shown.{Shown}
use Rattle.cb_world.specs.Shown.{object_at, version_at, never}
use Rattle.cb_world.specs.FarState.{FarState, span_in}
use Rattle.cb_world.specs.LocalSound.{LocalSound, HasSlot, NamesObject, LiesAt, IsStamped}
use Rattle.cb_world.proofs.Apart.{some_same}
use Rattle.cb_world.proofs.Lying.{frames_put, stands_in_place}

-- the spans with another one in a frame
span_there : (spans : List (Option Contents)) (f : ℕ) (o : Option Contents) → f < length spans
    → span_in (set spans f o) f ≡ o
span_there spans f o within = get_or-set_same spans f o None within

span_else : (spans : List (Option Contents)) (f k : ℕ) (o : Option Contents) → k ≢ f
    → span_in (set spans f o) k ≡ span_in spans k
span_else spans f k o apart = get_or-set_other spans f k o None apart

abbrev version_of : Object → ℕ
version_of (is.Empty n) = n
version_of (is.Far l n words) = 0
version_of (is.Here l p) = 0
version_of (is.Claimed l p n words) = 0

lies_once : (o : Object) (l p l' p' : ℕ) → LiesAt o l p → LiesAt o l' p' → p ≡ p'
lies_once (is.Empty v) l p l' p' a b = absurd a
lies_once (is.Far n v words) l p l' p' a b = absurd a
lies_once (is.Here n q) l p l' p' a b = a.1 ∙ sym b.1
lies_once (is.Claimed n q v words) l p l' p' a b = a.1 ∙ sym b.1

-- an object in local memory stands in one slot
pub one_slot : (far : FarState) (s : Shown) (h len place f slot : ℕ) (span : Contents)
    → LocalSound s far → LiesAt (object_at s h) len place → (c : HasSlot far.spans h len place)
    → span_in far.spans f ≡ Some span → handle_at span slot ≡ Some h → (f ≡ c.frame)
    × (slot ≡ c.slot)
one_slot far s h len place f slot span sound lies c there holds =
    let x = sound.placed.named f slot h span there holds in
    let same : place ≡ slot_place span.class f slot =
    lies_once (object_at s h) len place x.len (slot_place span.class f slot) lies x.lies in
    let valid = sound.frames.valid f span there in
    let valid' = sound.frames.valid c.frame c.span c.there in
    let range : slot < slots_of span.class =
    subst (λ (n : ℕ). slot < n) valid.sized (slot_in_range span slot h holds) in
    let range' : c.slot < slots_of c.span.class =
    subst (λ (n : ℕ). c.slot < n) valid'.sized (slot_in_range c.span c.slot h c.named) in
    let frames : f ≡ c.frame = elim (cases_order f c.frame) [
      | inl e ↦ e
      | inr differ ↦ elim differ [
        | inl less ↦ absurd (two span.class c.span.class f c.frame slot c.slot valid.in_table range
            (sound.frames.apart f c.frame span c.span there c.there less) (sym same ∙ c.at))
        | inr more ↦ absurd (two c.span.class span.class c.frame f c.slot slot valid'.in_table range'
            (sound.frames.apart c.frame f c.span span c.there there more) (sym c.at ∙ same))
      ]
    ] in
    let spans : span ≡ c.span =
    some_same span c.span (sym there ∙ ap (span_in far.spans) frames ∙ c.there) in (
      frames,
      same_slot span.class f slot c.slot valid.in_table (sym same ∙ c.at
          ∙ ap (λ (i : ℕ). slot_place c.span.class i c.slot) (sym frames)
          ∙ ap (λ (q : Contents). slot_place q.class f c.slot) (sym spans)),
    )
  where
    -- slots of two spans lie at two places
    two : (a b : Class) (f g s t : ℕ) → IsClass a → s < slots_of a → f + pages_of a ≤ g
        → slot_place a f s ≡ slot_place b g t → ⊥
    two a b f g s t known inside run e =
        let ends = frames_apart a b f g s t known inside run in
        omega (arith, ends, e, words_at_least a known)

abbrev pub freed : Shown → ℕ → ℕ → Shown
freed s h v =
    record s { objects = set s.objects h (is.Empty (v + 1)); versions = set s.versions h (v + 1) }

abbrev pub with_span : FarState → ℕ → Contents → FarState
with_span far f span = record far { spans = set far.spans f (Some span) }

-- an object of the span that keeps other objects
pub sound_freed : (far : FarState) (s : Shown) (h len place v : ℕ) → LocalSound s far
    → LiesAt (object_at s h) len place → (c : HasSlot far.spans h len place) → h < length s.objects
    → h < length s.versions → c.frame < length far.spans
    → 1 ≤ live_count (with_cleared c.span c.slot) → version_at s h ≤ v + 1
    → LocalSound (freed s h v) (with_span far c.frame (with_cleared c.span c.slot))
sound_freed far s h len place v sound lies c range stamp frame live rises = record {
  known = record {
    first = sound.known.first;
    least = sound.known.least;
    bounded = omega (arith, sound.known.bounded, length-set s.objects h (is.Empty (v + 1)));
    made = λ k below. made k below (ℕ_discrete k h);
    stamped = λ k. stamped k (ℕ_discrete k h);
    versioned = λ k below. versioned k below (ℕ_discrete k h);
  };
  frames = frames_put far c.frame left far.frames sound.frames
      (stands_in_place far c.frame c.span sound.frames c.there)
      (IsSpan-with_cleared c.span c.slot (sound.frames.valid c.frame c.span c.there)) live;
  placed = record {
    memory = sound.placed.memory
        ∙ ap (λ (n : ℕ). 512 * n) (sym (length-set far.spans c.frame (Some left)));
    placed = λ k n p there. placed k n p there (ℕ_discrete k h);
    named = λ f slot k span there holds. named f slot k span there holds (ℕ_discrete f c.frame);
  };
}
  where
    versioned : (k : ℕ) → k < far.made → Dec (k ≡ h) → far.first ≤ version_at (freed s h v) k
    versioned k below (yes e) = let now : version_at (freed s h v) k ≡ v + 1 =
        ap (version_at (freed s h v)) e ∙ get_or-set_same s.versions h (v + 1) 0 stamp in
        let before = sound.known.versioned k below in let same = ap (version_at s) e in
        omega (arith, now, before, same, rises)
    versioned k below (no off) = subst (λ (n : ℕ). far.first ≤ n)
        (sym (get_or-set_other s.versions h k (v + 1) 0 off)) (sound.known.versioned k below)

    left : Contents
    left = with_cleared c.span c.slot

    here : span_in (set far.spans c.frame (Some left)) c.frame ≡ Some left
    here = span_there far.spans c.frame (Some left) frame

    mine : object_at (freed s h v) h ≡ is.Empty (v + 1)
    mine = get_or-set_same s.objects h (is.Empty (v + 1)) never range

    other : (k : ℕ) → k ≢ h → object_at (freed s h v) k ≡ object_at s k
    other k apart = get_or-set_other s.objects h k (is.Empty (v + 1)) never apart

    never_lies : object_at s h ≡ never → ⊥
    never_lies e = subst (λ (o : Object). LiesAt o len place) e lies

    not_never : is.Empty (v + 1) ≡ never → ⊥
    not_never e = let z : v + 1 ≡ 0 = ap version_of e in omega (arith, z)

    made : (k : ℕ) → k < length (set s.objects h (is.Empty (v + 1))) → Dec (k ≡ h)
        → far.made ≤ k ↔ (object_at (freed s h v) k ≡ never)
    made k below (yes e) =
        subst (λ (i : ℕ). far.made ≤ i ↔ (object_at (freed s h v) i ≡ never)) (sym e) (
          (λ most. absurd (never_lies ((sound.known.made h range).0 most))),
          (λ z. absurd (not_never (sym mine ∙ z))),
        )
    made k below (no apart) =
        subst (λ (o : Object).
        far.made ≤ k ↔ (o ≡ never)) (sym (other k apart)) (sound.known.made k (omega (
          arith,
          below,
          length-set s.objects h (is.Empty (v + 1)),
        )))

    stamped : (k : ℕ) → Dec (k ≡ h)
        → IsStamped (object_at (freed s h v) k) (version_at (freed s h v) k)
    stamped k (yes e) =
        subst (λ (i : ℕ).
        IsStamped (object_at (freed s h v) i) (version_at (freed s h v) i)) (sym e)
        (subst (λ (o : Object).
        IsStamped o (version_at (freed s h v) h)) (sym mine)
        (get_or-set_same s.versions h (v + 1) 0 stamp))
    stamped k (no apart) =
        subst (λ (o : Object).
        IsStamped o (version_at (freed s h v) k)) (sym (other k apart))
        (subst (IsStamped (object_at s k)) (sym (get_or-set_other s.versions h k (v + 1) 0 apart))
        (sound.known.stamped k))

    placed : (k n p : ℕ) → LiesAt (object_at (freed s h v) k) n p → Dec (k ≡ h)
        → HasSlot (set far.spans c.frame (Some left)) k n p
    placed k n p there (yes e) =
        absurd (subst (λ (o : Object). LiesAt o n p) (ap (object_at (freed s h v)) e ∙ mine) there)
    placed k n p there (no apart) = let d =
        sound.placed.placed k n p (subst (λ (o : Object). LiesAt o n p) (other k apart) there) in
        move d (ℕ_discrete d.frame c.frame)
      where
        move : (d : HasSlot far.spans k n p) → Dec (d.frame ≡ c.frame)
            → HasSlot (set far.spans c.frame (Some left)) k n p
        move d (no far_off) =
            record {
              frame = d.frame;
              slot = d.slot;
              span = d.span;
              there =
                  span_else far.spans c.frame d.frame (Some left) far_off ∙ d.there;
              named = d.named;
              at =
                  d.at;
              fits = d.fits;
            }
        move d (yes e) =
            let same : d.span ≡ c.span =
            some_same d.span c.span (sym d.there ∙ ap (span_in far.spans) e ∙ c.there) in
            let keeps : handle_at left d.slot ≡ Some k =
            handle_at-with_cleared_other c.span c.slot d.slot (λ q.
            apart (some_same k h (sym d.named ∙ ap (λ (x : Contents). handle_at x d.slot) same
            ∙ ap (handle_at c.span) q ∙ c.named)))
            ∙ ap (λ (x : Contents). handle_at x d.slot) (sym same) ∙ d.named in
            record {
              frame = c.frame;
              slot = d.slot;
              span = left;
              there = here;
              named = keeps;
              at = d.at ∙ ap (λ (i : ℕ). slot_place d.span.class i d.slot) e
                  ∙ ap (λ (x : Contents). slot_place x.class c.frame d.slot) same;
              fits = subst (λ (x : Contents). IsClassOf n x.class) same d.fits;
            }

    named : (f slot k : ℕ) (span : Contents)
        → span_in (set far.spans c.frame (Some left)) f ≡ Some span → handle_at span slot ≡ Some k
        → Dec (f ≡ c.frame) → NamesObject (freed s h v) f slot k span
    named f slot k span there holds (no apart) = let was =
        sym (span_else far.spans c.frame f (Some left) apart) ∙ there in
        again f slot k span (sound.placed.named f slot k span was holds) (λ e.
        apart (one_slot far s h len place f slot span sound lies c was (holds
        ∙ ap (λ (i : ℕ). Some i) e)).0)
      where
        again : (f slot k : ℕ) (span : Contents) → NamesObject s f slot k span → k ≢ h
            → NamesObject (freed s h v) f slot k span
        again f slot k span x apart =
            record {
              len = x.len;
              lies =
                  subst (λ (o : Object).
                  LiesAt o x.len (slot_place span.class f slot)) (sym (other k apart)) x.lies;
            }
    named f slot k span there holds (yes e) =
        let same : left ≡ span =
        some_same left span (sym here ∙ ap (span_in (set far.spans c.frame (Some left))) (sym e)
        ∙ there) in
        let kept : handle_at left slot ≡ Some k = ap (λ (x : Contents). handle_at x slot) same
        ∙ holds in
        in_span slot k kept (ℕ_discrete slot c.slot) same e
      where
        none_some : (i : ℕ) → None ≡ Some i → ⊥
        none_some i z = cc

        in_span : (slot k : ℕ) → handle_at left slot ≡ Some k → Dec (slot ≡ c.slot) → left ≡ span
            → f ≡ c.frame → NamesObject (freed s h v) f slot k span
        in_span slot k kept (yes z) same e =
            absurd (none_some k (sym (handle_at-with_cleared c.span c.slot)
            ∙ ap (handle_at left) (sym z) ∙ kept))
        in_span slot k kept (no off) same e =
            let was : handle_at c.span slot ≡ Some k =
            sym (handle_at-with_cleared_other c.span c.slot slot off) ∙ kept in
            let x = sound.placed.named c.frame slot k c.span c.there was in
            let apart : k ≢ h =
            λ z. off (one_slot far s h len place c.frame slot c.span sound lies c c.there (was
            ∙ ap (λ (i : ℕ). Some i) z)).1 in
            record {
              len = x.len;
              lies =
                  subst (λ (o : Object).
                  LiesAt o x.len (slot_place span.class f slot)) (sym (other k apart))
                  (subst (λ (i : ℕ).
                  LiesAt (object_at s k) x.len (slot_place span.class i slot)) (sym e)
                  (subst (λ (q : Contents).
                  LiesAt (object_at s k) x.len (slot_place q.class c.frame slot)) same x.lies));
            }
