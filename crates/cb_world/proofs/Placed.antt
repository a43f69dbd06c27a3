-- The world once an object that lay nowhere is here, in the slot that it got.
use Rattle.std.proofs.Common.{◌≡◌, ◌≢◌, ◌⊎◌, ◌↔◌, ℕ, ◌+◌, ◌*◌, ◌<◌, ◌≤◌, List, Option, Some, None, Contains, length, get_or, set, sym, refl, ap, ◌∙◌, subst, arith, inl, inr, length-set, get_or-set_other, get_or-set_same}
use native.Mathlib.Decide.{ℕ_discrete}
use Rattle.std.proofs.lemmas.Bool.{cases_order}
use Rattle.cb_class.specs.Class.{IsClassOf, pages_of, slots_of}
use Rattle.cb_class.proofs.Laws.{object_fits, slot_in_run}
use Rattle.cb_span.specs.Contents.{Contents, IsSpan, handle_at, live_count, with_placed}
use Rattle.cb_span.specs.Places.{slot_place}
use Rattle.cb_span.proofs.Laws.{IsSpan-with_placed, handle_at-with_placed, handle_at-with_placed_other, live_count-pos}
use Rattle.cb_world.specs.declared.object.Object.{Object}
use Rattle.cb_world.specs.declared.object.Object.TheVariants as is
use Rattle.cb_world.specs.declared.shown.Shown.{Shown}
use Rattle.cb_world.specs.Memory.{words_for}
use Rattle.cb_world.specs.Shown.{Covers, MayLie, object_at, version_at, never}
use Rattle.cb_world.specs.Leaving.{LeavingState}
use Rattle.cb_world.specs.FarState.{FarState, span_in}
use Rattle.cb_world.specs.LocalSound.{LocalSound, HasSlot, NamesObject, LiesAt, IsStamped}
use Rattle.cb_world.specs.Sound.{Sound}
use Rattle.cb_world.specs.Placed.{Slot, place_in, with_object}
use Rattle.cb_world.proofs.Apart.{some_same, apart}
use Rattle.cb_world.proofs.Claimed.{lies, avoids}
use Rattle.cb_world.proofs.Slots.{IsEmptySlot}
use Rattle.cb_world.proofs.Unmoved.{IsAtLarge, IsNear, sound_near}
use Rattle.cb_world.proofs.Beside.{KeepsBeside, other_run}
use Rattle.cb_world.proofs.Lying.{frames_as, frames_put}

-- the handle counts as made, and every other one as before
pub record IsCountedMade (before after h : ℕ) : Type 0 where
  pub mine : h < after
  pub top : (n : ℕ) → before ≤ n → h < n → after ≤ n
  pub others : (k : ℕ) → k ≢ h → after ≤ k ↔ before ≤ k

-- one handle more is made
pub next_counted : (made : ℕ) → IsCountedMade made (made + 1) made
next_counted made = record {
  mine = omega arith;
  top = λ n most below. omega (arith, below);
  others = λ k off. ((λ n. omega (arith, n)), (λ n. let z : k ≢ made = off in omega (arith, n, z)));
}

-- a handle that was made before
pub made_counted : (made h : ℕ) → h < made → IsCountedMade made made h
made_counted made h below = record {
  mine = below;
  top = λ n most range. most;
  others = λ k off. ((λ n. n), (λ n. n));
}

-- the object is here, and all others are as they were
pub record IsPlacedHere (s t : Shown) (h len place : ℕ) : Type 0 where
  pub first : t.first ≡ s.first
  pub objects : t.objects ≡ set s.objects h (is.Here len place)
  pub versions : (k : ℕ) → k ≢ h → version_at t k ≡ version_at s k
  pub version : t.first ≤ version_at t h
  pub memory : length t.memory ≡ length s.memory

-- the far state with the object in the slot, and so many handles made
abbrev pub with_made : FarState → Slot → ℕ → ℕ → FarState
with_made far slot h made = record (with_object far slot h) { made = made }

some_none : (x : Contents) → Some x ≡ None → ⊥
some_none x e = cc

none_some : (k : ℕ) → None ≡ Some k → ⊥
none_some k e = cc

here_never : (len place : ℕ) → is.Here len place ≡ never → ⊥
here_never len place e = subst IsAt e tt
  where
    IsAt : Object → Type 0
    IsAt (is.Here l p) = Unit {0}
    IsAt _ = ⊥

-- The local part: the object lay nowhere, and is in an empty slot of its class.
pub local_brought : (far : FarState) (s t : Shown) (slot : Slot) (h len made : ℕ)
    → LocalSound s far → ((n p : ℕ) → LiesAt (object_at s h) n p → ⊥) → h < length s.objects
    → IsEmptySlot far slot → IsClassOf len slot.span.class → IsCountedMade far.made made h
    → IsPlacedHere s t h len (place_in slot) → LocalSound t (with_made far slot h made)
local_brought far s t slot h len made sound nowhere range free fits count x = record {
  known = record {
    first = x.first ∙ sound.known.first;
    least = sound.known.least;
    bounded = count.top (length t.objects)
        (omega (arith, sound.known.bounded, same_length)) (omega (arith, range, same_length));
    made = λ k below. makes k below (ℕ_discrete k h);
    stamped = λ k. stamped k (ℕ_discrete k h);
    versioned = λ k below. versioned k below (ℕ_discrete k h);
  };
  frames = frames_as _ (with_made far slot h made) refl refl
      (frames_put far slot.frame span slot.free sound.frames free.stands is_valid live);
  placed = record {
    memory = x.memory ∙ sound.placed.memory
        ∙ ap (λ (n : ℕ). 512 * n) (sym (length-set far.spans slot.frame (Some span)));
    placed = λ k n p there. placed k n p there (ℕ_discrete k h);
    named = λ f j k other there holds. named f j k other there holds (ℕ_discrete f slot.frame);
  };
}
  where
    same_length : length t.objects ≡ length s.objects
    same_length = ap length x.objects ∙ length-set s.objects h (is.Here len (place_in slot))

    span : Contents
    span = with_placed slot.span slot.number h

    spans : List (Option Contents)
    spans = set far.spans slot.frame (Some span)

    here : span_in spans slot.frame ≡ Some span
    here = get_or-set_same far.spans slot.frame (Some span) None free.within

    else : (f : ℕ) → f ≢ slot.frame → span_in spans f ≡ span_in far.spans f
    else f off = get_or-set_other far.spans slot.frame f (Some span) None off

    mine : object_at t h ≡ is.Here len (place_in slot)
    mine = ap (λ (l : List Object). get_or l h never) x.objects
        ∙ get_or-set_same s.objects h (is.Here len (place_in slot)) never range

    other : (k : ℕ) → k ≢ h → object_at t k ≡ object_at s k
    other k off = ap (λ (l : List Object). get_or l k never) x.objects
        ∙ get_or-set_other s.objects h k (is.Here len (place_in slot)) never off

    is_span : (f : ℕ) (y : Contents) → span_in spans f ≡ Some y → f ≡ slot.frame → span ≡ y
    is_span f y there e = some_same span y (sym here ∙ ap (span_in spans) (sym e) ∙ there)

    makes : (k : ℕ) → k < length t.objects → Dec (k ≡ h) → made ≤ k ↔ (object_at t k ≡ never)
    makes k below (yes e) = (
      (λ most. absurd (let n = count.mine in omega (arith, most, e, n))),
      (λ z. absurd (here_never len (place_in slot) (sym mine ∙ ap (object_at t) (sym e) ∙ z))),
    )
    makes k below (no off) =
        let was = sound.known.made k (omega (
          arith,
          below,
          ap length x.objects,
          length-set s.objects h (is.Here len (place_in slot)),
        )) in
        let counts = count.others k off in (
          (λ most. other k off ∙ was.0 (counts.0 most)),
          (λ z. counts.1 (was.1 (sym (other k off) ∙ z))),
        )

    stamped : (k : ℕ) → Dec (k ≡ h) → IsStamped (object_at t k) (version_at t k)
    stamped k (yes e) = subst (λ (o : Object). IsStamped o (version_at t k))
        (sym (ap (object_at t) e ∙ mine)) tt
    stamped k (no off) = subst (λ (o : Object). IsStamped o (version_at t k)) (sym (other k off))
        (subst (IsStamped (object_at s k)) (sym (x.versions k off)) (sound.known.stamped k))

    versioned : (k : ℕ) → k < made → Dec (k ≡ h) → far.first ≤ version_at t k
    versioned k below (yes e) = let first = x.first ∙ sound.known.first in
        omega (arith, first, x.version, ap (version_at t) e)
    versioned k below (no off) = let old : far.made ≤ k → k < far.made =
        λ most. absurd (let n = (count.others k off).1 most in omega (arith, n, below)) in
        let was : k < far.made = elim (cases_order k far.made) [
          | inl e ↦ old (omega (arith, e))
          | inr apart ↦ elim apart [
            | inl less ↦ less
            | inr more ↦ old (omega (arith, more))
          ]
        ] in omega (arith, x.versions k off, sound.known.versioned k was)

    is_valid : IsSpan span
    is_valid = IsSpan-with_placed slot.span slot.number h free.valid

    live : 1 ≤ live_count span
    live = live_count-pos span slot.number h
        (handle_at-with_placed slot.span slot.number h free.inside)

    placed : (k n p : ℕ) → LiesAt (object_at t k) n p → Dec (k ≡ h) → HasSlot spans k n p
    placed k n p there (yes e) =
        let at : LiesAt (is.Here len (place_in slot)) n p =
        subst (λ (o : Object). LiesAt o n p) (ap (object_at t) e ∙ mine) there in
        record {
          frame = slot.frame;
          slot = slot.number;
          span = span;
          there = here;
          named = handle_at-with_placed slot.span slot.number h free.inside
              ∙ ap (λ (i : ℕ). Some i) (sym e);
          at = at.1;
          fits = subst (λ (i : ℕ). IsClassOf i slot.span.class) (sym at.0) fits;
        }
    placed k n p there (no off) =
        let d = sound.placed.placed k n p (subst (λ (o : Object). LiesAt o n p) (other k off) there)
        in move d (ℕ_discrete d.frame slot.frame)
      where
        move : (d : HasSlot far.spans k n p) → Dec (d.frame ≡ slot.frame) → HasSlot spans k n p
        move d (no far_off) = record {
          frame = d.frame;
          slot = d.slot;
          span = d.span;
          there = else d.frame far_off ∙ d.there;
          named = d.named;
          at = d.at;
          fits = d.fits;
        }
        move d (yes e) = beside free.before
          where
            beside : (span_in far.spans slot.frame ≡ Some slot.span)
                ⊎ ((span_in far.spans slot.frame ≡ None)
                × ((i : ℕ) → handle_at slot.span i ≡ None)) → HasSlot spans k n p
            beside (inr none) = absurd (some_none d.span
                (sym d.there ∙ ap (span_in far.spans) e ∙ none.0))
            beside (inl stands) =
                let same : d.span ≡ slot.span =
                some_same d.span slot.span (sym d.there ∙ ap (span_in far.spans) e ∙ stands) in
                let was : handle_at slot.span d.slot ≡ Some k =
                ap (λ (y : Contents). handle_at y d.slot) (sym same) ∙ d.named in
                record {
                  frame = slot.frame;
                  slot = d.slot;
                  span = span;
                  there = here;
                  named = handle_at-with_placed_other slot.span slot.number h d.slot
                      (λ q. none_some k (sym free.empty ∙ ap (handle_at slot.span) (sym q) ∙ was))
                      ∙ was;
                  at = d.at ∙ ap (λ (i : ℕ). slot_place d.span.class i d.slot) e
                      ∙ ap (λ (y : Contents). slot_place y.class slot.frame d.slot) same;
                  fits = subst (λ (y : Contents). IsClassOf n y.class) same d.fits;
                }

    -- an object that a span named is another one, and stays
    stays : (f j k : ℕ) (y : Contents) → span_in far.spans f ≡ Some y → handle_at y j ≡ Some k
        → NamesObject t f j k y
    stays f j k y there holds =
        let n = sound.placed.named f j k y there holds in
        let off : k ≢ h = λ e. nowhere n.len (slot_place y.class f j)
        (subst (λ (i : ℕ). LiesAt (object_at s i) n.len (slot_place y.class f j)) e n.lies) in
        record {
          len = n.len;
          lies = subst (λ (o : Object). LiesAt o n.len (slot_place y.class f j))
              (sym (other k off)) n.lies;
        }

    named : (f j k : ℕ) (y : Contents) → span_in spans f ≡ Some y → handle_at y j ≡ Some k
        → Dec (f ≡ slot.frame) → NamesObject t f j k y
    named f j k y there holds (no off) = stays f j k y (sym (else f off) ∙ there) holds
    named f j k y there holds (yes e) =
        let same = is_span f y there e in
        subst (NamesObject t f j k) same
        (in_span j k (ap (λ (z : Contents). handle_at z j) same ∙ holds)
        (ℕ_discrete j slot.number))
      where
        in_span : (j k : ℕ) → handle_at span j ≡ Some k → Dec (j ≡ slot.number)
            → NamesObject t f j k span
        in_span j k kept (yes q) =
            let who : k ≡ h = some_same k h (sym kept ∙ ap (handle_at span) q
            ∙ handle_at-with_placed slot.span slot.number h free.inside) in
            let place : slot_place span.class f j ≡ place_in slot =
            ap (λ (i : ℕ). slot_place span.class i j) e
            ∙ ap (λ (i : ℕ). slot_place span.class slot.frame i) q in
            record {
              len = len;
              lies = subst (λ (o : Object). LiesAt o len (slot_place span.class f j))
                  (sym (ap (object_at t) who ∙ mine)) (refl, place);
            }
        in_span j k kept (no off) =
            let was : handle_at slot.span j ≡ Some k =
            sym (handle_at-with_placed_other slot.span slot.number h j off) ∙ kept in
            beside was free.before
          where
            beside : handle_at slot.span j ≡ Some k → (span_in far.spans slot.frame ≡ Some slot.span)
                ⊎ ((span_in far.spans slot.frame ≡ None)
                × ((i : ℕ) → handle_at slot.span i ≡ None)) → NamesObject t f j k span
            beside was (inr none) = absurd (none_some k (sym (none.1 j) ∙ was))
            beside was (inl stands) =
                let n = stays f j k slot.span (ap (span_in far.spans) e ∙ stands) was in
                record { len = n.len; lies = n.lies }

-- where a slot's object lies: inside the frames of its span
pub slot_bounds : (far : FarState) (slot : Slot) (len : ℕ) → IsEmptySlot far slot
    → IsClassOf len slot.span.class → (512 * slot.frame ≤ place_in slot)
    × (place_in slot + words_for len ≤ 512 * (slot.frame + pages_of slot.span.class))
slot_bounds far slot len free fits =
    let range : slot.number < slots_of slot.span.class =
    subst (λ (n : ℕ). slot.number < n) free.valid.sized free.inside in
    let ends = slot_in_run slot.span.class slot.number free.valid.in_table range in
    let fit = object_fits len slot.span.class fits in
    (omega arith, omega (arith, ends, fit))

-- The world stays sound where an empty object is brought into an empty slot of its class, in a frame
-- that is not leaving, and words of that slot alone change.
pub sound_brought : (far : FarState) (s t : Shown) (slot : Slot) (h len made v : ℕ) → Sound s far
    → object_at s h ≡ is.Empty v → h < length s.objects → IsEmptySlot far slot
    → ((batch : LeavingState) → far.leaving ≡ Some batch → Contains batch.frames slot.frame → ⊥)
    → IsClassOf len slot.span.class → IsCountedMade far.made made h
    → IsPlacedHere s t h len (place_in slot) → KeepsBeside s.memory t.memory (place_in slot) len
    → Sound t (with_made far slot h made)
sound_brought far s t slot h len made v sound empty range free off_leaving fits count x beside =
    sound_near s t far (with_made far slot h made) sound
    (local_brought far s t slot h len made sound.here
    (λ n p l. subst (λ (o : Object). LiesAt o n p) empty l) range free fits count x)
    (record {
      sets = refl;
      homes = refl;
      nodes = refl;
      members = refl;
      leaving = refl;
      joining = refl;
      counts = refl;
      survey = refl;
    })
    (λ k. each k (ℕ_discrete k h))
    (λ batch there. record {
      spans = λ f leaves.
          get_or-set_other far.spans slot.frame f _ None (apart_of batch there f leaves);
      words = λ f leaves. let ends = slot_bounds far slot len free fits in
          let held = (sound.noted batch there).held f leaves in
          other_run s.memory t.memory (place_in slot) len f batch.pages slot.frame
          (pages_of slot.span.class)
          (subst (λ (n : ℕ). (f + n ≤ slot.frame) ⊎ (slot.frame + pages_of slot.span.class ≤ f)) held.2
          (free.stands.apart f held.0 held.1 (apart_of batch there f leaves)))
          ends.0 ends.1 beside;
    })
  where
    mine : object_at t h ≡ is.Here len (place_in slot)
    mine = ap (λ (l : List Object). get_or l h never) x.objects
        ∙ get_or-set_same s.objects h (is.Here len (place_in slot)) never range

    each : (k : ℕ) → Dec (k ≡ h) → (object_at t k ≡ object_at s k) ⊎ IsNear s t k
    each k (yes e) = inr (record {
      before = subst IsAtLarge (sym (ap (object_at s) e ∙ empty)) tt;
      after = subst IsAtLarge (sym (ap (object_at t) e ∙ mine)) tt;
    })
    each k (no off) = inl (ap (λ (l : List Object). get_or l k never) x.objects
        ∙ get_or-set_other s.objects h k (is.Here len (place_in slot)) never off)

    apart_of : (batch : LeavingState) → far.leaving ≡ Some batch → (f : ℕ)
        → Contains batch.frames f → f ≢ slot.frame
    apart_of batch there f leaves e =
        off_leaving batch there (subst (Contains batch.frames) e leaves)

-- The object may lie in the slot, where no other one lies.
pub may_lie : (far : FarState) (s : Shown) (slot : Slot) (h len made v p : ℕ) → LocalSound s far
    → object_at s h ≡ is.Empty v → h < length s.objects → h < length s.versions
    → IsEmptySlot far slot → IsClassOf len slot.span.class → IsCountedMade far.made made h
    → Covers (place_in slot) len p → MayLie s h p
may_lie far s slot h len made v p sound empty range stamp free fits count covers =
    let ends = slot_bounds far slot len free fits in (
      omega (arith, covers.1, ends.1, free.stands.within, sound.placed.memory),
      λ k off. avoids (object_at s k) p (λ n q there over. clear k n q off there over),
    )
  where
    -- what would be known if the object were there
    t : Shown
    t = record s {
      objects = set s.objects h (is.Here len (place_in slot));
      versions = set s.versions h s.first;
    }

    clear : (k n q : ℕ) → k ≢ h → LiesAt (object_at s k) n q → Covers q n p → ⊥
    clear k n q off there over =
        apart (with_made far slot h made) t h len (place_in slot) k n q p
        (local_brought far s t slot h len made sound
        (λ i j l. subst (λ (o : Object). LiesAt o i j) empty l) range free fits count (record {
          first = refl;
          objects = refl;
          versions = λ i apart. get_or-set_other s.versions h i s.first 0 apart;
          version = (let now = get_or-set_same s.versions h s.first 0 stamp in omega (arith, now));
          memory = refl;
        }))
        (lies t h len (place_in slot)
        (get_or-set_same s.objects h (is.Here len (place_in slot)) never range))
        (subst (λ (o : Object). LiesAt o n q)
        (sym (get_or-set_other s.objects h k (is.Here len (place_in slot)) never off)) there)
        (λ e. off (sym e)) covers over
