-- The world after an object in local memory is freed, and its slot emptied.
use Rattle.std.proofs.Common.{◌≡◌, ◌≢◌, ◌⊎◌, ◌↔◌, ℕ, Bool, true, false, ◌+◌, ◌<◌, ◌≤◌, ◌==◌, List, length, get_or, set, if◌then◌else◌, sym, refl, ap, ◌∙◌, subst, arith, inl, inr, Some, None, Contains, length-set, get_or-set_other, get_or-set_same}
use native.Mathlib.Decide.{ℕ_discrete}
use Rattle.std.proofs.lemmas.Bool.{eqb-true, eqb-false}
use Rattle.cb_class.specs.Class.{pages_of}
use Rattle.cb_frame.specs.FreeFrames.{with_run_given}
use Rattle.cb_span.specs.Contents.{Contents, handle_at, with_cleared, live_count}
use Rattle.cb_span.specs.Places.{slot_place}
use Rattle.cb_span.proofs.Laws.{all_empty, handle_at-with_cleared_other}
use Rattle.cb_world.specs.declared.object.Object.{Object}
use Rattle.cb_world.specs.declared.object.Object.TheVariants as is
use Rattle.cb_world.specs.declared.shown.Shown.{Shown}
use Rattle.cb_world.specs.Shown.{object_at, version_at, never}
use Rattle.cb_world.specs.Leaving.{LeavingState}
use Rattle.cb_world.specs.FarState.{FarState}
use Rattle.cb_world.specs.LocalSound.{LocalSound, HasSlot, LiesAt, IsStamped}
use Rattle.cb_world.specs.Sound.{Sound}
use Rattle.cb_world.specs.Released.{is_last, with_released}
use Rattle.cb_world.proofs.Claimed.{lies}
use Rattle.cb_world.proofs.Apart.{some_same}
use Rattle.cb_world.proofs.Freed.{freed, sound_freed}
use Rattle.cb_world.proofs.Closed.{IsSpared, IsSentAway, IsSentOff, sound_closed}
use Rattle.cb_world.proofs.Kept.{frame_in_range}
use Rattle.cb_world.proofs.Unmoved.{IsAtLarge, IsNear, not_leaving, sound_near}
use Rattle.cb_world.proofs.Beside.{KeepsBeside, apart_frames}

-- the local part says nothing of hot bits and of owned words
pub local_fields : (s t : Shown) (far : FarState) → t.first ≡ s.first → t.objects ≡ s.objects
    → t.versions ≡ s.versions → length t.memory ≡ length s.memory → LocalSound s far
    → LocalSound t far
local_fields s t far first objects versions memory x =
    let at : (h : ℕ) → object_at t h ≡ object_at s h =
    λ h. ap (λ (l : List Object). get_or l h never) objects in
    record {
      known = record {
        first = first ∙ x.known.first;
        least = x.known.least;
        bounded = omega (arith, x.known.bounded, ap length objects);
        made = λ h below. subst (λ (o : Object). far.made ≤ h ↔ (o ≡ never)) (sym (at h))
            (x.known.made h (omega (arith, below, ap length objects)));
        stamped = λ h. subst (λ (o : Object). IsStamped o (version_at t h)) (sym (at h))
            (subst (λ (l : List ℕ). IsStamped (object_at s h) (get_or l h 0)) (sym versions)
            (x.known.stamped h));
        versioned = λ h below. subst (λ (l : List ℕ). far.first ≤ get_or l h 0) (sym versions)
            (x.known.versioned h below);
      };
      frames = x.frames;
      placed = record {
        memory = memory ∙ x.placed.memory;
        placed = λ h len place l. x.placed.placed h len place
            (subst (λ (o : Object). LiesAt o len place) (at h) l);
        named = λ f slot h span there taken. let y = x.placed.named f slot h span there taken in
            record {
              len = y.len;
              lies = subst (λ (o : Object).
                  LiesAt o y.len (slot_place span.class f slot)) (sym (at h)) y.lies;
            };
      };
    }

-- the object is empty with the next version; words may have changed
pub record IsFreed (s t : Shown) (h v : ℕ) : Type 0 where
  pub first : t.first ≡ s.first
  pub objects : t.objects ≡ set s.objects h (is.Empty (v + 1))
  pub versions : t.versions ≡ set s.versions h (v + 1)
  pub memory : length t.memory ≡ length s.memory

freed_fields : (s t : Shown) (far : FarState) (h v : ℕ) → IsFreed s t h v
    → LocalSound (freed s h v) far → LocalSound t far
freed_fields s t far h v x sound =
    local_fields (freed s h v) t far x.first x.objects x.versions x.memory sound

-- the freed object is the only one that the span named
last_sent : (far : FarState) (s : Shown) (h len place v : ℕ) (c : HasSlot far.spans h len place)
    → LocalSound s far → LiesAt (object_at s h) len place → h < length s.objects
    → h < length s.versions → live_count (with_cleared c.span c.slot) ≡ 0
    → version_at s h ≤ v + 1 → IsSentOff s (freed s h v) c.span
last_sent far s h len place v c sound there range stamp none up = record {
  first = refl;
  memory = refl;
  objects = length-set s.objects h (is.Empty (v + 1));
  stamped = λ k. stamped k (ℕ_discrete k h);
  risen = λ k. risen k (ℕ_discrete k h);
  each = λ k. each k (ℕ_discrete k h);
}
  where
    mine : object_at (freed s h v) h ≡ is.Empty (v + 1)
    mine = get_or-set_same s.objects h (is.Empty (v + 1)) never range

    other : (k : ℕ) → k ≢ h → object_at (freed s h v) k ≡ object_at s k
    other k off = get_or-set_other s.objects h k (is.Empty (v + 1)) never off

    stamped : (k : ℕ) → Dec (k ≡ h)
        → IsStamped (object_at (freed s h v) k) (version_at (freed s h v) k)
    stamped k (yes e) = subst (λ (i : ℕ).
        IsStamped (object_at (freed s h v) i) (version_at (freed s h v) i)) (sym e)
        (subst (λ (o : Object). IsStamped o (version_at (freed s h v) h)) (sym mine)
        (get_or-set_same s.versions h (v + 1) 0 stamp))
    stamped k (no off) = subst (λ (o : Object). IsStamped o (version_at (freed s h v) k))
        (sym (other k off))
        (subst (IsStamped (object_at s k)) (sym (get_or-set_other s.versions h k (v + 1) 0 off))
        (sound.known.stamped k))

    risen : (k : ℕ) → Dec (k ≡ h) → version_at s k ≤ version_at (freed s h v) k
    risen k (yes e) = let now : version_at (freed s h v) k ≡ v + 1 =
        ap (version_at (freed s h v)) e ∙ get_or-set_same s.versions h (v + 1) 0 stamp in
        omega (arith, now, ap (version_at s) e, up)
    risen k (no off) = omega (arith, get_or-set_other s.versions h k (v + 1) 0 off)

    version_of : Object → ℕ
    version_of (is.Empty n) = n
    version_of _ = 0

    not_never : is.Empty (v + 1) ≡ never → ⊥
    not_never e = cc_empty (v + 1) e (omega arith)
      where
        cc_empty : (n : ℕ) → is.Empty n ≡ never → 1 ≤ n → ⊥
        cc_empty n e some = let z : n ≡ 0 = cc in omega (arith, z, some)

    no_handle : (k : ℕ) → None ≡ Some k → ⊥
    no_handle k e = cc

    each : (k : ℕ) → Dec (k ≡ h) → IsSpared s (freed s h v) c.span k
        ⊎ IsSentAway (freed s h v) c.span k
    each k (yes e) = inr (record {
      slot = c.slot;
      named = c.named ∙ ap (λ (i : ℕ). Some i) (sym e);
      gone = λ l p at.
          subst (λ (o : Object). LiesAt o l p) (ap (object_at (freed s h v)) e ∙ mine) at;
      made = λ z. not_never (sym mine ∙ ap (object_at (freed s h v)) (sym e) ∙ z);
    })
    each k (no off) = inl (record {
      object = other k off;
      absent = λ slot named. elim (ℕ_discrete slot c.slot) [
        | yes here ↦ off (some_same k h (sym named ∙ ap (handle_at c.span) here ∙ c.named))
        | no apart ↦ no_handle k (sym (all_empty (with_cleared c.span c.slot) none slot)
            ∙ handle_at-with_cleared_other c.span c.slot slot apart ∙ named)
      ];
    })

some_left : (n : ℕ) → (n == 0) ≡ false → 1 ≤ n
some_left n e = let z = eqb-false n 0 e in omega (arith, z)

none_left : (n : ℕ) → (n == 0) ≡ true → n ≡ 0
none_left n e = eqb-true n 0 e

-- the far state by whether the object was the last one of its span
abbrev released_as : FarState → ℕ → ℕ → Contents → Bool → FarState
released_as far f slot span b = record far {
  frames = if b then with_run_given far.frames f (pages_of span.class) else far.frames;
  spans = set far.spans f (if b then None else Some (with_cleared span slot));
}

local_released : (far : FarState) (s : Shown) (h len place v : ℕ)
    (c : HasSlot far.spans h len place) → LocalSound s far → LiesAt (object_at s h) len place
    → h < length s.objects → h < length s.versions → version_at s h ≤ v + 1
    → LocalSound (freed s h v) (with_released far c.frame c.slot c.span)
local_released far s h len place v c sound there range stamp up =
    by (is_last c.span c.slot) refl
  where
    within : c.frame < length far.spans
    within = frame_in_range far.spans c.frame c.span c.there

    by : (b : Bool) → is_last c.span c.slot ≡ b
        → LocalSound (freed s h v) (with_released far c.frame c.slot c.span)
    by true e =
        subst (λ (b : Bool).
        LocalSound (freed s h v) (released_as far c.frame c.slot c.span b)) (sym e)
        (sound_closed far s (freed s h v) c.frame c.span sound c.there within
        (last_sent far s h len place v c sound there range stamp (none_left _ e) up))
    by false e =
        subst (λ (b : Bool).
        LocalSound (freed s h v) (released_as far c.frame c.slot c.span b)) (sym e)
        (sound_freed far s h len place v sound there c range stamp within (some_left _ e) up)

-- the world stays sound where an object that is here is freed and its slot emptied
pub sound_gone : (far : FarState) (s t : Shown) (h len place v : ℕ)
    (c : HasSlot far.spans h len place) → Sound s far → object_at s h ≡ is.Here len place
    → h < length s.objects → h < length s.versions → version_at s h ≤ v + 1 → IsFreed s t h v
    → KeepsBeside s.memory t.memory place len
    → Sound t (with_released far c.frame c.slot c.span)
sound_gone far s t h len place v c sound here range stamp up x beside =
    sound_near s t far (with_released far c.frame c.slot c.span) sound
    (freed_fields s t (with_released far c.frame c.slot c.span) h v x
    (local_released far s h len place v c sound.here (lies s h len place here) range stamp up))
    (record {
      sets = refl;
      homes = refl;
      nodes = refl;
      members = refl;
      leaving = refl;
      joining = refl;
      counts = refl;
      survey = refl;
    })
    (λ k. each k (ℕ_discrete k h))
    (λ batch there. record {
      spans = λ f leaves.
          get_or-set_other far.spans c.frame f _ None (other batch there f leaves);
      words = λ f leaves.
          apart_frames far s t h len place f batch sound here beside there leaves;
    })
  where
    mine : object_at t h ≡ is.Empty (v + 1)
    mine = ap (λ (l : List Object). get_or l h never) x.objects
        ∙ get_or-set_same s.objects h (is.Empty (v + 1)) never range

    each : (k : ℕ) → Dec (k ≡ h) → (object_at t k ≡ object_at s k) ⊎ IsNear s t k
    each k (yes e) = inr (record {
      before = subst IsAtLarge (sym (ap (object_at s) e ∙ here)) tt;
      after = subst IsAtLarge (sym (ap (object_at t) e ∙ mine)) tt;
    })
    each k (no off) = inl (ap (λ (l : List Object). get_or l k never) x.objects
        ∙ get_or-set_other s.objects h k (is.Empty (v + 1)) never off)

    other : (batch : LeavingState) → far.leaving ≡ Some batch → (f : ℕ)
        → Contains batch.frames f → f ≢ c.frame
    other batch there f leaves e = not_leaving s far batch c.frame c.slot h c.span sound there
        (subst IsAtLarge (sym here) tt) c.there c.named (subst (Contains batch.frames) e leaves)
