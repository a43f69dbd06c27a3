-- The sound world and one object that is claimed and settled again.
use Rattle.std.proofs.Common.{◌≡◌, ◌≢◌, ℕ, Bool, ◌+◌, ◌^◌, ◌<◌, ◌≤◌, ◌↔◌, List, [], ◌∷◌, ◌++◌, length, get_or, set, sym, refl, ap, ◌∙◌, subst, arith, inl, inr, Option, Some, None, get_or-set_other, get_or-set_same}
use native.Mathlib.Decide.{ℕ_discrete}
use Rattle.std.proofs.lemmas.Bool.{cases_lt}
use Rattle.std.proofs.lemmas.List.{set-get_or, set-set, get_or_past}
use Rattle.cb_types.specs.Config.{most_bytes}
use Rattle.cb_class.proofs.Laws.{bytes_at_most}
use Rattle.cb_span.specs.Contents.{Contents}
use Rattle.cb_span.specs.Places.{slot_place}
use Rattle.cb_ptr.specs.Word.{hot_of, len_of, place_of}
use Rattle.cb_world.specs.declared.object.Object.{Object}
use Rattle.cb_world.specs.declared.object.Object.TheVariants as is
use Rattle.cb_world.specs.declared.access.Access.{Access}
use Rattle.cb_world.specs.declared.access.Access.TheVariants.{Claimed}
use Rattle.cb_world.specs.Memory.{put, words_for}
use Rattle.cb_world.specs.declared.shown.Shown.{Shown}
use Rattle.cb_world.specs.Shown.{Covers, Spares, Owns, object_at, version_at, never}
use Rattle.cb_world.specs.Played.{Agree, Agrees, after, played}
use Rattle.cb_world.specs.Looks.{AreLooks}
use Rattle.cb_world.specs.FarState.{FarState, span_in}
use Rattle.cb_world.specs.LocalSound.{LocalSound, LiesAt, IsStamped}
use Rattle.cb_world.proofs.Apart.{apart, slot_inside}
use Rattle.cb_world.proofs.Tracing.{played_append, agree_last, looks_played}

pub frame_in_range : (spans : List (Option Contents)) (f : ℕ) (span : Contents)
    → span_in spans f ≡ Some span → f < length spans
frame_in_range spans f span there = elim (cases_lt f (length spans)) [
  | inl within ↦ within
  | inr past ↦ absurd (some_none (sym there ∙ get_or_past spans f None past))
]
  where
    some_none : Some span ≡ None → ⊥
    some_none e = cc

-- an object that lies in local memory lies within it
pub lies_within : (far : FarState) (s : Shown) (h len place : ℕ) → LocalSound s far
    → LiesAt (object_at s h) len place → (place + words_for len ≤ length s.memory) × (len ≤ most_bytes)
lies_within far s h len place sound lies =
    let c = sound.placed.placed h len place lies in
    let x = slot_inside far s h len place sound c in
    let range = sound.frames.within c.frame c.span c.there in
    let most = bytes_at_most c.span.class c.fits.in_table in
    (omega (arith, x.1, range, sound.placed.memory), omega (arith, c.fits.holds, most))

spares_other : (p : ℕ) (o : Object)
    → ((len place : ℕ) → LiesAt o len place → Covers place len p → ⊥) → Spares p o
spares_other p (is.Empty v) f = tt
spares_other p (is.Far len v words) f = tt
spares_other p (is.Here len place) f = f len place (refl, refl)
spares_other p (is.Claimed len place v words) f = tt

-- the caller owns the words of an object that it claims
pub owns_claimed : (far : FarState) (s t : Shown) (h len place v : ℕ) (words : List ℕ)
    → LocalSound s far → object_at s h ≡ is.Here len place → h < length s.objects
    → t.objects ≡ set s.objects h (is.Claimed len place v words) → length t.memory ≡ length s.memory
    → (p : ℕ) → Covers place len p → Owns t p
owns_claimed far s t h len place v words sound here range objects memory p covers =
    let lies : LiesAt (object_at s h) len place =
    subst (λ (o : Object). LiesAt o len place) (sym here) (refl, refl) in
    let within = lies_within far s h len place sound lies in (
      omega (arith, covers.1, within.0, memory),
      λ k. subst (λ (l : List Object).
          Spares p (get_or l k never)) (sym objects) (spare lies k (ℕ_discrete k h)),
    )
  where
    spare : LiesAt (object_at s h) len place → (k : ℕ) → Dec (k ≡ h)
        → Spares p (get_or (set s.objects h (is.Claimed len place v words)) k never)
    spare lies k (yes e) =
        subst (Spares p) (sym (ap (λ (j : ℕ).
        get_or (set s.objects h (is.Claimed len place v words)) j never) e
        ∙ get_or-set_same s.objects h (is.Claimed len place v words) never range)) tt
    spare lies k (no n) =
        subst (Spares p)
        (sym (get_or-set_other s.objects h k (is.Claimed len place v words) never n))
        (spares_other p (object_at s k) (λ len' place' there over.
        apart far s h len place k len' place' p sound lies there (λ e. n (sym e)) covers over))

-- the world stays sound where the objects and all version words but that of an object that is here
-- are as they were
pub sound_kept : (far : FarState) (s t : Shown) (h len place : ℕ) → LocalSound s far
    → object_at s h ≡ is.Here len place → t.first ≡ s.first → t.objects ≡ s.objects
    → length t.memory ≡ length s.memory
    → ((k : ℕ) → k ≢ h → version_at t k ≡ version_at s k) → version_at s h ≤ version_at t h
    → LocalSound t far
sound_kept far s t h len place sound here first objects memory versions rises =
    let at : (k : ℕ) → object_at t k ≡ object_at s k =
    λ k. ap (λ (l : List Object). get_or l k never) objects in record {
      known = record {
        first = first ∙ sound.known.first;
        least = sound.known.least;
        bounded = omega (arith, sound.known.bounded, ap length objects);
        made = λ k below.
            subst (λ (o : Object).
            far.made ≤ k ↔ (o ≡ never)) (sym (at k)) (sound.known.made k (omega (
              arith,
              below,
              ap length objects,
            )));
        stamped = λ k.
            subst (λ (o : Object).
            IsStamped o (version_at t k)) (sym (at k)) (stamp k (ℕ_discrete k h));
        versioned = λ k below. elim (ℕ_discrete k h) [
          | yes e ↦ omega (
            arith,
            sound.known.versioned k below,
            ap (version_at s) e,
            ap (version_at t) e,
            rises,
          )
          | no off ↦ omega (arith, sound.known.versioned k below, versions k off)
        ];
      };
      frames = sound.frames;
      placed = record {
        memory = memory ∙ sound.placed.memory;
        placed = λ k n p lies.
            sound.placed.placed k n p (subst (λ (o : Object). LiesAt o n p) (at k) lies);
        named = λ f slot k span there taken. let x =
            sound.placed.named f slot k span there taken in
            record {
              len = x.len;
              lies =
                  subst (λ (o : Object).
                  LiesAt o x.len (slot_place span.class f slot)) (sym (at k)) x.lies;
            };
      };
    }
  where
    stamp : (k : ℕ) → Dec (k ≡ h) → IsStamped (object_at s k) (version_at t k)
    stamp k (yes e) =
        subst (λ (o : Object). IsStamped o (version_at t k)) (sym (ap (object_at s) e ∙ here)) tt
    stamp k (no n) = subst (IsStamped (object_at s k)) (sym (versions k n)) (sound.known.stamped k)

-- what is known once the object is claimed after some looks
abbrev pub claimed_from : Shown → List Bool → ℕ → ℕ → ℕ → List ℕ → Shown
claimed_from s hots h w v words =
    record s {
      objects = set s.objects h (is.Claimed (len_of w) (place_of w) v words);
      hots =
          set hots h (hot_of w);
      versions = set s.versions h v;
      memory = put s.memory (place_of w) words;
    }

pub claim_played : (s : Shown) (before : List Access) (h w v : ℕ) (words : List ℕ)
    → AreLooks h before → Agree s (before ++ Claimed h w v words ∷ [])
    → (hots : List Bool)
    × (played (before ++ Claimed h w v words ∷ []) s ≡ claimed_from s hots h w v words)
    × (object_at s h ≡ is.Here (len_of w) (place_of w)) × (w < 2 ^ 53)
    × (length words ≡ words_for (len_of w)) × (version_at s h ≤ v)
claim_played s before h w v words looks agree =
    let x = looks_played h before s looks in
    let a : Agrees (record s { hots = x.0 }) (Claimed h w v words) =
    subst (λ (t : Shown).
    Agrees t (Claimed h w v words)) x.2 (agree_last before (Claimed h w v words ∷ []) s agree).0
    in (
      x.0,
      played_append before (Claimed h w v words ∷ []) s
          ∙ ap (after (Claimed h w v words)) x.2,
      a.0,
      a.2,
      a.3,
      a.4,
    )

-- an object that was claimed and settled where it was is what it was
pub set_back : (objects : List Object) (h : ℕ) (o : Object) (len place : ℕ)
    → get_or objects h never ≡ is.Here len place
    → set (set objects h o) h (is.Here len place) ≡ objects
set_back objects h o len place here = set-set objects h o (is.Here len place)
    ∙ ap (set objects h) (sym here) ∙ set-get_or objects h never
