-- The world once a claimed object is settled where it was, and what every object then holds.
use Rattle.std.proofs.Common.{◌≡◌, ◌≢◌, ◌⊎◌, ℕ, Bool, false, ◌+◌, ◌<◌, ◌≤◌, List, [], ◌∷◌, ◌++◌, length, get_or, set, sym, refl, ap, ◌∙◌, subst, arith, inl, inr, get_or-set_other, get_or-set_same}
use native.Mathlib.Decide.{ℕ_discrete}
use Rattle.std.proofs.lemmas.Bool.{cases_lt}
use Rattle.std.proofs.lemmas.List.{set-set}
use Rattle.cb_ptr.specs.Word.{hot_of, len_of, place_of}
use Rattle.cb_world.specs.declared.object.Object.{Object}
use Rattle.cb_world.specs.declared.object.Object.TheVariants as is
use Rattle.cb_world.specs.declared.access.Access.{Access}
use Rattle.cb_world.specs.declared.access.Access.TheVariants.{Looked, Claimed}
use Rattle.cb_world.specs.declared.shown.Shown.{Shown}
use Rattle.cb_world.specs.Memory.{window, put, words_for, bytes_in}
use Rattle.cb_world.specs.Shown.{Covers, Avoids, object_at, version_at, never}
use Rattle.cb_world.specs.Played.{played}
use Rattle.cb_world.specs.Looks.{told_by}
use Rattle.cb_world.specs.Written.{Writes}
use Rattle.cb_world.specs.Still.{IsStill}
use Rattle.cb_world.specs.Claimed.{IsClaimedAt, with_settled}
use Rattle.cb_world.specs.FarState.{FarState}
use Rattle.cb_world.specs.Sound.{Sound}
use Rattle.cb_world.specs.Now.{held, is_gone, now_as, now}
use Rattle.cb_world.specs.StillDesk.{window_length}
use Rattle.cb_world.proofs.Laws.{window_put, window_same, length_put, put_else, claimed_from, set_back, IsAfterClaim, sound_beside, put_beside, now_kept}
use Rattle.cb_filter.specs.ClaimEnds.{IsSettledBack}
use Rattle.cb_filter.specs.FilterEffect.{IsCooled}

-- how many words the claimed object has
pub claimed_words : (t : Shown) (h w v : ℕ) (words : List ℕ) → IsClaimedAt t h w v words
    → length words ≡ words_for (len_of w)
claimed_words t h w v words c =
    ap length (sym c.contents) ∙ window_length _ (place_of w) (words_for (len_of w))

-- what is told changes no object
pub told_objects : (es : List Access) (s : Shown) → (told_by es s).objects ≡ s.objects
told_objects [] s = refl
told_objects (Looked k w ∷ es) s = told_objects es _
told_objects (Claimed k w v words ∷ es) s = told_objects es _
told_objects (e ∷ es) s = told_objects es s

-- where all but the hot bits is the same, each object holds the same
pub now_fields : (t q : Shown) (far : FarState) (k : ℕ) → t.objects ≡ q.objects
    → t.versions ≡ q.versions → t.memory ≡ q.memory → now t far k ≡ now q far k
now_fields t q far k objects versions memory = now_kept q t far far k
    (ap (λ (l : List Object). get_or l k never) objects)
    (ap (λ (l : List ℕ). get_or l k 0) versions)
    (λ len place here. ap (λ (l : List ℕ). window l place (words_for len)) memory) refl

-- What holds once a claimed object is settled where it was.
pub record IsWellBack (far : FarState) (s t : Shown) (es : List Access) (h : ℕ) (hots : List Bool)
    : Type 0 where
  pub sound : Sound t far
  pub objects : t.objects ≡ s.objects
  pub hot : t.hots ≡ hots
  pub versions : t.versions ≡ (told_by es s).versions
  pub memory : t.memory ≡ (told_by es s).memory
  pub nothing : Writes es s []

pub settled_well : (far : FarState) (s t : Shown) (first done : List Access) (h w v : ℕ)
    (words : List ℕ) (hot : Bool) → Sound s far → IsAfterClaim s h w v words first done
    → IsSettledBack (played first s) h w hot done t
    → IsWellBack far s t (first ++ done) h (set (told_by (first ++ done) s).hots h hot)
settled_well far s t first done h w v words hot sound a back =
    let u = with_settled (claimed_from s a.hots h w v words) h w hot in
    let all : t ≡ u = back.settled ∙ ap (λ (q : Shown). with_settled q h w hot) a.at_claim in
    let objects = set_back s.objects h (is.Claimed (len_of w) (place_of w) v words) (len_of w)
    (place_of w) a.here in
    let count = claimed_words (played first s) h w v words a.claimed in
    subst (λ (q : Shown). IsWellBack far s q (first ++ done) h
    (set (told_by (first ++ done) s).hots h hot)) (sym all) (record {
      sound = sound_beside far s u h (len_of w) (place_of w) sound a.here refl objects
          (length_put s.memory (place_of w) words)
          (λ k other. get_or-set_other s.versions h k v 0 other)
          (let told = sym (ap (λ (q : Shown). version_at q h) a.at_claim) ∙ a.claimed.version in
          omega (arith, a.newer, told))
          (put_beside s.memory words (place_of w) (len_of w) count);
      objects = objects;
      hot = ap (λ (l : List Bool). set l h hot) (sym a.told_hots);
      versions = sym a.versions;
      memory = sym a.memory;
      nothing = λ old. a.writes old ∙ back.nothing old;
    })

pub back_now : (far : FarState) (s t : Shown) (es : List Access) (h k : ℕ) (hots : List Bool)
    → IsWellBack far s t es h hots → now t far k ≡ now (told_by es s) far k
back_now far s t es h k hots x = now_fields t (told_by es s) far k
    (x.objects ∙ sym (told_objects es s)) x.versions x.memory

pub is_cooled : (far : FarState) (s t : Shown) (es : List Access) (h : ℕ)
    → IsWellBack far s t es h (set (told_by es s).hots h false) → IsCooled h es s t
is_cooled far s t es h x = record {
  objects = x.objects;
  hots = x.hot;
  versions = x.versions;
  memory = x.memory;
  nothing = x.nothing;
}

-- settled as hot as it was, nothing has changed
pub is_still : (far : FarState) (s t : Shown) (first done : List Access) (h w v : ℕ)
    (words : List ℕ) → IsAfterClaim s h w v words first done
    → IsWellBack far s t (first ++ done) h (set (told_by (first ++ done) s).hots h (hot_of w))
    → IsStill (first ++ done) s t
is_still far s t first done h w v words a x = record {
  objects = x.objects;
  hots = x.hot ∙ ap (λ (l : List Bool). set l h (hot_of w)) a.told_hots
      ∙ set-set a.hots h (hot_of w) (hot_of w) ∙ sym a.told_hots;
  versions = x.versions;
  memory = x.memory;
  nothing = x.nothing;
}

pub still_now : (far : FarState) (s t : Shown) (es : List Access) (k : ℕ) → IsStill es s t
    → now t far k ≡ now (told_by es s) far k
still_now far s t es k x = now_fields t (told_by es s) far k
    (x.objects ∙ sym (told_objects es s)) x.versions x.memory

-- What changes where an object moves from one place to another, with its words.
pub record HasMoved (s q t : Shown) (h len place to : ℕ) (words : List ℕ) : Type 0 where
  pub here : object_at s h ≡ is.Here len place
  pub range : h < length s.objects
  pub told : q.objects ≡ s.objects
  pub objects : t.objects ≡ set s.objects h (is.Here len to)
  pub versions : t.versions ≡ q.versions
  pub memory : t.memory ≡ put q.memory to words
  pub contents : window q.memory place (words_for len) ≡ words
  pub count : length words ≡ words_for len
  pub within : to + words_for len ≤ length q.memory
  pub alone : (p k : ℕ) → Covers to len p → k ≢ h → Avoids p (object_at s k)

-- then every object holds what it held
pub moved_now : (s q t : Shown) (far new : FarState) (h len place to : ℕ) (words : List ℕ) (k : ℕ)
    → HasMoved s q t h len place to words → is_gone new k ≡ is_gone far k
    → now t new k ≡ now q far k
moved_now s q t far new h len place to words k x gone = by (ℕ_discrete k h)
  where
    mine : object_at t h ≡ is.Here len to
    mine = ap (λ (l : List Object). get_or l h never) x.objects
        ∙ get_or-set_same s.objects h (is.Here len to) never x.range

    was : object_at q h ≡ is.Here len place
    was = ap (λ (l : List Object). get_or l h never) x.told ∙ x.here

    other : k ≢ h → object_at t k ≡ object_at q k
    other off = ap (λ (l : List Object). get_or l k never) x.objects
        ∙ get_or-set_other s.objects h k (is.Here len to) never off
        ∙ sym (ap (λ (l : List Object). get_or l k never) x.told)

    there : window t.memory to (words_for len) ≡ words
    there = ap (λ (l : List ℕ). window l to (words_for len)) x.memory
        ∙ ap (window (put q.memory to words) to) (sym x.count)
        ∙ window_put q.memory to words (omega (arith, x.count, x.within))

    at_h : now t new h ≡ now q far h
    at_h = ap (now_as t h (is_gone new h)) mine
        ∙ (λ i. held (get_or (x.versions i) h 0) (bytes_in (there i) len))
        ∙ (λ i. held (version_at q h) (bytes_in (sym x.contents i) len))
        ∙ sym (ap (now_as q h (is_gone far h)) was)

    same : k ≢ h → (l p : ℕ) → object_at q k ≡ is.Here l p
        → window t.memory p (words_for l) ≡ window q.memory p (words_for l)
    same off l p here = window_same t.memory q.memory p (words_for l) (λ i low high.
        ap (λ (m : List ℕ). get_or m i 0) x.memory
        ∙ put_else q.memory to words i (side i low high))
      where
        clear : (i : ℕ) → p ≤ i → i < p + words_for l → Covers to len i → ⊥
        clear i low high covers = subst (Avoids i)
            (sym (ap (λ (m : List Object). get_or m k never) x.told) ∙ here)
            (x.alone i k covers off) (low, high)

        side : (i : ℕ) → p ≤ i → i < p + words_for l → (i < to) ⊎ (to + length words ≤ i)
        side i low high = elim (cases_lt i to) [
          | inl before ↦ inl before
          | inr from ↦ elim (cases_lt i (to + words_for len)) [
            | inl within ↦ absurd (clear i low high (from, within))
            | inr past ↦ inr (omega (arith, past, x.count))
          ]
        ]

    by : Dec (k ≡ h) → now t new k ≡ now q far k
    by (yes e) = ap (now t new) e ∙ at_h ∙ sym (ap (now q far) e)
    by (no off) = now_kept q t far new k (other off)
        (ap (λ (l : List ℕ). get_or l k 0) x.versions) (same off) gone
