-- Claimed objects are settled at the words that are noted, one after another.
use Rattle.std.proofs.Common.{◌≡◌, ◌≢◌, ℕ, false, ◌+◌, ◌<◌, List, [], ◌∷◌, ◌++◌, length, take, get_or, set, All, sym, refl, ap, ◌∙◌, subst, arith, inl, inr, length-set, get_or-set_other, get_or-set_same}
use Rattle.std.proofs.lemmas.Bool.{cases_eq}
use Rattle.std.proofs.lemmas.List.{ext_get_or}
use Rattle.cb_ptr.specs.Word.{len_of, place_of, hot_of}
use Rattle.cb_world.specs.declared.entry.Entry.{Entry}
use Rattle.cb_world.specs.declared.leaving.Former.{Former}
use Rattle.cb_world.specs.declared.object.Object.{Object}
use Rattle.cb_world.specs.declared.object.Object.TheVariants as is
use Rattle.cb_world.specs.declared.access.Access.{Access}
use Rattle.cb_world.specs.declared.access.Access.TheVariants.{Settled}
use Rattle.cb_world.specs.declared.shown.Shown.{Shown}
use Rattle.cb_world.specs.Shown.{object_at, version_at, hot_at, never}
use Rattle.cb_world.specs.Played.{after, played}
use Rattle.cb_world.specs.Memory.{window, words_for}
use Rattle.cb_world.specs.Written.{written_by}
use Rattle.cb_world.specs.FarState.{FarState}
use Rattle.cb_world.specs.LocalSound.{LocalSound, LiesAt, IsStamped}
use Rattle.cb_world.specs.Claimed.{IsClaimedAt}
use Rattle.cb_world.proofs.Laws.{may_put_back, settled_here, back_written, played_append, written_append, allowed_append}
use Rattle.cb_world.specs.Looks.{NoLook}
use Rattle.cb_evict.specs.Claims.{AreApart, AreBack, IsHeldAt}
use Rattle.cb_evict.specs.Claiming.{IsOne}
use Rattle.cb_evict.specs.Events.{TouchesOnly, AreSteady}
use Rattle.cb_evict.specs.Restoring.{IsClaimedFrom, IsHereAt, AreRestored, IsRestoring}
use Rattle.cb_evict.proofs.ChangedObjects.{changed_none, changed_more, settled_at}
use Rattle.cb_evict.proofs.Claims.{among, claimed_here, no_former, none_earlier, sound_lies}
use Rattle.cb_evict.proofs.Events.{quiet_told}

pub restoring_none : (far : FarState) (s : Shown) → LocalSound s far → IsRestoring far [] s []
restoring_none far s sound = record {
  restored = changed_none s (IsHereAt s);
  sound = sound;
  allowed = tt;
  nothing = λ old. refl;
}

-- the next object is claimed still
pub next_claimed : (far : FarState) (s t : Shown) (fs : List Former) (i : ℕ) (d : Former)
    → AreApart fs → i < length fs → LocalSound t far → All (IsClaimedFrom s) fs
    → AreRestored s t (take i fs) → (get_or fs i d).handle < length s.versions
    → (x : IsClaimedFrom s (get_or fs i d))
    × IsClaimedAt t (get_or fs i d).handle (get_or fs i d).word x.version x.words
next_claimed far s t fs i d apart within sound claimed a stamp =
    let f = get_or fs i d in let x = claimed i d within in
    let same : object_at t f.handle ≡ object_at s f.handle =
    a.others f.handle (none_earlier fs i d apart within) in (
      x,
      claimed_here far t f.handle f.word x.version x.words sound (same ∙ x.object) x.free x.below
          (ap (λ (ms : List ℕ). window ms (place_of f.word) (words_for (len_of f.word))) a.memory
          ∙ x.contents) (omega (arith, x.handle, a.objects))
          (subst (λ (l : List ℕ). f.handle < length l) (sym a.versions) stamp),
    )

-- one object more is here again
restored_more : (s t : Shown) (fs : List Former) (i v : ℕ) (d : Former) (words : List ℕ)
    → AreRestored s t (take i fs)
    → IsClaimedAt t (get_or fs i d).handle (get_or fs i d).word v words
    → (get_or fs i d).handle < length t.hots → AreApart fs → i < length fs
    → AreRestored s (after (Settled (get_or fs i d).handle (get_or fs i d).word) t) (take (i + 1) fs)
restored_more s t fs i v d words a c warm apart within =
    let f = get_or fs i d in let h = f.handle in let w = f.word in
    let e = settled_here t h w c.free.0 in
    let o = is.Here (len_of w) (place_of w) in
    subst (λ (q : Shown). AreRestored s q (take (i + 1) fs)) (sym e)
    (changed_more s t fs i d o (hot_of w) (IsHereAt t) (IsHereAt (settled_at t h o (hot_of w))) apart
    within a (λ g object hot y. record { object = object ∙ y.object; hot = hot ∙ y.hot })
    (record {
      object = get_or-set_same t.objects h o never c.handle;
      hot = get_or-set_same t.hots h (hot_of w) false warm;
    }))

-- and the local part stays sound
restored_sound : (far : FarState) (t : Shown) (h w v : ℕ) (words : List ℕ) → LocalSound t far
    → IsClaimedAt t h w v words → LocalSound (after (Settled h w) t) far
restored_sound far t h w v words sound c =
    let e = settled_here t h w c.free.0 in
    let o = is.Here (len_of w) (place_of w) in
    let u : Shown = record t { objects = set t.objects h o; hots = set t.hots h (hot_of w) } in
    let there : object_at u h ≡ o = get_or-set_same t.objects h o never c.handle in
    let other : (k : ℕ) → k ≢ h → object_at u k ≡ object_at t k =
    λ k off. get_or-set_other t.objects h k o never off in
    subst (λ (q : Shown). LocalSound q far) (sym e)
    (sound_lies far t u sound refl refl (length-set t.objects h o)
    (λ k. elim (cases_eq k h) [
      | inl q ↦ inr (
        len_of w,
        place_of w,
        subst (λ (x : Object). LiesAt x (len_of w) (place_of w))
            (sym (ap (object_at t) q ∙ c.object)) (refl, refl),
        subst (λ (x : Object). LiesAt x (len_of w) (place_of w))
            (sym (ap (object_at u) q ∙ there)) (refl, refl),
      )
      | inr n ↦ inl (other k n)
    ])
    (λ k. elim (cases_eq k h) [
      | inl q ↦ subst (λ (x : Object). IsStamped x (version_at t k))
          (sym (ap (object_at u) q ∙ there)) tt
      | inr n ↦ subst (λ (x : Object). IsStamped x (version_at t k)) (sym (other k n))
          (sound.known.stamped k)
    ])
    (λ k. omega arith))

pub restoring_more : (far : FarState) (es : List Access) (s : Shown) (fs : List Former) (i : ℕ)
    (d : Former) → AreApart fs → i < length fs → All (IsClaimedFrom s) fs
    → (get_or fs i d).handle < length s.versions → IsRestoring far es s (take i fs)
    → IsRestoring far (es ++ Settled (get_or fs i d).handle (get_or fs i d).word ∷ []) s
    (take (i + 1) fs)
restoring_more far es s fs i d apart within claimed stamp r =
    let f = get_or fs i d in let last = Settled f.handle f.word ∷ [] in
    let t = played es s in
    let x = next_claimed far s t fs i d apart within r.sound claimed r.restored stamp in
    let warm : f.handle < length t.hots = let y = x.0.warm in omega (arith, y, r.restored.heat) in
    let same = played_append es last s in record {
      restored = subst (λ (q : Shown). AreRestored s q (take (i + 1) fs)) (sym same)
          (restored_more s t fs i x.0.version d x.0.words r.restored x.1 warm apart within);
      sound = subst (λ (q : Shown). LocalSound q far) (sym same)
          (restored_sound far t f.handle f.word x.0.version x.0.words r.sound x.1);
      allowed = allowed_append es last s r.allowed
          (may_put_back t f.handle f.word x.0.version x.0.words x.1, tt);
      nothing = λ old. written_append es last s old
          ∙ ap (λ (l : List Entry). written_by last t l) (r.nothing old)
          ∙ back_written t f.handle f.word x.0.version x.0.words x.1 old;
    }

-- ---- objects of which the hot bits are known
pub claimed_from : (s : Shown) (fs : List Former) → length s.hots ≡ length s.objects
    → All (IsHeldAt s) fs → All (IsClaimedFrom s) fs
claimed_from s fs warm held i d within = let x = held i d within in record {
  version = x.version;
  words = x.words;
  object = x.object;
  free = x.free;
  below = x.below;
  contents = x.contents;
  handle = x.handle;
  warm = omega (arith, x.handle, warm);
}

-- are what they were, hot bits included
pub back_from : (far : FarState) (es : List Access) (s : Shown) (fs : List Former)
    → All (IsHeldAt s) fs → IsRestoring far es s fs → TouchesOnly (IsOne fs) (λ p. ⊥) es
    → ((k : ℕ) → NoLook k es)
    → AreBack s (played es s) fs × LocalSound (played es s) far × AreSteady es s
back_from far es s fs held r touches quiet =
    let t = played es s in let a = r.restored in
    let hots : t.hots ≡ s.hots = ext_get_or false t.hots s.hots a.heat (λ h below. hot h) in (
      record {
        back = λ i d within. (a.changed i d within).object;
        others = a.others;
        objects = a.objects;
        hots = hots;
        versions = a.versions;
        memory = a.memory;
        first = a.first;
      },
      r.sound,
      record {
        allowed = r.allowed;
        nothing = r.nothing;
        hots = hots ∙ sym (ap (λ (q : Shown). q.hots) (quiet_told (IsOne fs) (λ p. ⊥) es s touches quiet));
      },
    )
  where
    hot : (h : ℕ) → hot_at (played es s) h ≡ hot_at s h
    hot h = elim (among fs h) [
      | inl (i, l, e) ↦ ap (hot_at (played es s)) (sym (e no_former))
          ∙ (r.restored.changed i no_former l).hot ∙ sym (held i no_former l).hot
          ∙ ap (hot_at s) (e no_former)
      | inr none ↦ r.restored.hots h none
    ]
