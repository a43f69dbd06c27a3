-- At the still desk: what an operation may do keeps each object packed, and each freed one above the
-- first version.
use Rattle.std.proofs.Common.{◌≡◌, ℕ, zero, suc, ◌+◌, ◌<◌, ◌≤◌, List, [], ◌∷◌, length, get_or, set, sym, refl, ap, ◌∙◌, subst, arith, inl, inr, ⊎_elim, length-set, get_or-set_other, get_or-set_same}
use Rattle.std.proofs.lemmas.Bool.{cases_lt}
use Rattle.std.proofs.lemmas.List.{get_or_past, set-get_or}
use native.Mathlib.Decide.{ℕ_discrete}
use Rattle.cb_ptr.specs.declared.word.State.{State}
use Rattle.cb_ptr.specs.declared.word.State.TheVariants as word
use Rattle.cb_ptr.specs.Word.{state_of, len_of, place_of}
use Rattle.cb_world.specs.Allowed.{Allowed}
use Rattle.cb_world.specs.declared.access.Access.{Access}
use Rattle.cb_world.specs.declared.access.Access.TheVariants.{Looked, Claimed, Told, Loaded, Stored, Stamped, Settled}
use Rattle.cb_world.specs.declared.object.Object.{Object}
use Rattle.cb_world.specs.declared.object.Object.TheVariants as is
use Rattle.cb_world.specs.declared.shown.Shown.{Shown}
use Rattle.cb_world.specs.FarState.{FarState}
use Rattle.cb_world.specs.LocalSound.{IsStamped}
use Rattle.cb_world.specs.Memory.{IsPacked, put, window, words_for}
use Rattle.cb_world.specs.Packed.{AreFreedLater, ArePacked, IsFreedLater, IsPackedAs}
use Rattle.cb_world.specs.Plain.{IsClaim, Plain, Shows, Words, word_at}
use Rattle.cb_world.specs.Played.{after, played, settled_by}
use Rattle.cb_world.specs.Settling.{HasContents, MayBring, MayFree, MayPutAway, MaySettleAs}
use Rattle.cb_world.specs.Shown.{Covers, Fits, IsHeld, Spares, never, object_at, version_at}
use Rattle.cb_world.specs.Sound.{Sound}
use Rattle.cb_world.specs.StillDesk.{here_is, plain_follows, put_window}
use Rattle.cb_world.specs.World.{IsKnown}
use Rattle.cb_world.specs.Write.{IsWriteBelow}
use Rattle.cb_world.proofs.Packed.{contents_packed}
use Rattle.cb_world.proofs.Windows.{window_same}

-- a write of which a front is done leaves the bytes past the length as they were
pub below_packed : (n len at : ℕ) (old bytes new : List ℕ) → IsPacked len old
    → IsWriteBelow n old at bytes new → at + length bytes ≤ len → IsPacked len new
below_packed n len at old bytes new packed w inside p past below =
    let l = w.sized in w.outside p (omega (arith, l, below)) (inr (inr (omega (arith, inside, past))))
    ∙ packed p past (omega (arith, l, below))

-- ---- each object's last version is not below the first one
abbrev IsBorn : Shown → ℕ → Object → Type 0
IsBorn s h (is.Empty zero) = Unit {0}
IsBorn s h (is.Empty (suc v)) = s.first < suc v
IsBorn s h (is.Far len v words) = s.first ≤ v
IsBorn s h (is.Here len place) = s.first ≤ version_at s h
IsBorn s h (is.Claimed len place v words) = s.first ≤ v

record AreWell (x : Words) (s : Shown) : Type 0 where
  pub packed : ArePacked x s
  pub born : (h : ℕ) → IsBorn s h (object_at s h)

-- the version word of an object is as it was
same_version : (s t : Shown) (h : ℕ) (o : Object) → t.first ≡ s.first
    → version_at t h ≡ version_at s h → IsBorn s h o → IsBorn t h o
same_version s t h (is.Empty zero) f e b = tt
same_version s t h (is.Empty (suc v)) f e b = omega (arith, f, b)
same_version s t h (is.Far len v words) f e b = omega (arith, f, b)
same_version s t h (is.Here len place) f e b = omega (arith, f, e, b)
same_version s t h (is.Claimed len place v words) f e b = omega (arith, f, b)

-- or the object is held
held_version : (s t : Shown) (h : ℕ) (o : Object) → t.first ≡ s.first → IsHeld o → IsBorn s h o
    → IsBorn t h o
held_version s t h (is.Empty zero) f held b = tt
held_version s t h (is.Empty (suc v)) f held b = omega (arith, f, b)
held_version s t h (is.Far len v words) f held b = omega (arith, f, b)
held_version s t h (is.Here len place) f held b = absurd held
held_version s t h (is.Claimed len place v words) f held b = omega (arith, f, b)

empty_born : (s : Shown) (h n v : ℕ) → n ≡ v + 1 → s.first ≤ v → IsBorn s h (is.Empty n)
empty_born s h zero v e low = tt
empty_born s h (suc n) v e low = omega (arith, e, low)

-- ---- an object is settled
settled_packed : (s : Shown) (h w v n : ℕ) (q : State) (o : Object) → object_at s h ≡ o
    → MaySettleAs q s h w → IsPackedAs s n o → IsPackedAs s w (settled_by q w v o)
settled_packed s h w v n word.Empty o e m p = tt
settled_packed s h w v n word.Far (is.Empty u) e m p = absurd (subst (MayPutAway s h w) e m)
settled_packed s h w v n word.Far (is.Far len u words) e m p =
    subst (λ (k : ℕ). IsPacked k words) (sym (subst (MayPutAway s h w) e m).1) p
settled_packed s h w v n word.Far (is.Here len place) e m p =
    absurd (subst (MayPutAway s h w) e m)
settled_packed s h w v n word.Far (is.Claimed len place u words) e m p =
    subst (λ (k : ℕ). IsPacked k words) (sym (subst (MayPutAway s h w) e m).1) p
settled_packed s h w v n word.Here (is.Empty u) e m p =
    λ here. (subst (MayBring s h w) e m.3).2
settled_packed s h w v n word.Here (is.Far len u words) e m p =
    λ here. contents_packed s h w len u words (subst (MayBring s h w) e m.3) p
settled_packed s h w v n word.Here (is.Here len place) e m p =
    absurd (subst (MayBring s h w) e m.3)
settled_packed s h w v n word.Here (is.Claimed len place u words) e m p =
    λ here. contents_packed s h w len u words (subst (MayBring s h w) e m.3) p
settled_packed s h w v n word.Moving o e m p = absurd m

contents_born : (s : Shown) (h w len v : ℕ) (words : List ℕ) → HasContents s h w len v words
    → s.first ≤ v → s.first ≤ version_at s h
contents_born s h w len v words m low = ⊎_elim
    (λ (a : (version_at s h ≡ v)
    × (window s.memory (place_of w) (words_for len) ≡ words)). let e = a.0 in omega (arith, e, low))
    (λ a. let e = a.0 in omega (arith, e, low)) m.1

settled_born : (s : Shown) (h w : ℕ) (q : State) (o : Object) → object_at s h ≡ o
    → MaySettleAs q s h w → IsBorn s h o → IsBorn s h (settled_by q w (version_at s h) o)
settled_born s h w word.Empty (is.Empty v) e m b = absurd (subst (MayFree s h) e m.1)
settled_born s h w word.Empty (is.Far len v words) e m b =
    empty_born s h (version_at s h) v (subst (MayFree s h) e m.1) b
settled_born s h w word.Empty (is.Here len place) e m b = absurd (subst (MayFree s h) e m.1)
settled_born s h w word.Empty (is.Claimed len place v words) e m b =
    empty_born s h (version_at s h) v (subst (MayFree s h) e m.1) b
settled_born s h w word.Far (is.Empty v) e m b = absurd (subst (MayPutAway s h w) e m)
settled_born s h w word.Far (is.Far len v words) e m b =
    let n = (subst (MayPutAway s h w) e m).2 in omega (arith, n, b)
settled_born s h w word.Far (is.Here len place) e m b = absurd (subst (MayPutAway s h w) e m)
settled_born s h w word.Far (is.Claimed len place v words) e m b =
    let n = (subst (MayPutAway s h w) e m).2 in omega (arith, n, b)
settled_born s h w word.Here (is.Empty v) e m b =
    let n = (subst (MayBring s h w) e m.3).1 in omega (arith, n)
settled_born s h w word.Here (is.Far len v words) e m b =
    contents_born s h w len v words (subst (MayBring s h w) e m.3) b
settled_born s h w word.Here (is.Here len place) e m b = absurd (subst (MayBring s h w) e m.3)
settled_born s h w word.Here (is.Claimed len place v words) e m b =
    contents_born s h w len v words (subst (MayBring s h w) e m.3) b
settled_born s h w word.Moving o e m b = absurd m

-- ---- one object and its word are changed
one_packed : (s : Shown) (x : Words) (h w : ℕ) (o : Object) → length s.objects ≡ length x.words
    → h < length x.words → IsPackedAs s w o → ArePacked x s → (k : ℕ)
    → k < length (set x.words h w)
    → IsPackedAs s (get_or (set x.words h w) k 0) (get_or (set s.objects h o) k never)
one_packed s x h w o same within mine all k below = elim (ℕ_discrete k h) [
  | yes e ↦
      subst (λ (i : ℕ).
      IsPackedAs s (get_or (set x.words h w) i 0) (get_or (set s.objects h o) i never)) (sym e)
      (subst (λ (n : ℕ). IsPackedAs s n (get_or (set s.objects h o) h never))
      (sym (get_or-set_same x.words h w 0 within))
      (subst (IsPackedAs s w)
      (sym (get_or-set_same s.objects h o never (omega (arith, same, within)))) mine))
  | no off ↦
      subst (λ (n : ℕ). IsPackedAs s n (get_or (set s.objects h o) k never))
      (sym (get_or-set_other x.words h k w 0 off))
      (subst (IsPackedAs s (get_or x.words k 0))
      (sym (get_or-set_other s.objects h k o never off))
      (all k (let n = length-set x.words h w in omega (arith, n, below))))
]

one_born : (s : Shown) (h : ℕ) (o : Object) → h < length s.objects → IsBorn s h o
    → ((k : ℕ) → IsBorn s k (object_at s k)) → (k : ℕ)
    → IsBorn s k (get_or (set s.objects h o) k never)
one_born s h o within mine all k = elim (ℕ_discrete k h) [
  | yes e ↦ subst (λ (i : ℕ). IsBorn s i (get_or (set s.objects h o) i never)) (sym e)
      (subst (IsBorn s h) (sym (get_or-set_same s.objects h o never within)) mine)
  | no off ↦ subst (IsBorn s k) (sym (get_or-set_other s.objects h k o never off)) (all k)
]

-- a word is stored that no object covers which others may change
stored_packed : (s : Shown) (p u w : ℕ) (o : Object) → Spares p o → IsPackedAs s w o
    → IsPackedAs (after (Stored p u) s) w o
stored_packed s p u w (is.Empty v) spares m = tt
stored_packed s p u w (is.Far len v words) spares m = m
stored_packed s p u w (is.Claimed len place v words) spares m = m
stored_packed s p u w (is.Here len place) spares m = λ here.
    subst (IsPacked len)
    (sym (window_same (set s.memory p u) s.memory place (words_for len) (λ q low high.
    get_or-set_other s.memory p q u 0 (λ e.
    spares (subst (Covers place len) e (low, high)))))) (m here)

-- the memory is as it was
pub same_memory : (s t : Shown) (w : ℕ) (o : Object) → t.memory ≡ s.memory → IsPackedAs s w o
    → IsPackedAs t w o
same_memory s t w (is.Empty v) e m = tt
same_memory s t w (is.Far len v words) e m = m
same_memory s t w (is.Here len place) e m =
    λ here. subst (λ (l : List ℕ). IsPacked len (window l place (words_for len))) (sym e) (m here)
same_memory s t w (is.Claimed len place v words) e m = m

-- a version word that is stored is that of a held object
stamped_born : (s : Shown) (h v k : ℕ) → IsHeld (object_at s h) → IsBorn s k (object_at s k)
    → IsBorn (after (Stamped h v) s) k (object_at s k)
stamped_born s h v k held b = elim (ℕ_discrete k h) [
  | yes e ↦ held_version s (after (Stamped h v) s) k (object_at s k) refl
      (subst (λ (i : ℕ). IsHeld (object_at s i)) (sym e) held) b
  | no off ↦ same_version s (after (Stamped h v) s) k (object_at s k) refl
      (get_or-set_other s.versions h k v 0 off) b
]

-- ---- one event after another
well_after : (es : List Access) (x y : Words) (s : Shown) → Plain x es y → Allowed s es → Shows x s
    → AreWell x s → AreWell y (played es s)
well_after [] x y s run ok r a = subst (λ (z : Words). AreWell z s) (sym run) a
well_after (Looked h w ∷ es) x y s run ok r a =
    well_after es x y (after (Looked h w) s) run.1 ok.1
    (plain_follows (Looked h w ∷ []) x x s (run.0, refl) r).1
    (record {
      packed = a.packed;
      born = λ k. same_version s (after (Looked h w) s) k (object_at s k) refl refl (a.born k);
    })
well_after (Claimed h w v xs ∷ es) x y s run ok r a =
    let b : IsClaim x h w v xs = run.0 in
    let t : Shown = after (Claimed h w v xs) s in
    let o : Object = is.Claimed (len_of w) (place_of w) v xs in
    let within : h < length s.objects = (let n = r.objects in let l = b.within in omega (arith, n, l)) in
    let here : object_at s h ≡ is.Here (len_of w) (place_of w) =
    here_is (object_at s h) w (subst (Fits (object_at s h)) b.found (r.fit h b.within)) b.here in
    let memory : t.memory ≡ s.memory =
    ap (λ (l : List ℕ). put l (place_of w) xs) r.memory
    ∙ ap (put x.memory (place_of w)) b.contents
    ∙ put_window x.memory (place_of w) (words_for (len_of w)) ∙ sym r.memory in
    let versions : t.versions ≡ s.versions =
    ap (set s.versions h) (sym b.version ∙ ap (λ (l : List ℕ). get_or l h 0) (sym r.versions))
    ∙ set-get_or s.versions h 0 in
    let mine : IsPacked (len_of w) xs =
    subst (IsPacked (len_of w)) (ap (λ (l : List ℕ). window l (place_of w) (words_for (len_of w))) r.memory
    ∙ sym b.contents)
    (subst (λ (n : ℕ). IsPackedAs s n (is.Here (len_of w) (place_of w))) b.found
    (subst (IsPackedAs s (get_or x.words h 0)) here (a.packed h b.within)) b.here) in
    let born : s.first ≤ v =
    (let low : s.first ≤ version_at s h = subst (IsBorn s h) here (a.born h) in
    let e = b.version in let f = ap (λ (l : List ℕ). get_or l h 0) r.versions in
    omega (arith, low, e, f)) in
    well_after es (record x { words = set x.words h (w + 1) }) y t run.1 ok.1
    (plain_follows (Claimed h w v xs ∷ []) x (record x { words = set x.words h (w + 1) }) s
    (run.0, refl) r).1
    (record {
      packed = λ k below. same_memory s t (get_or (set x.words h (w + 1)) k 0)
          (get_or (set s.objects h o) k never) memory
          (one_packed s x h (w + 1) o r.objects b.within mine a.packed k below);
      born = λ k. same_version s t k (get_or (set s.objects h o) k never) refl
          (ap (λ (l : List ℕ). get_or l k 0) versions) (one_born s h o within born a.born k);
    })
well_after (Told h v ∷ es) x y s run ok r a = well_after es x y s run.1 ok.1 r a
well_after (Loaded p w ∷ es) x y s run ok r a = well_after es x y s run.1 ok.1 r a
well_after (Stored p u ∷ es) x y s run ok r a =
    well_after es (record x { memory = set x.memory p u }) y (after (Stored p u) s) run ok.1
    (plain_follows (Stored p u ∷ []) x (record x { memory = set x.memory p u }) s refl r).1
    (record {
      packed = λ k below. stored_packed s p u (word_at x k) (object_at s k) (ok.0.1 k)
          (a.packed k below);
      born = λ k. same_version s (after (Stored p u) s) k (object_at s k) refl refl (a.born k);
    })
well_after (Stamped h v ∷ es) x y s run ok r a =
    well_after es (record x { versions = set x.versions h v }) y (after (Stamped h v) s) run ok.1
    (plain_follows (Stamped h v ∷ []) x (record x { versions = set x.versions h v }) s refl r).1
    (record {
      packed = λ k below. same_memory s (after (Stamped h v) s) (word_at x k) (object_at s k) refl
          (a.packed k below);
      born = λ k. stamped_born s h v k ok.0 (a.born k);
    })
well_after (Settled h w ∷ es) x y s run ok r a =
    let o = settled_by (state_of w) w (version_at s h) (object_at s h) in
    let t : Shown = after (Settled h w) s in
    let within : h < length s.objects =
    (let n = r.objects in let l = run.0.0 in omega (arith, n, l)) in
    well_after es (record x { words = set x.words h w }) y t run.1 ok.1
    (plain_follows (Settled h w ∷ []) x (record x { words = set x.words h w }) s (run.0, refl) r).1
    (record {
      packed = λ k below. same_memory s t (get_or (set x.words h w) k 0)
          (get_or (set s.objects h o) k never) refl
          (one_packed s x h w o r.objects run.0.0
          (settled_packed s h w (version_at s h) (word_at x h) (state_of w) (object_at s h) refl ok.0
          (a.packed h run.0.0)) a.packed k below);
      born = λ k. same_version s t k (get_or (set s.objects h o) k never) refl refl
          (one_born s h o within
          (settled_born s h w (state_of w) (object_at s h) refl ok.0 (a.born h)) a.born k);
    })

-- ---- where all is known
differ_far : {len v : ℕ} {words : List ℕ} → is.Far len v words ≡ never → ⊥
differ_far e = cc

differ_here : {len place : ℕ} → is.Here len place ≡ never → ⊥
differ_here e = cc

differ_claimed : {len place v : ℕ} {words : List ℕ} → is.Claimed len place v words ≡ never → ⊥
differ_claimed e = cc

made_since : (s : Shown) (far : FarState) (h : ℕ) → Sound s far → (object_at s h ≡ never → ⊥)
    → s.first ≤ version_at s h
made_since s far h sound some = elim (cases_lt h (length s.objects)) [
  | inr past ↦ absurd (some (get_or_past s.objects h never past))
  | inl below ↦ elim (cases_lt h far.made) [
    | inl made ↦ let f = sound.here.known.first in let v = sound.here.known.versioned h made in
        omega (arith, f, v)
    | inr past ↦ absurd (some ((sound.here.known.made h below).0 past))
  ]
]

-- an object of some version was made, and its version word has a version from the first one on
born_as : (s : Shown) (far : FarState) (h : ℕ) → Sound s far → (o : Object) → object_at s h ≡ o
    → IsFreedLater s.first o → IsBorn s h o
born_as s far h sound (is.Empty zero) e later = tt
born_as s far h sound (is.Empty (suc v)) e later = later
born_as s far h sound (is.Far len v words) e later =
    let low = made_since s far h sound (λ none. differ_far (sym e ∙ none)) in
    let n = subst (λ (o : Object). IsStamped o (version_at s h)) e (sound.here.known.stamped h) in
    omega (arith, low, n)
born_as s far h sound (is.Here len place) e later =
    made_since s far h sound (λ none. differ_here (sym e ∙ none))
born_as s far h sound (is.Claimed len place v words) e later =
    let low = made_since s far h sound (λ none. differ_claimed (sym e ∙ none)) in
    let n = subst (λ (o : Object). IsStamped o (version_at s h)) e (sound.here.known.stamped h) in
    omega (arith, low, n)

-- so each version that is freed afterwards is a later one
freed_as : (s : Shown) (h : ℕ) (o : Object) → IsBorn s h o → IsFreedLater s.first o
freed_as s h (is.Empty zero) b = tt
freed_as s h (is.Empty (suc v)) b = b
freed_as s h (is.Far len v words) b = tt
freed_as s h (is.Here len place) b = tt
freed_as s h (is.Claimed len place v words) b = tt

pub record AreBothThen (y : Words) (t : Shown) : Type 0 where
  pub packed : ArePacked y t
  pub freed : AreFreedLater t

-- after an operation that did what it may
pub both_then : (x y : Words) (far : FarState) (s : Shown) (es : List Access) → IsKnown x far s
    → Plain x es y → Allowed s es → AreBothThen y (played es s)
both_then x y far s es k run ok = let z = well_after es x y s run ok k.shows (record {
  packed = k.packed;
  born = λ h. born_as s far h k.sound (object_at s h) refl (k.freed h);
}) in record {
  packed = z.packed;
  freed = λ h. freed_as (played es s) h (object_at (played es s) h) (z.born h);
}
