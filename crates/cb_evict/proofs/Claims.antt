-- The local part of the sound world over claims, and over objects that are given back.
use Rattle.std.proofs.Common.{◌≡◌, ◌≢◌, ◌⊎◌, ◌↔◌, ℕ, zero, suc, Bool, false, ◌+◌, ◌^◌, ◌<◌, ◌≤◌, List, [], ◌∷◌, ◌++◌, length, take, get_or, set, All, sym, refl, ap, ◌∙◌, subst, arith, inl, inr, length-set, get_or-set_other, get_or-set_same}
use native.Mathlib.Decide.{ℕ_discrete}
use Rattle.std.proofs.lemmas.Bool.{cases_eq, cases_lt}
use Rattle.std.proofs.lemmas.List.{length-take-le, get_or-take, get_or_default, length-append, get_or_append_left, get_or-append-add}
use Rattle.std.proofs.lemmas.List.Elements.{All-nil, All-append, All-cons, All-head}
use Rattle.cb_ptr.specs.Word.{len_of, place_of, hot_of}
use Rattle.cb_span.specs.Places.{slot_place}
use Rattle.cb_world.specs.declared.leaving.Former.{Former}
use Rattle.cb_world.specs.declared.object.Object.{Object}
use Rattle.cb_world.specs.declared.object.Object.TheVariants as is
use Rattle.cb_world.specs.declared.access.Access.{Access}
use Rattle.cb_world.specs.declared.access.Access.TheVariants.{Looked, Claimed, Told, Loaded, Stored, Stamped, Settled}
use Rattle.cb_world.specs.declared.shown.Shown.{Shown}
use Rattle.cb_world.specs.Shown.{Covers, Spares, Owns, IsHeld, object_at, version_at, hot_at, never}
use Rattle.cb_world.specs.Played.{Agree, after, played}
use Rattle.cb_world.specs.Memory.{window, words_for}
use Rattle.cb_world.specs.Looks.{AreLooks, NoLook}
use Rattle.cb_world.specs.Grasped.{IsFree}
use Rattle.cb_world.specs.FarState.{FarState}
use Rattle.cb_world.specs.LocalSound.{LocalSound, LiesAt, IsStamped}
use Rattle.cb_world.specs.Claimed.{IsClaimedAt}
use Rattle.cb_world.proofs.Laws.{apart, taken_before, lies_within, claimed_from, claim_played, found_more, found_last, taken_more, taken_after_looks, played_append, window_same, put_else, length_put, is_claimed_at, avoids}
use Rattle.cb_evict.specs.Events.{OnlyLooks, AreSteady}
use Rattle.cb_evict.specs.Claims.{Keeps, IsClaimedBy, WasHere, IsNone, AreClaimed, AreBack, AreApart}
use Rattle.cb_evict.proofs.Events.{found_after, looks_append, looks_change, looks_steady, steady_append}

-- both lie at one place, with one length
abbrev pub SameLies : Object → Object → Type 0
SameLies o q = (q ≡ o) ⊎ ((len : ℕ) × (place : ℕ) × LiesAt o len place × LiesAt q len place)

lies_once : (o : Object) (a b c d : ℕ) → LiesAt o a b → LiesAt o c d → (a ≡ c) × (b ≡ d)
lies_once (is.Empty v) a b c d x y = absurd x
lies_once (is.Far n v words) a b c d x y = absurd x
lies_once (is.Here n p) a b c d x y = (x.0 ∙ sym y.0, x.1 ∙ sym y.1)
lies_once (is.Claimed n p v words) a b c d x y = (x.0 ∙ sym y.0, x.1 ∙ sym y.1)

lies_moved : (o q : Object) (m n len place : ℕ) → LiesAt o m n → LiesAt q m n → LiesAt o len place
    → LiesAt q len place
lies_moved o q m n len place x y z =
    let e = lies_once o m n len place x z in
    subst (λ (i : ℕ). LiesAt q i place) e.0 (subst (λ (i : ℕ). LiesAt q m i) e.1 y)

not_never : (o : Object) (len place : ℕ) → LiesAt o len place → o ≡ never → ⊥
not_never o len place lies e = subst (λ (q : Object). LiesAt q len place) e lies

-- the local part stays sound where each object that lies in local memory lies where it lay
pub sound_lies : (far : FarState) (s t : Shown) → LocalSound s far → t.first ≡ s.first
    → length t.memory ≡ length s.memory → length t.objects ≡ length s.objects
    → ((k : ℕ) → SameLies (object_at s k) (object_at t k))
    → ((k : ℕ) → IsStamped (object_at t k) (version_at t k))
    → ((k : ℕ) → version_at s k ≤ version_at t k) → LocalSound t far
sound_lies far s t sound first memory objects same stamped risen = record {
  known = record {
    first = first ∙ sound.known.first;
    least = sound.known.least;
    versioned = λ k below. omega (arith, sound.known.versioned k below, risen k);
    bounded = omega (arith, sound.known.bounded, objects);
    made = λ k below. elim (same k) [
      | inl e ↦ subst (λ (o : Object). far.made ≤ k ↔ (o ≡ never)) (sym e)
          (sound.known.made k (omega (arith, below, objects)))
      | inr (len, place, x, y) ↦ (
        (λ m. absurd (not_never (object_at s k) len place x
            ((sound.known.made k (omega (arith, below, objects))).0 m))),
        (λ e. absurd (not_never (object_at t k) len place y e)),
      )
    ];
    stamped = stamped;
  };
  frames = sound.frames;
  placed = record {
    memory = memory ∙ sound.placed.memory;
    placed = λ k len place lies. elim (same k) [
      | inl e ↦ sound.placed.placed k len place (subst (λ (o : Object). LiesAt o len place) e lies)
      | inr (m, n, x, y) ↦ sound.placed.placed k len place
          (lies_moved (object_at t k) (object_at s k) m n len place y x lies)
    ];
    named = λ f slot k span there taken. let z = sound.placed.named f slot k span there taken in
        elim (same k) [
          | inl e ↦ record {
            len = z.len;
            lies = subst (λ (o : Object). LiesAt o z.len (slot_place span.class f slot)) (sym e) z.lies;
          }
          | inr (m, n, x, y) ↦ record {
            len = z.len;
            lies = lies_moved (object_at s k) (object_at t k) m n z.len
                (slot_place span.class f slot) x y z.lies;
          }
        ];
  };
}

spares_other : (p : ℕ) (o : Object) → ((len place : ℕ) → LiesAt o len place → Covers place len p → ⊥)
    → Spares p o
spares_other p (is.Empty v) f = tt
spares_other p (is.Far len v words) f = tt
spares_other p (is.Here len place) f = f len place (refl, refl)
spares_other p (is.Claimed len place v words) f = tt

claimed_lies : (s : Shown) (h len place v : ℕ) (words : List ℕ)
    → object_at s h ≡ is.Claimed len place v words → LiesAt (object_at s h) len place
claimed_lies s h len place v words e =
    subst (λ (o : Object). LiesAt o len place) (sym e) (refl, refl)

-- the caller owns the words of each object that it claims
pub sound_owns : (far : FarState) (s : Shown) (h len place v : ℕ) (words : List ℕ)
    → LocalSound s far → object_at s h ≡ is.Claimed len place v words
    → (p : ℕ) → Covers place len p → Owns s p
sound_owns far s h len place v words sound claimed p covers =
    let lies = claimed_lies s h len place v words claimed in
    let within = lies_within far s h len place sound lies in
    (omega (arith, covers.1, within.0), λ k. spare lies k (ℕ_discrete k h))
  where
    spare : LiesAt (object_at s h) len place → (k : ℕ) → Dec (k ≡ h) → Spares p (object_at s k)
    spare lies k (yes e) = subst (λ (j : ℕ). Spares p (object_at s j)) (sym e)
        (subst (Spares p) (sym claimed) tt)
    spare lies k (no n) = spares_other p (object_at s k) (λ len' place' there over.
        apart far s h len place k len' place' p sound lies there (λ e. n (sym e)) covers over)

-- what is known of a claimed object in a world whose local part is sound
pub claimed_here : (far : FarState) (s : Shown) (h w v : ℕ) (words : List ℕ) → LocalSound s far
    → object_at s h ≡ is.Claimed (len_of w) (place_of w) v words → IsFree w → w < 2 ^ 53
    → window s.memory (place_of w) (words_for (len_of w)) ≡ words
    → h < length s.objects → h < length s.versions → IsClaimedAt s h w v words
claimed_here far s h w v words sound object free below contents range stamp =
    let lies = claimed_lies s h (len_of w) (place_of w) v words object in
    let within = lies_within far s h (len_of w) (place_of w) sound lies in
    let owns = sound_owns far s h (len_of w) (place_of w) v words sound object in
    record {
      object = object;
      free = free;
      below = below;
      version = subst (λ (o : Object). IsStamped o (version_at s h)) object (sound.known.stamped h);
      contents = contents;
      owned = owns;
      alone = λ p covers. (
        (owns p covers).0,
        λ k off. avoids (object_at s k) p (λ len place there over.
            apart far s h (len_of w) (place_of w) k len place p sound lies there
            (λ e. off (sym e)) covers over),
      );
      within = within.0;
      short = within.1;
      handle = range;
      stamp = stamp;
    }

-- ---- what claims leave
pub keeps_all : (s t u : Shown) → Keeps s t → Keeps t u → Keeps s u
keeps_all s t u a b = record {
  first = b.first ∙ a.first;
  objects = b.objects ∙ a.objects;
  hots = b.hots ∙ a.hots;
  versions = b.versions ∙ a.versions;
  memory = b.memory ∙ a.memory;
  held = λ h x. b.held h (a.held h x);
  owns = λ p x. b.owns p (a.owns p x);
  stamps = λ h x. b.stamps h (a.held h x) ∙ a.stamps h x;
  risen = λ h. omega (arith, a.risen h, b.risen h);
  words = λ p x. b.words p (a.owns p x) ∙ a.words p x;
}

pub keeps_hots : (s : Shown) (hots : List Bool) → length hots ≡ length s.hots
    → Keeps s (record s { hots = hots })
keeps_hots s hots same = record {
  first = refl;
  objects = refl;
  hots = same;
  versions = refl;
  memory = refl;
  held = λ h x. x;
  owns = λ p x. x;
  stamps = λ h x. refl;
  risen = λ h. omega arith;
  words = λ p x. refl;
}

pub sound_hots : (far : FarState) (s : Shown) (hots : List Bool) → LocalSound s far
    → LocalSound (record s { hots = hots }) far
sound_hots far s hots x =
    sound_lies far s (record s { hots = hots }) x refl refl refl (λ k. inl refl) x.known.stamped
    (λ k. omega arith)

-- an object that was claimed before stays claimed
pub claimed_stays : (far : FarState) (es fs : List Access) (t u : Shown) (f : Former)
    → LocalSound t far → object_at u f.handle ≡ object_at t f.handle
    → hot_at u f.handle ≡ hot_at t f.handle → NoLook f.handle fs → Keeps t u
    → IsClaimedBy es t f → IsClaimedBy (es ++ fs) u f
claimed_stays far es fs t u f sound same hot quiet keeps c = let x = c.at in record {
  at = record {
    version = x.version;
    words = x.words;
    object = same ∙ x.object;
    free = x.free;
    below = x.below;
    contents = window_same u.memory t.memory (place_of f.word) (words_for (len_of f.word))
        (λ q from to. keeps.words q (sound_owns far t f.handle (len_of f.word) (place_of f.word)
        x.version x.words sound x.object q (from, to))) ∙ x.contents;
    hot = hot ∙ x.hot;
    handle = omega (arith, x.handle, keeps.objects);
  };
  found = found_more f.handle f.word es fs c.found quiet;
  told = taken_more f.handle x.version x.words es fs c.told;
}

-- ---- one claim
only_looks : (h : ℕ) (es : List Access) → AreLooks h es → OnlyLooks es
only_looks h [] a = tt
only_looks h (Looked k w ∷ es) a = only_looks h es a.1
only_looks h (Claimed k w v ws ∷ es) a = absurd a
only_looks h (Settled k w ∷ es) a = absurd a
only_looks h (Loaded p x ∷ es) a = absurd a
only_looks h (Told k v ∷ es) a = absurd a
only_looks h (Stored p x ∷ es) a = absurd a
only_looks h (Stamped k v ∷ es) a = absurd a

-- the object once it is claimed
abbrev pub claimed_object : ℕ → ℕ → List ℕ → Object
claimed_object w v words = is.Claimed (len_of w) (place_of w) v words

-- the events of a claim
abbrev pub claim_of : List Access → ℕ → ℕ → ℕ → List ℕ → List Access
claim_of before h w v words = before ++ Claimed h w v words ∷ []

no_claim_look : (k : ℕ) (before : List Access) (h w v : ℕ) (words : List ℕ)
    → NoLook k (claim_of before h w v words) → k ≢ h
no_claim_look k [] h w v words a e = a.0 w (sym e, refl)
no_claim_look k (x ∷ before) h w v words a e = no_claim_look k before h w v words a.1 e

pub no_look_left : (k : ℕ) (es fs : List Access) → NoLook k (es ++ fs) → NoLook k es
no_look_left k [] fs a = tt
no_look_left k (e ∷ es) fs a = (a.0, no_look_left k es fs a.1)

pub no_look_right : (k : ℕ) (es fs : List Access) → NoLook k (es ++ fs) → NoLook k fs
no_look_right k [] fs a = a
no_look_right k (e ∷ es) fs a = no_look_right k es fs a.1

-- an object that is not looked at is as hot as it was
looks_cool : (k : ℕ) (es : List Access) (s : Shown) → OnlyLooks es → NoLook k es
    → hot_at (played es s) k ≡ hot_at s k
looks_cool k [] s a quiet = refl
looks_cool k (Looked j w ∷ es) s a quiet =
    looks_cool k es (record s { hots = set s.hots j (hot_of w) }) a quiet.1
    ∙ get_or-set_other s.hots j k (hot_of w) false (λ e. quiet.0 w (sym e, refl))
looks_cool k (Claimed j w v ws ∷ es) s a quiet = absurd a
looks_cool k (Settled j w ∷ es) s a quiet = absurd a
looks_cool k (Loaded p x ∷ es) s a quiet = absurd a
looks_cool k (Told j v ∷ es) s a quiet = absurd a
looks_cool k (Stored p x ∷ es) s a quiet = absurd a
looks_cool k (Stamped j v ∷ es) s a quiet = absurd a

pub claim_one : (far : FarState) (s : Shown) (before : List Access) (h w v : ℕ) (words : List ℕ)
    → LocalSound s far → h < length s.objects → h < length s.versions → h < length s.hots
    → AreLooks h before → Agree s (claim_of before h w v words) → IsFree w
    → AreClaimed (claim_of before h w v words) s (played (claim_of before h w v words) s)
    (record { handle = h; word = w } ∷ [])
    × LocalSound (played (claim_of before h w v words) s) far
    × AreSteady (claim_of before h w v words) s
claim_one far s before h w v words sound range stamp warm looks agree free =
    let es = claim_of before h w v words in
    let f : Former = record { handle = h; word = w } in
    let p = claim_played s before h w v words looks agree in
    let c = is_claimed_at far s before h w v words sound range stamp looks agree free in
    let l = looks_change before s (only_looks h before looks) in
    let e : played es s ≡ claimed_from s l.0 h w v words =
    played_append before (Claimed h w v words ∷ []) s ∙ ap (after (Claimed h w v words)) l.2 in
    let t = claimed_from s l.0 h w v words in
    let o = is.Claimed (len_of w) (place_of w) v words in
    let here = get_or-set_same s.objects h o never range in
    let others : (k : ℕ) → k ≢ h → object_at t k ≡ object_at s k =
    λ k off. get_or-set_other s.objects h k o never off in
    let lies : (len place : ℕ) → len ≡ len_of w → place ≡ place_of w → LiesAt (object_at s h) len place =
    λ len place a b. subst (λ (q : Object). LiesAt q len place) (sym p.2) (a, b) in
    let keeps : Keeps s t = record {
      first = refl;
      objects = length-set s.objects h o;
      hots = length-set l.0 h (hot_of w) ∙ l.1;
      versions = length-set s.versions h v;
      memory = length_put s.memory (place_of w) words;
      held = λ k held. still_held k held (ℕ_discrete k h) here;
      owns = λ q owns. (
        omega (arith, owns.0, length_put s.memory (place_of w) words),
        λ k. still_spares q k (owns.1 k) (ℕ_discrete k h) here,
      );
      stamps = λ k held. stays k held (ℕ_discrete k h) p.2;
      risen = λ k. risen k (ℕ_discrete k h) p.5;
      words = λ q owns. put_else s.memory (place_of w) words q
          (apart_from q (subst (Spares q) p.2 (owns.1 h)) p.4);
    } in (
      record {
        taken = All-cons (IsClaimedBy es (played es s)) f [] (record {
          at = record {
            version = v;
            words = words;
            object = c.object;
            free = free;
            below = c.below;
            contents = c.contents;
            hot = ap (λ (q : Shown). hot_at q h) e
                ∙ get_or-set_same l.0 h (hot_of w) false (let n = l.1 in omega (arith, warm, n));
            handle = c.handle;
          };
          found = found_last h w before (Claimed h w v words) (refl, refl);
          told = taken_after_looks h w v words before looks;
        }) (All-nil (IsClaimedBy es (played es s)));
        were = All-cons (WasHere s) f [] p.2 (All-nil (WasHere s));
        others = λ k none. ap (λ (q : Shown). object_at q k) e
            ∙ others k (λ i. All-head (λ former. former.handle ≢ k) f [] none (sym i));
        cool = λ k quiet. let off = no_claim_look k before h w v words quiet in
            ap (λ (q : Shown). hot_at q k) (played_append before (Claimed h w v words ∷ []) s)
            ∙ get_or-set_other (played before s).hots h k (hot_of w) false off
            ∙ looks_cool k before s (only_looks h before looks)
            (no_look_left k before (Claimed h w v words ∷ []) quiet);
        keeps = subst (Keeps s) (sym e) keeps;
      },
      subst (λ (q : Shown). LocalSound q far) (sym e)
          (sound_lies far s t sound refl keeps.memory keeps.objects
          (λ k. same k (ℕ_discrete k h) p.2 here)
          (λ k. stamped k (ℕ_discrete k h) here
          (get_or-set_same s.versions h v 0 stamp) (sound.known.stamped k))
          keeps.risen),
      steady_append before (Claimed h w v words ∷ []) s
          (looks_steady before s (only_looks h before looks))
          (record { allowed = (tt, tt); nothing = λ old. refl; hots = refl }),
    )
  where
    still_held : (k : ℕ) → IsHeld (object_at s k) → Dec (k ≡ h)
        → get_or (set s.objects h (claimed_object w v words)) h never ≡ (claimed_object w v words) → IsHeld (get_or (set s.objects h (claimed_object w v words)) k never)
    still_held k held (yes e) there =
        subst (λ (j : ℕ). IsHeld (get_or (set s.objects h (claimed_object w v words)) j never)) (sym e)
        (subst IsHeld (sym there) tt)
    still_held k held (no n) there =
        subst IsHeld (sym (get_or-set_other s.objects h k (claimed_object w v words) never n)) held

    still_spares : (q k : ℕ) → Spares q (object_at s k) → Dec (k ≡ h)
        → get_or (set s.objects h (claimed_object w v words)) h never ≡ (claimed_object w v words) → Spares q (get_or (set s.objects h (claimed_object w v words)) k never)
    still_spares q k spares (yes e) there =
        subst (λ (j : ℕ). Spares q (get_or (set s.objects h (claimed_object w v words)) j never)) (sym e)
        (subst (Spares q) (sym there) tt)
    still_spares q k spares (no n) there =
        subst (Spares q) (sym (get_or-set_other s.objects h k (claimed_object w v words) never n)) spares

    stays : (k : ℕ) → IsHeld (object_at s k) → Dec (k ≡ h)
        → object_at s h ≡ is.Here (len_of w) (place_of w)
        → get_or (set s.versions h v) k 0 ≡ get_or s.versions k 0
    stays k held (yes e) here = absurd (subst IsHeld (ap (object_at s) e ∙ here) held)
    stays k held (no n) here = get_or-set_other s.versions h k v 0 n

    risen : (k : ℕ) → Dec (k ≡ h) → version_at s h ≤ v
        → version_at s k ≤ get_or (set s.versions h v) k 0
    risen k (yes e) newer = let now = get_or-set_same s.versions h v 0 stamp in
        omega (
          arith,
          ap (version_at s) e,
          ap (λ (j : ℕ). get_or (set s.versions h v) j 0) e,
          now,
          newer,
        )
    risen k (no n) newer = omega (arith, get_or-set_other s.versions h k v 0 n)

    apart_from : (q : ℕ) → (Covers (place_of w) (len_of w) q → ⊥)
        → length words ≡ words_for (len_of w)
        → (q < place_of w) ⊎ (place_of w + length words ≤ q)
    apart_from q off count = elim (cases_lt q (place_of w)) [
      | inl below ↦ inl below
      | inr above ↦ elim (cases_lt q (place_of w + words_for (len_of w))) [
        | inl within ↦ absurd (off (above, within))
        | inr past ↦ inr (omega (arith, past, count))
      ]
    ]

    same : (k : ℕ) → Dec (k ≡ h) → object_at s h ≡ is.Here (len_of w) (place_of w)
        → get_or (set s.objects h (claimed_object w v words)) h never ≡ (claimed_object w v words)
        → SameLies (object_at s k) (get_or (set s.objects h (claimed_object w v words)) k never)
    same k (yes e) here there = inr (
      len_of w,
      place_of w,
      subst (λ (q : Object). LiesAt q (len_of w) (place_of w)) (sym (ap (object_at s) e ∙ here)) (refl, refl),
      subst (λ (q : Object). LiesAt q (len_of w) (place_of w))
          (sym (ap (λ (j : ℕ). get_or (set s.objects h (claimed_object w v words)) j never) e ∙ there)) (refl, refl),
    )
    same k (no n) here there = inl (get_or-set_other s.objects h k (claimed_object w v words) never n)

    stamped : (k : ℕ) → Dec (k ≡ h) → get_or (set s.objects h (claimed_object w v words)) h never ≡ (claimed_object w v words)
        → get_or (set s.versions h v) h 0 ≡ v → IsStamped (object_at s k) (version_at s k)
        → IsStamped (get_or (set s.objects h (claimed_object w v words)) k never) (get_or (set s.versions h v) k 0)
    stamped k (yes e) there version was =
        subst (λ (q : Object). IsStamped q (get_or (set s.versions h v) k 0))
        (sym (ap (λ (j : ℕ). get_or (set s.objects h (claimed_object w v words)) j never) e ∙ there))
        (ap (λ (j : ℕ). get_or (set s.versions h v) j 0) e ∙ version)
    stamped k (no n) there version was =
        subst (λ (q : Object). IsStamped q (get_or (set s.versions h v) k 0))
        (sym (get_or-set_other s.objects h k (claimed_object w v words) never n))
        (subst (IsStamped (object_at s k)) (sym (get_or-set_other s.versions h k v 0 n)) was)

-- ---- looks claim nothing
pub claims_nothing : (far : FarState) (s : Shown) (es : List Access) → OnlyLooks es → LocalSound s far
    → AreClaimed es s (played es s) [] × LocalSound (played es s) far × AreSteady es s
claims_nothing far s es looks sound =
    let l = looks_change es s looks in (
      record {
        taken = All-nil (IsClaimedBy es (played es s));
        were = All-nil (WasHere s);
        others = λ h none. ap (λ (q : Shown). object_at q h) l.2;
        cool = λ k quiet. looks_cool k es s looks quiet;
        keeps = subst (Keeps s) (sym l.2) (keeps_hots s l.0 l.1);
      },
      subst (λ (q : Shown). LocalSound q far) (sym l.2) (sound_hots far s l.0 sound),
      looks_steady es s looks,
    )

-- an object that could not be claimed
pub left_one : (far : FarState) (s : Shown) (before : List Access) (h w : ℕ) → LocalSound s far
    → AreLooks h before
    → AreClaimed (before ++ Looked h w ∷ []) s (played (before ++ Looked h w ∷ []) s) []
    × LocalSound (played (before ++ Looked h w ∷ []) s) far
    × AreSteady (before ++ Looked h w ∷ []) s
left_one far s before h w sound looks = claims_nothing far s (before ++ Looked h w ∷ [])
    (looks_append before (Looked h w ∷ []) (only_looks h before looks) tt) sound

-- ---- one claim after another
pub all_left : {X : Type 0} (P : X → Type 0) (xs ys : List X) → All P (xs ++ ys) → All P xs
all_left P xs ys a k d l = subst P (get_or_append_left xs ys d k l)
    (a k d (let n = length-append xs ys in omega (arith, l, n)))

pub all_right : {X : Type 0} (P : X → Type 0) (xs ys : List X) → All P (xs ++ ys) → All P ys
all_right P xs ys a k d l = subst P (get_or-append-add xs ys k d)
    (a (length xs + k) d (let n = length-append xs ys in omega (arith, l, n)))

pub claims_append : (far : FarState) (es fs : List Access) (s t u : Shown) (xs ys : List Former)
    → LocalSound t far → AreClaimed es s t xs → AreClaimed fs t u ys
    → All (λ x. IsNone ys x.handle) xs → All (λ x. NoLook x.handle fs) xs
    → All (λ y. IsNone xs y.handle) ys → AreClaimed (es ++ fs) s u (xs ++ ys)
claims_append far es fs s t u xs ys sound a b apart quiet other = record {
  taken = All-append (IsClaimedBy (es ++ fs) u) xs ys
      (λ k d l. let h = (get_or xs k d).handle in
      claimed_stays far es fs t u (get_or xs k d) sound (b.others h (apart k d l))
      (b.cool h (quiet k d l)) (quiet k d l) b.keeps (a.taken k d l))
      (λ k d l. let y = b.taken k d l in let h = (get_or ys k d).handle in record {
        at = y.at;
        found = found_after h (get_or ys k d).word es fs y.found;
        told = taken_before h y.at.version y.at.words es fs y.told;
      });
  were = All-append (WasHere s) xs ys a.were
      (λ k d l. sym (a.others (get_or ys k d).handle (other k d l)) ∙ b.were k d l);
  others = λ h none. b.others h (all_right (λ f. f.handle ≢ h) xs ys none)
      ∙ a.others h (all_left (λ f. f.handle ≢ h) xs ys none);
  cool = λ h none. b.cool h (no_look_right h es fs none) ∙ a.cool h (no_look_left h es fs none);
  keeps = keeps_all s t u a.keeps b.keeps;
}

-- ---- giving back
-- what a read past the end gives
abbrev pub no_former : Former
no_former = record { handle = 0; word = 0 }

-- an object is among these, or is none of them
pub among : (fs : List Former) (h : ℕ)
    → ((k : ℕ) × (k < length fs) × ((d : Former) → (get_or fs k d).handle ≡ h)) ⊎ IsNone fs h
among [] h = inr (All-nil (λ f. f.handle ≢ h))
among (f ∷ fs) h = elim (cases_eq f.handle h) [
  | inl e ↦ inl (0, omega arith, λ d. e)
  | inr off ↦ elim (among fs h) [
    | inl (k, l, e) ↦ inl (suc k, omega (arith, l), e)
    | inr none ↦ inr (All-cons (λ x. x.handle ≢ h) f fs off none)
  ]
]

-- the object at a place is none of those before it
pub none_earlier : (fs : List Former) (i : ℕ) (d : Former) → AreApart fs → i < length fs
    → IsNone (take i fs) (get_or fs i d).handle
none_earlier fs i d apart within k e l =
    let count : length (take i fs) ≡ i = length-take-le i fs (omega (arith, within)) in
    let less : k < i = omega (arith, l, count) in
    λ same. apart k i d less within (sym (ap (λ (f : Former). f.handle)
    (get_or-take i fs k d less)) ∙ ap (λ (f : Former). f.handle) (read (take i fs) k d e l) ∙ same)
  where
    read : (xs : List Former) (k : ℕ) (d e : Former) → k < length xs → get_or xs k d ≡ get_or xs k e
    read [] k d e l = absurd (omega (arith, l))
    read (x ∷ xs) zero d e l = refl
    read (x ∷ xs) (suc k) d e l = read xs k d e (omega (arith, l))

-- objects that were claimed and given back are what they were
pub claims_back : (es fs : List Access) (s t u : Shown) (xs : List Former) → AreClaimed es s t xs
    → AreBack t u xs → AreClaimed (es ++ fs) s u []
claims_back es fs s t u xs a b =
    let same : (h : ℕ) → object_at u h ≡ object_at s h = λ h. elim (among xs h) [
      | inl (k, l, e) ↦ given k l h (e no_former)
      | inr none ↦ b.others h none ∙ a.others h none
    ] in
    let memory : length u.memory ≡ length s.memory =
    ap (λ (l : List ℕ). length l) b.memory ∙ a.keeps.memory in
    record {
      taken = All-nil (IsClaimedBy (es ++ fs) u);
      were = All-nil (WasHere s);
      others = λ h none. same h;
      cool = λ h quiet. ap (λ (l : List Bool). get_or l h false) b.hots ∙ a.cool h (no_look_left h es fs quiet);
      keeps = record {
        first = b.first ∙ a.keeps.first;
        objects = b.objects ∙ a.keeps.objects;
        hots = ap (λ (l : List Bool). length l) b.hots ∙ a.keeps.hots;
        versions = ap (λ (l : List ℕ). length l) b.versions ∙ a.keeps.versions;
        memory = memory;
        held = λ h x. subst IsHeld (sym (same h)) x;
        owns = λ p x. (omega (arith, x.0, memory), λ k. subst (Spares p) (sym (same k)) (x.1 k));
        stamps = λ h x. ap (λ (l : List ℕ). get_or l h 0) b.versions ∙ a.keeps.stamps h x;
        risen = λ h. let now = ap (λ (l : List ℕ). get_or l h 0) b.versions in
            omega (arith, now, a.keeps.risen h);
        words = λ p x. ap (λ (l : List ℕ). get_or l p 0) b.memory ∙ a.keeps.words p x;
      };
    }
  where
    given : (k : ℕ) → k < length xs → (h : ℕ) → (get_or xs k no_former).handle ≡ h
        → object_at u h ≡ object_at s h
    given k l h e = subst (λ (j : ℕ). object_at u j ≡ object_at s j) e
        (b.back k no_former l ∙ sym (a.were k no_former l))

-- a read at a place is the same with any default
pub former_at : (fs : List Former) (i : ℕ) → i < length fs
    → get_or fs i (get_or fs i no_former) ≡ get_or fs i no_former
former_at fs i within = get_or_default fs i (get_or fs i no_former) no_former within
