-- At the still desk: what is known before a call of it is known after it, and what its events tell
-- was known already.
use Rattle.std.proofs.Common.{◌≡◌, ◌⊎◌, ℕ, Bool, false, ◌+◌, ◌<◌, ◌≤◌, List, [], ◌∷◌, length, get_or, set, sym, refl, ap, ◌∙◌, subst, arith, inl, inr, length-set, get_or-set_other, get_or-set_same}
use Rattle.std.proofs.lemmas.Bool.{cases_lt}
use Rattle.std.proofs.lemmas.List.{set-get_or, get_or_past}
use native.Mathlib.Decide.{ℕ_discrete}
use Rattle.cb_ptr.specs.declared.word.State.{State}
use Rattle.cb_ptr.specs.declared.word.State.TheVariants as word
use Rattle.cb_ptr.specs.Word.{state_of, hot_of, len_of, place_of}
use Rattle.cb_ptr.specs.Steps.{Claims}
use Rattle.cb_ptr.proofs.Laws.{claims}
use Rattle.cb_world.specs.declared.object.Object.{Object}
use Rattle.cb_world.specs.declared.object.Object.TheVariants as is
use Rattle.cb_world.specs.declared.access.Access.{Access}
use Rattle.cb_world.specs.declared.access.Access.TheVariants.{Looked, Claimed, Told, Loaded, Stored, Stamped, Settled}
use Rattle.cb_world.specs.declared.shown.Shown.{Shown}
use Rattle.cb_world.specs.Memory.{put, words_for}
use Rattle.cb_world.specs.Shown.{object_at, hot_at, version_at, never}
use Rattle.cb_world.specs.Allowed.{Allowed}
use Rattle.cb_world.specs.Played.{after, played, settled_by}
use Rattle.cb_world.specs.Plain.{Words, Plain, IsSized, IsSettledAs}
use Rattle.cb_world.specs.Looks.{NoLook, NoClaim, LooksFirst, told_by}
use Rattle.cb_world.specs.FarState.{FarState}
use Rattle.cb_world.specs.Sound.{Sound}
use Rattle.cb_world.specs.World.{IsKnown}
use Rattle.cb_world.specs.StillDesk.{plain_follows, put_window}
use Rattle.cb_world.proofs.Packing.{both_then}

-- two lists go together, and so they do where both are changed at one place
pair_set : {A : Type 0} (P : A → ℕ → Type 0) (none : A) (xs : List A) (ws : List ℕ) (h w : ℕ)
    (a : A) → length xs ≡ length ws → h < length ws → P a w
    → ((k : ℕ) → k < length ws → P (get_or xs k none) (get_or ws k 0))
    → (k : ℕ) → k < length (set ws h w) → P (get_or (set xs h a) k none) (get_or (set ws h w) k 0)
pair_set P none xs ws h w a same within fit all k below = elim (ℕ_discrete k h) [
  | yes at ↦
      subst (λ (j : ℕ). P (get_or (set xs h a) j none) (get_or (set ws h w) j 0)) (sym at)
      (subst (λ (n : ℕ). P (get_or (set xs h a) h none) n) (sym (get_or-set_same ws h w 0 within))
      (subst (λ (b : _). P b w)
      (sym (get_or-set_same xs h a none (omega (arith, same, within)))) fit))
  | no apart ↦
      subst (λ (n : ℕ). P (get_or (set xs h a) k none) n)
      (sym (get_or-set_other ws h k w 0 apart))
      (subst (λ (b : _). P b (get_or ws k 0)) (sym (get_or-set_other xs h k a none apart))
      (all k (let n = length-set ws h w in omega (arith, n, below))))
]

-- an object that is here and not claimed has a word that is here
abbrev pub HereIs : Object → ℕ → Type 0
HereIs (is.Here len place) w = state_of w ≡ word.Here
HereIs _ w = Unit {0}

-- each hot bit is known
pub record AreHotsKnown (x : Words) (s : Shown) : Type 0 where
  pub objects : length s.objects ≡ length x.words
  pub hots : length s.hots ≡ length x.words
  pub hot : (h : ℕ) → h < length x.words → hot_at s h ≡ hot_of (get_or x.words h 0)

settled_seen : (q : State) (w v : ℕ) (o : Object) → state_of w ≡ q → IsSettledAs q w
    → HereIs (settled_by q w v o) w
settled_seen word.Empty w v o e ok = tt
settled_seen word.Far w v (is.Empty u) e ok = tt
settled_seen word.Far w v (is.Far len u words) e ok = tt
settled_seen word.Far w v (is.Here len place) e ok = tt
settled_seen word.Far w v (is.Claimed len place u words) e ok = tt
settled_seen word.Here w v o e ok = e
settled_seen word.Moving w v o e ok = absurd ok

pub seen_after : (es : List Access) (x y : Words) (s : Shown) → Plain x es y → AreHotsKnown x s
    → AreHotsKnown y (played es s)
seen_after [] x y s run a = subst (λ (z : Words). AreHotsKnown z s) (sym run) a
seen_after (Looked h w ∷ es) x y s run a =
    let same : set x.words h w ≡ x.words =
    ap (set x.words h) (sym run.0.0) ∙ set-get_or x.words h 0 in
    seen_after es x y (after (Looked h w) s) run.1 (record {
      objects = a.objects;
      hots = length-set s.hots h (hot_of w) ∙ a.hots;
      hot = subst (λ (ws : List ℕ). (k : ℕ) → k < length ws
          → get_or (set s.hots h (hot_of w)) k false ≡ hot_of (get_or ws k 0)) same
          (pair_set (λ b n. b ≡ hot_of n) false s.hots x.words h w (hot_of w) a.hots run.0.1 refl
          a.hot);
    })
seen_after (Claimed h w v xs ∷ es) x y s run a =
    let b = run.0 in let moved : Claims w (w + 1) = claims w b.here b.no_pins in
    seen_after es (record x { words = set x.words h (w + 1) }) y (after (Claimed h w v xs) s) run.1
    (record {
      objects = length-set s.objects h _ ∙ a.objects ∙ sym (length-set x.words h (w + 1));
      hots = length-set s.hots h (hot_of w) ∙ a.hots ∙ sym (length-set x.words h (w + 1));
      hot = pair_set (λ b n. b ≡ hot_of n) false s.hots x.words h (w + 1) (hot_of w) a.hots b.within
          (sym moved.hot) a.hot;
    })
seen_after (Told h v ∷ es) x y s run a = seen_after es x y s run.1 a
seen_after (Loaded p w ∷ es) x y s run a = seen_after es x y s run.1 a
seen_after (Stored p w ∷ es) x y s run a =
    seen_after es (record x { memory = set x.memory p w }) y (after (Stored p w) s) run
    (record { objects = a.objects; hots = a.hots; hot = a.hot })
seen_after (Stamped h v ∷ es) x y s run a =
    seen_after es (record x { versions = set x.versions h v }) y (after (Stamped h v) s) run
    (record { objects = a.objects; hots = a.hots; hot = a.hot })
seen_after (Settled h w ∷ es) x y s run a =
    let o = settled_by (state_of w) w (version_at s h) (object_at s h) in
    seen_after es (record x { words = set x.words h w }) y (after (Settled h w) s) run.1 (record {
      objects = length-set s.objects h o ∙ a.objects ∙ sym (length-set x.words h w);
      hots = length-set s.hots h (hot_of w) ∙ a.hots ∙ sym (length-set x.words h w);
      hot = pair_set (λ b n. b ≡ hot_of n) false s.hots x.words h w (hot_of w) a.hots run.0.0 refl
          a.hot;
    })

-- one object and its word are changed
set_here : (objects : List Object) (ws : List ℕ) (h k w : ℕ) (o : Object)
    → length objects ≡ length ws → k < length ws → HereIs o w
    → HereIs (get_or objects h never) (get_or ws h 0)
    → HereIs (get_or (set objects k o) h never) (get_or (set ws k w) h 0)
set_here objects ws h k w o same within mine here = elim (ℕ_discrete h k) [
  | yes e ↦
      subst (λ (i : ℕ). HereIs (get_or (set objects k o) i never) (get_or (set ws k w) i 0)) (sym e)
      (subst (λ (n : ℕ). HereIs (get_or (set objects k o) k never) n)
      (sym (get_or-set_same ws k w 0 within))
      (subst (λ (p : Object). HereIs p w)
      (sym (get_or-set_same objects k o never (omega (arith, same, within)))) mine))
  | no off ↦
      subst (λ (n : ℕ). HereIs (get_or (set objects k o) h never) n)
      (sym (get_or-set_other ws k h w 0 off))
      (subst (λ (p : Object). HereIs p (get_or ws h 0))
      (sym (get_or-set_other objects k h o never off)) here)
]

-- an object that is here and not claimed has a word that is here afterwards, where it had one
pub here_after : (es : List Access) (x y : Words) (s : Shown) (h : ℕ) → Plain x es y
    → length s.objects ≡ length x.words → HereIs (object_at s h) (get_or x.words h 0)
    → HereIs (object_at (played es s) h) (get_or y.words h 0)
here_after [] x y s h run same here =
    subst (λ (z : Words). HereIs (object_at s h) (get_or z.words h 0)) (sym run) here
here_after (Looked k w ∷ es) x y s h run same here =
    here_after es x y (after (Looked k w) s) h run.1 same here
here_after (Claimed k w v xs ∷ es) x y s h run same here =
    here_after es (record x { words = set x.words k (w + 1) }) y (after (Claimed k w v xs) s) h run.1
    (length-set s.objects k _ ∙ same ∙ sym (length-set x.words k (w + 1)))
    (set_here s.objects x.words h k (w + 1) (is.Claimed (len_of w) (place_of w) v xs) same
    run.0.within tt here)
here_after (Told k v ∷ es) x y s h run same here = here_after es x y s h run.1 same here
here_after (Loaded p w ∷ es) x y s h run same here = here_after es x y s h run.1 same here
here_after (Stored p w ∷ es) x y s h run same here =
    here_after es (record x { memory = set x.memory p w }) y (after (Stored p w) s) h run same here
here_after (Stamped k v ∷ es) x y s h run same here =
    here_after es (record x { versions = set x.versions k v }) y (after (Stamped k v) s) h run same
    here
here_after (Settled k w ∷ es) x y s h run same here =
    let o = settled_by (state_of w) w (version_at s k) (object_at s k) in
    here_after es (record x { words = set x.words k w }) y (after (Settled k w) s) h run.1
    (length-set s.objects k o ∙ same ∙ sym (length-set x.words k w))
    (set_here s.objects x.words h k w o same run.0.0
    (settled_seen (state_of w) w (version_at s k) (object_at s k) refl run.0.1) here)

pub seen_known : (x : Words) (far : FarState) (s : Shown) → IsKnown x far s → AreHotsKnown x s
seen_known x far s k = record {
  objects = k.shows.objects;
  hots = k.shows.hots;
  hot = k.hots;
}

-- what is known after a call, where the world is sound then
pub known_after : (x y : Words) (far new : FarState) (s : Shown) (es : List Access) → IsKnown x far s
    → Plain x es y → Allowed s es → (IsSized x → IsSized y) → Sound (played es s) new
    → IsKnown y new (played es s)
known_after x y far new s es k run allowed sized sound = let seen =
    seen_after es x y s run (seen_known x far s k) in let both = both_then x y far s es k run allowed in
    record {
      sized = sized k.sized;
      shows = (plain_follows es x y s run k.shows).1;
      hots = seen.hot;
      sound = sound;
      packed = both.packed;
      freed = both.freed;
    }

-- what the events can tell of is known: hot bits of words that are looked at, and the words of
-- objects that are claimed
record AreToldOf (x : Words) (s : Shown) (es : List Access) : Type 0 where
  pub hots : (h : ℕ) → NoLook h es ⊎ (hot_at s h ≡ hot_of (get_or x.words h 0))
  pub words : NoClaim es ⊎ ((s.versions ≡ x.versions) × (s.memory ≡ x.memory))

later : {P : Type 0} (h : ℕ) (e : Access) (es : List Access) → NoLook h (e ∷ es) ⊎ P
    → NoLook h es ⊎ P
later h e es (inl none) = inl none.1
later h e es (inr p) = inr p

-- the other objects' words are as they were
other_told : (x : Words) (s : Shown) (h w : ℕ) (es : List Access) → NoLook h es
    → ((k : ℕ) → NoLook k es ⊎ (hot_at s k ≡ hot_of (get_or x.words k 0)))
    → (k : ℕ) → NoLook k es ⊎ (hot_at s k ≡ hot_of (get_or (set x.words h w) k 0))
other_told x s h w es none told k = elim (ℕ_discrete k h) [
  | yes e ↦ inl (subst (λ (j : ℕ). NoLook j es) (sym e) none)
  | no off ↦ elim (told k) [
    | inl a ↦ inl a
    | inr b ↦ inr (b ∙ ap hot_of (sym (get_or-set_other x.words h k w 0 off)))
  ]
]

same_hots : (x : Words) (s : Shown) (h w : ℕ) (es : List Access) → get_or x.words h 0 ≡ w
    → NoLook h es ⊎ (hot_at s h ≡ hot_of (get_or x.words h 0)) → (NoLook h es → ⊥)
    → set s.hots h (hot_of w) ≡ s.hots
same_hots x s h w es found (inl none) looked = absurd (looked none)
same_hots x s h w es found (inr told) looked =
    ap (set s.hots h) (ap hot_of (sym found) ∙ sym told) ∙ set-get_or s.hots h false

-- what the events tell was known
told_is : (es : List Access) (x y : Words) (s : Shown) → Plain x es y → LooksFirst es
    → AreToldOf x s es → told_by es s ≡ s
told_is [] x y s run first a = refl
told_is (Looked h w ∷ es) x y s run first a =
    let same = same_hots x s h w (Looked h w ∷ es) run.0.0 (a.hots h)
    (λ none. none.0 w (refl, refl)) in
    ap (λ (l : List Bool). told_by es (record s { hots = l })) same
    ∙ told_is es x y s run.1 first (record {
      hots = λ k. later k (Looked h w) es (a.hots k);
      words = a.words;
    })
told_is (Claimed h w v xs ∷ es) x y s run first a =
    let same = same_hots x s h w (Claimed h w v xs ∷ es) run.0.found (a.hots h)
    (λ none. none.0 w (refl, refl)) in
    let known : (s.versions ≡ x.versions) × (s.memory ≡ x.memory) = claimed a.words in
    let versions : set s.versions h v ≡ s.versions = ap (set s.versions h) (sym run.0.version
    ∙ ap (λ (l : List ℕ). get_or l h 0) (sym known.0)) ∙ set-get_or s.versions h 0 in
    let memory : put s.memory (place_of w) xs ≡ s.memory =
    ap (λ (l : List ℕ). put l (place_of w) xs) known.1
    ∙ ap (put x.memory (place_of w)) run.0.contents
    ∙ put_window x.memory (place_of w) (words_for (len_of w)) ∙ sym known.1 in
    ap (told_by es) (λ i. record s { hots = same i; versions = versions i; memory = memory i })
    ∙ told_is es (record x { words = set x.words h (w + 1) }) y s run.1 first.1 (record {
      hots = other_told x s h (w + 1) es first.0 (λ k. later k (Claimed h w v xs) es (a.hots k));
      words = inr known;
    })
  where
    claimed : ⊥ ⊎ ((s.versions ≡ x.versions) × (s.memory ≡ x.memory))
        → (s.versions ≡ x.versions) × (s.memory ≡ x.memory)
    claimed (inl none) = absurd none
    claimed (inr known) = known
told_is (Told h v ∷ es) x y s run first a = told_is es x y s run.1 first (record {
  hots = λ k. later k (Told h v) es (a.hots k);
  words = a.words;
})
told_is (Loaded p w ∷ es) x y s run first a = told_is es x y s run.1 first (record {
  hots = λ k. later k (Loaded p w) es (a.hots k);
  words = a.words;
})
told_is (Stored p w ∷ es) x y s run first a =
    told_is es (record x { memory = set x.memory p w }) y s run first.1 (record {
      hots = λ k. later k (Stored p w) es (a.hots k);
      words = inl first.0;
    })
told_is (Stamped h v ∷ es) x y s run first a =
    told_is es (record x { versions = set x.versions h v }) y s run first.1 (record {
      hots = λ k. later k (Stamped h v) es (a.hots k);
      words = inl first.0;
    })
told_is (Settled h w ∷ es) x y s run first a =
    told_is es (record x { words = set x.words h w }) y s run.1 first.1 (record {
      hots = other_told x s h w es first.0 (λ k. later k (Settled h w) es (a.hots k));
      words = a.words;
    })

-- what the events of a call tell was known
pub told_known : (x y : Words) (far : FarState) (s : Shown) (es : List Access) → IsKnown x far s
    → Plain x es y → LooksFirst es → told_by es s ≡ s
told_known x y far s es k run first = told_is es x y s run first (record {
  hots = λ h. by h (cases_lt h (length x.words));
  words = inr (k.shows.versions, k.shows.memory);
})
  where
    by : (h : ℕ) → (h < length x.words) ⊎ (length x.words ≤ h)
        → NoLook h es ⊎ (hot_at s h ≡ hot_of (get_or x.words h 0))
    by h (inl below) = inr (k.hots h below)
    by h (inr past) = inr (get_or_past s.hots h false (omega (arith, past, k.shows.hots))
        ∙ ap hot_of (sym (get_or_past x.words h 0 past)))
