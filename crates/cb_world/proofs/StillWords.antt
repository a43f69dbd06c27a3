-- The words of the still desk after a call: what is known of an object before and after says which
-- they are.
use Rattle.std.proofs.Common.{◌≡◌, ◌≢◌, ◌⊎◌, ℕ, Bool, true, false, ◌+◌, ◌*◌, ◌<◌, List, [], ◌∷◌, length, get_or, set, sym, refl, ap, ◌∙◌, subst, arith, inl, inr, length-set, get_or-set_other, get_or-set_same}
use Rattle.std.proofs.lemmas.List.{ext_get_or}
use native.Mathlib.Decide.{ℕ_discrete}
use Rattle.cb_ptr.specs.declared.word.State.{State}
use Rattle.cb_ptr.specs.declared.word.State.TheVariants as word
use Rattle.cb_ptr.specs.Word.{flag_number, fields_of, word_of, state_of, hot_of, len_of, place_of, pins_of}
use Rattle.cb_ptr.proofs.Laws.{same_but_hot, word_of-fields_of}
use Rattle.cb_world.specs.declared.object.Object.{Object}
use Rattle.cb_world.specs.declared.object.Object.TheVariants as is
use Rattle.cb_world.specs.declared.access.Access.{Access}
use Rattle.cb_world.specs.declared.access.Access.TheVariants.{Looked, Claimed, Told, Loaded, Stored, Stamped, Settled}
use Rattle.cb_world.specs.declared.shown.Shown.{Shown}
use Rattle.cb_world.specs.Shown.{Fits, IsHeld, object_at, hot_at, version_at, never}
use Rattle.cb_world.specs.Settling.{MaySettle, MaySettleAs}
use Rattle.cb_world.specs.Played.{after, played, settled_by}
use Rattle.cb_world.specs.Plain.{Words, Plain, Shows}
use Rattle.cb_world.specs.Allowed.{Allowed, LeavesUnclaimed}
use Rattle.cb_world.specs.Looks.{IsTold, LooksFirst}
use Rattle.cb_world.specs.Touches.{NoTell, SettlesLast}
use Rattle.cb_world.specs.Grasped.{IsFree}
use Rattle.cb_world.specs.Still.{IsStill}
use Rattle.cb_world.specs.FarState.{FarState}
use Rattle.cb_world.specs.World.{word_at, IsKnown}
use Rattle.cb_world.specs.StillWords.{with_hot}
use Rattle.cb_world.specs.StillDesk.{here_is as fits_here, plain_follows, plain_stays}
use Rattle.cb_world.proofs.Untouched.{may_held, untouched}
use Rattle.cb_world.proofs.Known.{HereIs, AreHotsKnown, seen_after, here_after, seen_known, told_known}

not_told : (h v : ℕ) (es : List Access) → NoTell es → IsTold h v es → ⊥
not_told h v [] none told = told
not_told h v (Told k u ∷ es) none told = none
not_told h v (e ∷ es) none told = not_told h v es none told

-- a version word that was told is the one that was there
pub told_exact : (es : List Access) (x y : Words) (h v : ℕ) → Plain x es y → SettlesLast es
    → IsTold h v es → v ≡ get_or x.versions h 0
told_exact [] x y h v run last told = absurd told
told_exact (Looked k w ∷ es) x y h v run last told = told_exact es x y h v run.1 last told
told_exact (Claimed k w u xs ∷ es) x y h v run last told =
    told_exact es (record x { words = set x.words k (w + 1) }) y h v run.1 last told
told_exact (Told k u ∷ es) x y h v run last (inl told) = told_exact es x y h v run.1 last told
told_exact (Told k u ∷ es) x y h v run last (inr told) =
    sym told.1 ∙ sym run.0 ∙ ap (λ (i : ℕ). get_or x.versions i 0) told.0
told_exact (Loaded p w ∷ es) x y h v run last told = told_exact es x y h v run.1 last told
told_exact (Stored p w ∷ es) x y h v run last told =
    told_exact es (record x { memory = set x.memory p w }) y h v run last told
told_exact (Stamped k u ∷ es) x y h v run last told = absurd (not_told h v es last.0 told)
told_exact (Settled k w ∷ es) x y h v run last told = absurd (not_told h v es last.0 told)

-- what is settled is another object than one that is here
pub settles_other : (s : Shown) (h k w len place : ℕ) → object_at s h ≡ is.Here len place
    → MaySettle s k w → h ≢ k
settles_other s h k w len place here may e =
    subst IsHeld (ap (object_at s) (sym e) ∙ here) (may_held s k w may)

-- an object that is here with pins is not claimed
pub busy_leaves : (es : List Access) (x y : Words) (s : Shown) (h len place : ℕ) → Plain x es y
    → Allowed s es → object_at s h ≡ is.Here len place → (IsFree (get_or x.words h 0) → ⊥)
    → LeavesUnclaimed h es
busy_leaves [] x y s h len place run ok here busy = tt
busy_leaves (Looked k w ∷ es) x y s h len place run ok here busy =
    busy_leaves es x y (after (Looked k w) s) h len place run.1 ok.1 here busy
busy_leaves (Claimed k w v xs ∷ es) x y s h len place run ok here busy =
    let free : IsFree w = (run.0.here, run.0.no_pins) in
    let other : h ≢ k = λ e. busy (subst IsFree (sym run.0.found
    ∙ ap (λ (i : ℕ). get_or x.words i 0) (sym e)) free) in (
      other,
      busy_leaves es (record x { words = set x.words k (w + 1) }) y (after (Claimed k w v xs) s) h
          len place run.1 ok.1 (get_or-set_other s.objects k h _ never other ∙ here)
          (λ f. busy (subst IsFree (get_or-set_other x.words k h (w + 1) 0 other) f)),
    )
busy_leaves (Told k v ∷ es) x y s h len place run ok here busy =
    busy_leaves es x y s h len place run.1 ok.1 here busy
busy_leaves (Loaded p w ∷ es) x y s h len place run ok here busy =
    busy_leaves es x y s h len place run.1 ok.1 here busy
busy_leaves (Stored p w ∷ es) x y s h len place run ok here busy =
    busy_leaves es (record x { memory = set x.memory p w }) y (after (Stored p w) s) h len place run
    ok.1 here busy
busy_leaves (Stamped k v ∷ es) x y s h len place run ok here busy =
    busy_leaves es (record x { versions = set x.versions k v }) y (after
    (Stamped k v) s) h len place
    run ok.1 here busy
busy_leaves (Settled k w ∷ es) x y s h len place run ok here busy =
    let other = settles_other s h k w len place here ok.0 in
    busy_leaves es (record x { words = set x.words k w }) y (after
    (Settled k w) s) h len place run.1
    ok.1 (get_or-set_other s.objects k h _ never other ∙ here)
    (λ f. busy (subst IsFree (get_or-set_other x.words k h w 0 other) f))

-- an object that is here has no pins
abbrev pub FreeIs : Object → ℕ → Type 0
FreeIs (is.Here len place) w = pins_of w ≡ 0
FreeIs _ w = Unit {0}

settled_free : (s : Shown) (q : State) (h w v : ℕ) (o : Object) → MaySettleAs q s h w
    → FreeIs (settled_by q w v o) w
settled_free s word.Empty h w v o may = tt
settled_free s word.Far h w v (is.Empty u) may = tt
settled_free s word.Far h w v (is.Far len u words) may = tt
settled_free s word.Far h w v (is.Here len place) may = tt
settled_free s word.Far h w v (is.Claimed len place u words) may = tt
settled_free s word.Here h w v o may = may.1
settled_free s word.Moving h w v o may = absurd may

-- one object and its word are changed
set_free : (objects : List Object) (ws : List ℕ) (h k w : ℕ) (o : Object) → k < length objects
    → k < length ws → FreeIs o w → FreeIs (get_or objects h never) (get_or ws h 0)
    → FreeIs (get_or (set objects k o) h never) (get_or (set ws k w) h 0)
set_free objects ws h k w o among within mine free = elim (ℕ_discrete h k) [
  | yes e ↦
      subst (λ (i : ℕ). FreeIs (get_or (set objects k o) i never) (get_or (set ws k w) i 0)) (sym e)
      (subst (λ (n : ℕ). FreeIs (get_or (set objects k o) k never) n)
      (sym (get_or-set_same ws k w 0 within))
      (subst (λ (p : Object). FreeIs p w) (sym (get_or-set_same objects k o never among)) mine))
  | no off ↦
      subst (λ (n : ℕ). FreeIs (get_or (set objects k o) h never) n)
      (sym (get_or-set_other ws k h w 0 off))
      (subst (λ (p : Object). FreeIs p (get_or ws h 0))
      (sym (get_or-set_other objects k h o never off)) free)
]

-- a claimed object is settled without pins
pub free_after : (es : List Access) (x y : Words) (s : Shown) (h : ℕ) → Plain x es y → Allowed s es
    → length s.objects ≡ length x.words → FreeIs (object_at s h) (get_or x.words h 0)
    → FreeIs (object_at (played es s) h) (get_or y.words h 0)
free_after [] x y s h run ok same free =
    subst (λ (z : Words). FreeIs (object_at s h) (get_or z.words h 0)) (sym run) free
free_after (Looked k w ∷ es) x y s h run ok same free =
    free_after es x y (after (Looked k w) s) h run.1 ok.1 same free
free_after (Claimed k w v xs ∷ es) x y s h run ok same free =
    free_after es (record x { words = set x.words k (w + 1) }) y (after
    (Claimed k w v xs) s) h run.1
    ok.1 (length-set s.objects k _ ∙ same ∙ sym (length-set x.words k (w + 1)))
    (set_free s.objects x.words h k (w + 1) (is.Claimed (len_of w) (place_of w) v xs)
    (omega (arith, same, run.0.within)) run.0.within tt free)
free_after (Told k v ∷ es) x y s h run ok same free = free_after es x y s h run.1 ok.1 same free
free_after (Loaded p w ∷ es) x y s h run ok same free = free_after es x y s h run.1 ok.1 same free
free_after (Stored p w ∷ es) x y s h run ok same free =
    free_after es (record x { memory = set x.memory p w }) y (after (Stored p w) s) h run ok.1 same
    free
free_after (Stamped k v ∷ es) x y s h run ok same free =
    free_after es (record x { versions = set x.versions k v }) y (after (Stamped k v) s) h run ok.1
    same free
free_after (Settled k w ∷ es) x y s h run ok same free =
    let o = settled_by (state_of w) w (version_at s k) (object_at s k) in
    free_after es (record x { words = set x.words k w }) y (after (Settled k w) s) h run.1 ok.1
    (length-set s.objects k o ∙ same ∙ sym (length-set x.words k w))
    (set_free s.objects x.words h k w o (omega (arith, same, run.0.0)) run.0.0
    (settled_free s (state_of w) k w (version_at s k) (object_at s k) ok.0) free)

-- two words of one object that are equally hot, and without pins where it is here, are one
one_word : (o : Object) (v w : ℕ) → Fits o v → Fits o w → HereIs o v → HereIs o w → FreeIs o v
    → FreeIs o w → hot_of v ≡ hot_of w → v ≡ w
one_word (is.Empty u) v w a b p q m n e = a ∙ sym b
one_word (is.Far len u words) v w a b p q m n e =
    a.0 ∙ ap (λ (l : ℕ). 1 + l * 8192) (a.1 ∙ sym b.1) ∙ sym b.0
one_word (is.Here len place) v w a b p q m n e =
    let near = same_but_hot v w a.0 b.0 (p ∙ sym q) (m ∙ sym n) (a.1 ∙ sym b.1) (a.2 ∙ sym b.2) in
    let flags = ap flag_number e in omega (arith, near, flags)
one_word (is.Claimed len place u words) v w a b p q m n e =
    let near = same_but_hot v w a.0 b.0 (a.4 ∙ sym b.4) (a.3 ∙ sym b.3) (a.1 ∙ sym b.1)
    (a.2 ∙ sym b.2) in
    let flags = ap flag_number e in omega (arith, near, flags)

-- a word is free, or it is not
is_free : (w : ℕ) → IsFree w ⊎ (IsFree w → ⊥)
is_free w = by (state_of w) refl (ℕ_discrete (pins_of w) 0)
  where
    by : (q : State) → state_of w ≡ q → Dec (pins_of w ≡ 0) → IsFree w ⊎ (IsFree w → ⊥)
    by word.Here e (yes none) = inl (e, none)
    by q e (no some) = inr (λ free. some free.1)
    by word.Empty e (yes none) = inr (λ free. let f = sym e ∙ free.0 in cc)
    by word.Far e (yes none) = inr (λ free. let f = sym e ∙ free.0 in cc)
    by word.Moving e (yes none) = inr (λ free. let f = sym e ∙ free.0 in cc)

free_or_busy : (o : Object) (w : ℕ) → (FreeIs o w × HereIs o w)
    ⊎ ((len : ℕ) × (place : ℕ) × (o ≡ is.Here len place) × (IsFree w → ⊥))
free_or_busy (is.Empty v) w = inl (tt, tt)
free_or_busy (is.Far len v words) w = inl (tt, tt)
free_or_busy (is.Claimed len place v words) w = inl (tt, tt)
free_or_busy (is.Here len place) w = elim (is_free w) [
  | inl free ↦ inl (free.1, free.0)
  | inr busy ↦ inr (len, place, refl, busy)
]

-- the word of an object of which nothing else is known then is what it was
pub word_back : (x y : Words) (far : FarState) (s : Shown) (es : List Access) (h : ℕ)
    → IsKnown x far s → Plain x es y → Allowed s es → h < length x.words → h < length y.words
    → object_at (played es s) h ≡ object_at s h → hot_at (played es s) h ≡ hot_at s h
    → word_at y h ≡ word_at x h
word_back x y far s es h k run ok below still object hot =
    by (free_or_busy (object_at s h) (word_at x h))
  where
    seen : AreHotsKnown x s
    seen = seen_known x far s k

    seen_then : AreHotsKnown y (played es s)
    seen_then = seen_after es x y s run seen

    shows : Shows y (played es s)
    shows = (plain_follows es x y s run k.shows).1

    by : (FreeIs (object_at s h) (word_at x h) × HereIs (object_at s h) (word_at x h))
        ⊎ ((len : ℕ) × (place : ℕ) × (object_at s h ≡ is.Here len place)
        × (IsFree (word_at x h) → ⊥))
        → word_at y h ≡ word_at x h
    by (inl (free, here)) = one_word (object_at s h) (word_at y h) (word_at x h)
        (subst (λ (o : Object). Fits o (word_at y h)) object (shows.fit h still))
        (k.shows.fit h below)
        (subst (λ (o : Object). HereIs o (word_at y h)) object
        (here_after es x y s h run k.shows.objects here))
        here
        (subst (λ (o : Object). FreeIs o (word_at y h)) object
        (free_after es x y s h run ok seen.objects free))
        free
        (sym (seen_then.hot h still) ∙ hot ∙ seen.hot h below)
    by (inr busy) = (untouched es x y s h busy.0 busy.1 run ok
        (busy_leaves es x y s h busy.0 busy.1 run ok busy.2 busy.3) busy.2).word

-- the list of words with one changed
pub words_but : (xs ys : List ℕ) (h w : ℕ) → length ys ≡ length xs
    → ((k : ℕ) → k < length xs → k ≢ h → get_or ys k 0 ≡ get_or xs k 0)
    → (h < length xs → get_or ys h 0 ≡ w) → ys ≡ set xs h w
words_but xs ys h w same others mine =
    ext_get_or 0 ys (set xs h w) (same ∙ sym (length-set xs h w))
    (λ k below. by k (omega (arith, below, same)) (ℕ_discrete k h))
  where
    by : (k : ℕ) → k < length xs → Dec (k ≡ h) → get_or ys k 0 ≡ get_or (set xs h w) k 0
    by k below (yes e) = ap (λ (i : ℕ). get_or ys i 0) e
        ∙ mine (subst (λ (i : ℕ). i < length xs) e below)
        ∙ sym (get_or-set_same xs h w 0 (subst (λ (i : ℕ). i < length xs) e below))
        ∙ ap (λ (i : ℕ). get_or (set xs h w) i 0) (sym e)
    by k below (no off) = others k below off ∙ sym (get_or-set_other xs h k w 0 off)

-- a refusal leaves every word
pub still_exact : (x y : Words) (far : FarState) (s : Shown) (es : List Access) → IsKnown x far s
    → Plain x es y → LooksFirst es → Allowed s es → IsStill es s (played es s) → y ≡ x
still_exact x y far s es k run first ok still =
    let told = told_known x y far s es k run first in
    let shows = (plain_follows es x y s run k.shows).1 in
    let count : length y.words ≡ length x.words =
    sym shows.objects ∙ ap (λ (l : List Object). length l) still.objects ∙ k.shows.objects in
    let hots : (played es s).hots ≡ s.hots = still.hots ∙ ap (λ (t : Shown). t.hots) told in
    let words : y.words ≡ x.words = ext_get_or 0 y.words x.words count (λ h below.
    word_back x y far s es h k run ok (omega (arith, below, count)) below
    (ap (λ (l : List Object). get_or l h never) still.objects)
    (ap (λ (l : List Bool). get_or l h false) hots)) in
    let versions : y.versions ≡ x.versions = sym shows.versions ∙ still.versions
    ∙ ap (λ (t : Shown). t.versions) told ∙ k.shows.versions in
    let memory : y.memory ≡ x.memory = sym shows.memory ∙ still.memory
    ∙ ap (λ (t : Shown). t.memory) told ∙ k.shows.memory in
    let settings : y.settings ≡ x.settings = plain_stays x y es run in
    λ i. record {
      settings = settings i;
      words = words i;
      versions = versions i;
      memory = memory i;
    }

-- an object that was settled where it was, hot, has its word as it was but hot
pub hot_word : (v w : ℕ) → Fits (is.Here (len_of w) (place_of w)) v → state_of v ≡ word.Here
    → pins_of v ≡ 0 → hot_of v ≡ true → IsFree w → v ≡ with_hot w
hot_word v w fits here none hot free =
    let fields : fields_of v ≡ record (fields_of w) { hot = true } = λ i. record {
      state = (here ∙ sym free.0) i;
      hot = hot i;
      pins = (none ∙ sym free.1) i;
      len = fits.1 i;
      place = fits.2 i;
    } in
    sym (word_of-fields_of v fits.0) ∙ ap word_of fields

-- where nothing is known then but of one object, only its word changed
pub one_exact : (x y : Words) (far : FarState) (s : Shown) (es : List Access) (h w : ℕ)
    → IsKnown x far s → Plain x es y → Allowed s es → length y.words ≡ length x.words
    → ((k : ℕ) → k ≢ h → object_at (played es s) k ≡ object_at s k)
    → ((k : ℕ) → k ≢ h → hot_at (played es s) k ≡ hot_at s k)
    → (h < length x.words → word_at y h ≡ w) → y.words ≡ set x.words h w
one_exact x y far s es h w k run ok count objects hots mine =
    words_but x.words y.words h w count
    (λ i below off. word_back x y far s es i k run ok below (omega (arith, below, count))
    (objects i off) (hots i off))
    mine

still_count : (x y : Words) (far : FarState) (s : Shown) (es : List Access) → IsKnown x far s
    → Plain x es y → length (played es s).objects ≡ length s.objects
    → length y.words ≡ length x.words
still_count x y far s es k run same =
    sym (plain_follows es x y s run k.shows).1.objects ∙ same ∙ k.shows.objects

-- a free object that is settled where it was, hot
pub hot_exact : (x y : Words) (far : FarState) (s : Shown) (es : List Access) (h : ℕ)
    → IsKnown x far s → Plain x es y → Allowed s es → IsFree (word_at x h)
    → (played es s).objects ≡ s.objects → (played es s).hots ≡ set s.hots h true
    → y.words ≡ set x.words h (with_hot (word_at x h))
hot_exact x y far s es h k run ok free objects hots =
    let count =
    still_count x y far s es k run (ap (λ (l : List Object). length l) objects) in
    one_exact x y far s es h (with_hot (word_at x h)) k run ok count
    (λ i off. ap (λ (l : List Object). get_or l i never) objects)
    (λ i off. ap (λ (l : List Bool). get_or l i false) hots
    ∙ get_or-set_other s.hots h i true false off)
    (λ below. mine below (omega (arith, below, count)))
  where
    seen_then : AreHotsKnown y (played es s)
    seen_then = seen_after es x y s run (seen_known x far s k)

    mine : h < length x.words → h < length y.words → word_at y h ≡ with_hot (word_at x h)
    mine below still =
        let w = word_at x h in
        let here : object_at s h ≡ is.Here (len_of w) (place_of w) =
        fits_here (object_at s h) w (k.shows.fit h below) free.0 in
        let there : object_at (played es s) h ≡ is.Here (len_of w) (place_of w) =
        ap (λ (l : List Object). get_or l h never) objects ∙ here in
        let hot : hot_at (played es s) h ≡ true =
        ap (λ (l : List Bool). get_or l h false) hots
        ∙ get_or-set_same s.hots h true false (omega (arith, below, k.shows.hots)) in
        hot_word (word_at y h) w
        (subst (λ (o : Object). Fits o (word_at y h)) there
        ((plain_follows es x y s run k.shows).1.fit h still))
        (subst (λ (o : Object). HereIs o (word_at y h)) there
        (here_after es x y s h run k.shows.objects
        (subst (λ (o : Object). HereIs o w) (sym here) free.0)))
        (subst (λ (o : Object). FreeIs o (word_at y h)) there
        (free_after es x y s h run ok k.shows.objects
        (subst (λ (o : Object). FreeIs o w) (sym here) free.1)))
        (sym (seen_then.hot h still) ∙ hot) free

-- an object that is freed has the word 0
pub empty_exact : (x y : Words) (far : FarState) (s : Shown) (es : List Access) (h v : ℕ)
    → IsKnown x far s → Plain x es y → Allowed s es
    → (played es s).objects ≡ set s.objects h (is.Empty v)
    → (played es s).hots ≡ set s.hots h false → y.words ≡ set x.words h 0
empty_exact x y far s es h v k run ok objects hots =
    let count = still_count x y far s es k run
    (ap (λ (l : List Object). length l) objects ∙ length-set s.objects h (is.Empty v)) in
    one_exact x y far s es h 0 k run ok count
    (λ i off. ap (λ (l : List Object). get_or l i never) objects
    ∙ get_or-set_other s.objects h i (is.Empty v) never off)
    (λ i off. ap (λ (l : List Bool). get_or l i false) hots
    ∙ get_or-set_other s.hots h i false false off)
    (λ below. subst (λ (o : Object). Fits o (word_at y h))
    (ap (λ (l : List Object). get_or l h never) objects
    ∙ get_or-set_same s.objects h (is.Empty v) never (omega (arith, below, k.shows.objects)))
    ((plain_follows es x y s run k.shows).1.fit h (omega (arith, below, count))))
