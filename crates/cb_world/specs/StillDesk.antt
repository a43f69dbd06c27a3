-- The laws of the still desk. They stand here since the desk itself names them.
use Rattle.std.proofs.Common.{◌≡◌, ℕ, Bool, true, false, zero, suc, ◌+◌, ◌*◌, ◌%◌, ◌^◌, ◌<◌, List, [], ◌∷◌, ◌++◌, length, get_or, set, sym, refl, ap, ◌∙◌, subst, arith, inl, length-set, get_or-set_other, get_or-set_same}
use Rattle.std.proofs.lemmas.List.{set-get_or}
use native.Mathlib.Decide.{ℕ_discrete}
use Rattle.cb_ptr.specs.declared.word.State.{State}
use Rattle.cb_ptr.specs.declared.word.State.TheVariants as word
use Rattle.cb_ptr.specs.Word.{state_number, state_of, hot_of, len_of, place_of}
use Rattle.cb_ptr.specs.Steps.{Claims}
use Rattle.cb_ptr.proofs.Laws.{claims, state_number-state_of}
use Rattle.cb_world.specs.declared.object.Object.{Object}
use Rattle.cb_world.specs.declared.object.Object.TheVariants as is
use Rattle.cb_world.specs.declared.access.Access.{Access}
use Rattle.cb_world.specs.declared.access.Access.TheVariants.{Looked, Claimed, Told, Loaded, Stored, Stamped, Settled}
use Rattle.cb_world.specs.Memory.{window, put, words_for}
use Rattle.cb_world.specs.declared.shown.Shown.{Shown}
use Rattle.cb_world.specs.Shown.{Fits, object_at, version_at, never}
use Rattle.cb_world.specs.Played.{Agree, after, played, settled_by}
use Rattle.cb_world.specs.Plain.{Words, IsSized, IsClaim, Plain, Shows, IsSettledAs}

pub window_length : (ms : List ℕ) (p n : ℕ) → length (window ms p n) ≡ n
unfolding window
window_length ms p zero = refl
window_length ms p (suc n) = ap suc (window_length ms (p + 1) n)

-- what is put back where it was read changes nothing
pub put_window : (ms : List ℕ) (p n : ℕ) → put ms p (window ms p n) ≡ ms
unfolding window put
put_window ms p zero = refl
put_window ms p (suc n) =
    ap (λ (l : List ℕ). put l (p + 1) (window ms (p + 1) n)) (set-get_or ms p 0)
    ∙ put_window ms (p + 1) n

pub plain_more : (x y z : Words) (es fs : List Access) → Plain x es y → Plain y fs z
    → Plain x (es ++ fs) z
plain_more x y z [] fs a b = subst (λ (l : Words). Plain l fs z) a b
plain_more x y z (Looked h w ∷ es) fs a b = (a.0, plain_more x y z es fs a.1 b)
plain_more x y z (Claimed h w v xs ∷ es) fs a b =
    (a.0, plain_more (record x { words = set x.words h (w + 1) }) y z es fs a.1 b)
plain_more x y z (Told h v ∷ es) fs a b = (a.0, plain_more x y z es fs a.1 b)
plain_more x y z (Loaded p w ∷ es) fs a b = (a.0, plain_more x y z es fs a.1 b)
plain_more x y z (Stored p w ∷ es) fs a b =
    plain_more (record x { memory = set x.memory p w }) y z es fs a b
plain_more x y z (Stamped h v ∷ es) fs a b =
    plain_more (record x { versions = set x.versions h v }) y z es fs a b
plain_more x y z (Settled h w ∷ es) fs a b =
    (a.0, plain_more (record x { words = set x.words h w }) y z es fs a.1 b)

pub plain_stays : (x y : Words) (es : List Access) → Plain x es y → y.settings ≡ x.settings
plain_stays x y [] a = ap (λ (l : Words). l.settings) a
plain_stays x y (Looked h w ∷ es) a = plain_stays x y es a.1
plain_stays x y (Claimed h w v xs ∷ es) a =
    plain_stays (record x { words = set x.words h (w + 1) }) y es a.1
plain_stays x y (Told h v ∷ es) a = plain_stays x y es a.1
plain_stays x y (Loaded p w ∷ es) a = plain_stays x y es a.1
plain_stays x y (Stored p w ∷ es) a = plain_stays (record x { memory = set x.memory p w }) y es a
plain_stays x y (Stamped h v ∷ es) a =
    plain_stays (record x { versions = set x.versions h v }) y es a
plain_stays x y (Settled h w ∷ es) a = plain_stays (record x { words = set x.words h w }) y es a.1

pub bits_here : (w : ℕ) → state_of w ≡ word.Here → w % 4 ≡ 2
bits_here w e = sym (state_number-state_of w) ∙ ap state_number e

pub bits_moving : (w : ℕ) → state_of w ≡ word.Moving → w % 4 ≡ 3
bits_moving w e = sym (state_number-state_of w) ∙ ap state_number e

-- a word that is Here without pins is that of an object that is known to be here
pub here_is : (o : Object) (w : ℕ) → Fits o w → state_of w ≡ word.Here
    → o ≡ is.Here (len_of w) (place_of w)
here_is (is.Empty v) w fit here = absurd (let b = bits_here w here in omega (arith, b, fit))
here_is (is.Far len v words) w fit here =
    absurd (let b = bits_here w here in let f = fit.0 in omega (arith, b, f))
here_is (is.Here len place) w fit here = ap (λ (n : ℕ). is.Here n place) (sym fit.1)
    ∙ ap (is.Here (len_of w)) (sym fit.2)
here_is (is.Claimed len place v words) w fit here =
    absurd (let b = bits_here w here in let m = bits_moving w fit.4 in omega (arith, b, m))

-- a word that may be settled fits what is then known
pub settled_fits : (q : State) (w v : ℕ) (o : Object) → state_of w ≡ q → IsSettledAs q w
    → Fits (settled_by q w v o) w
settled_fits word.Empty w v o e ok = ok
settled_fits word.Far w v (is.Empty u) e ok = (ok, refl)
settled_fits word.Far w v (is.Far len u words) e ok = (ok, refl)
settled_fits word.Far w v (is.Here len place) e ok = (ok, refl)
settled_fits word.Far w v (is.Claimed len place u words) e ok = (ok, refl)
settled_fits word.Here w v o e ok = (ok, refl, refl, inl e)
settled_fits word.Moving w v o e ok = absurd ok

-- one word is changed, with what is known of its object
pub fits_set : (objects : List Object) (ws : List ℕ) (h w : ℕ) (o : Object)
    → length objects ≡ length ws → h < length ws → Fits o w
    → ((k : ℕ) → k < length ws → Fits (get_or objects k never) (get_or ws k 0))
    → (k : ℕ) → k < length (set ws h w)
    → Fits (get_or (set objects h o) k never) (get_or (set ws h w) k 0)
fits_set objects ws h w o same within fit all k below = elim (ℕ_discrete k h) [
  | yes at ↦
      subst (λ (j : ℕ). Fits (get_or (set objects h o) j never) (get_or (set ws h w) j 0)) (sym at)
      (subst (λ (p : Object).
      Fits p (get_or (set ws h w) h 0))
      (sym (get_or-set_same objects h o never (omega (arith, same, within))))
      (subst (λ (n : ℕ). Fits o n) (sym (get_or-set_same ws h w 0 within)) fit))
  | no apart ↦
      subst (λ (p : Object).
      Fits p (get_or (set ws h w) k 0)) (sym (get_or-set_other objects h k o never apart))
      (subst (λ (n : ℕ).
      Fits (get_or objects k never) n) (sym (get_or-set_other ws h k w 0 apart)) (all k (let n =
      length-set ws h w in omega (arith, n, below))))
]

-- a word that is known to be hot is hot
pub hots_set : (hots : List Bool) (ws : List ℕ) (h w : ℕ) (hot : Bool) → length hots ≡ length ws
    → h < length ws → (hot ≡ true → hot_of w ≡ true)
    → ((k : ℕ) → k < length ws → get_or hots k false ≡ true → hot_of (get_or ws k 0) ≡ true)
    → (k : ℕ) → k < length (set ws h w) → get_or (set hots h hot) k false ≡ true
    → hot_of (get_or (set ws h w) k 0) ≡ true
hots_set hots ws h w hot same within fit all k below known = elim (ℕ_discrete k h) [
  | yes at ↦ let here : get_or (set hots h hot) h false ≡ hot =
      get_or-set_same hots h hot false (omega (arith, same, within)) in
      let there : get_or (set ws h w) h 0 ≡ w = get_or-set_same ws h w 0 within in
      ap (λ (j : ℕ). hot_of (get_or (set ws h w) j 0)) at ∙ ap hot_of there
      ∙ fit (sym here ∙ ap (λ (j : ℕ). get_or (set hots h hot) j false) (sym at) ∙ known)
  | no apart ↦ ap hot_of (get_or-set_other ws h k w 0 apart)
      ∙ all k (let n =
      length-set ws h w in omega (arith, n, below)) (sym (get_or-set_other hots h k hot false apart)
      ∙ known)
]

pub shows_look : (x : Words) (s : Shown) (h w : ℕ) → Shows x s → get_or x.words h 0 ≡ w
    → h < length x.words → Shows x (after (Looked h w) s)
shows_look x s h w r found within = record {
  objects = r.objects;
  versions = r.versions;
  memory = r.memory;
  fit = r.fit;
  hots = length-set s.hots h (hot_of w) ∙ r.hots;
  hot = λ k below known.
      ap (λ (l : List ℕ).
      hot_of (get_or l k 0)) (sym (ap (set x.words h) (sym found) ∙ set-get_or x.words h 0))
      ∙ hots_set s.hots x.words h w (hot_of w) r.hots within (λ e. e) r.hot k (let n =
      length-set x.words h w in omega (arith, n, below)) known;
}

pub shows_claim : (x : Words) (s : Shown) (h w v : ℕ) (xs : List ℕ) → Shows x s → IsClaim x h w v xs
    → w < 2 ^ 53
    → Shows (record x { words = set x.words h (w + 1) }) (after (Claimed h w v xs) s)
shows_claim x s h w v xs r b wide = let moved : Claims w (w + 1) =
    claims w b.here b.no_pins in record {
      objects = length-set s.objects h _ ∙ r.objects ∙ sym (length-set x.words h (w + 1));
      hots = length-set s.hots h (hot_of w) ∙ r.hots ∙ sym (length-set x.words h (w + 1));
      versions = ap (λ (l : List ℕ). set l h v) r.versions ∙ ap (set x.versions h) (sym b.version)
          ∙ set-get_or x.versions h 0;
      memory = ap (λ (l : List ℕ). put l (place_of w) xs) r.memory
          ∙ ap (put x.memory (place_of w)) b.contents
          ∙ put_window x.memory (place_of w) (words_for (len_of w));
      fit = fits_set s.objects x.words h (w + 1) (is.Claimed (len_of w) (place_of w) v xs) r.objects
          b.within (wider w wide b.here, moved.len, moved.place, moved.pins, moved.state) r.fit;
      hot = hots_set s.hots x.words h (w + 1) (hot_of w) r.hots b.within (λ e. moved.hot ∙ e) r.hot;
    }
  where
    wider : (w : ℕ) → w < 2 ^ 53 → state_of w ≡ word.Here → w + 1 < 2 ^ 53
    wider w wide here = let b = bits_here w here in omega (arith, b, wide)

pub below_here : (o : Object) (w : ℕ) → Fits o w → state_of w ≡ word.Here → w < 2 ^ 53
below_here (is.Empty v) w fit here = absurd (let b = bits_here w here in omega (arith, b, fit))
below_here (is.Far len v words) w fit here =
    absurd (let b = bits_here w here in let f = fit.0 in omega (arith, b, f))
below_here (is.Here len place) w fit here = fit.0
below_here (is.Claimed len place v words) w fit here = fit.0

pub plain_follows : (es : List Access) (x y : Words) (s : Shown) → Plain x es y → Shows x s
    → Agree s es × Shows y (played es s)
plain_follows [] x y s a r = (tt, subst (λ (l : Words). Shows l s) (sym a) r)
plain_follows (Looked h w ∷ es) x y s a r = let next =
    plain_follows es x y (after (Looked h w) s) a.1 (shows_look x s h w r a.0.0 a.0.1) in (
      (
        (
          subst (Fits (object_at s h)) a.0.0 (r.fit h a.0.1),
          λ e. ap hot_of (sym a.0.0)
              ∙ r.hot h a.0.1 e,
        ),
        next.0,
      ),
      next.1,
    )
plain_follows (Claimed h w v xs ∷ es) x y s a r = let b = a.0 in
    let fit : Fits (object_at s h) w = subst (Fits (object_at s h)) b.found (r.fit h b.within) in
    let wide : w < 2 ^ 53 = below_here (object_at s h) w fit b.here in
    let next =
    plain_follows es (record x {
      words =
          set x.words h (w + 1);
    }) y (after (Claimed h w v xs) s) a.1
    (shows_claim x s h w v xs r b wide) in (
      (
        (
          here_is (object_at s h) w fit b.here,
          (λ e. ap hot_of (sym b.found) ∙ r.hot h b.within e),
          wide,
          ap length b.contents ∙ window_length x.memory (place_of w) (words_for (len_of w)),
          (let told = ap (λ (l : List ℕ). get_or l h 0) r.versions in
              omega (arith, told, b.version)),
        ),
        next.0,
      ),
      next.1,
    )
plain_follows (Told h v ∷ es) x y s a r = let next =
    plain_follows es x y s a.1 r in
    (((λ _. sym a.0 ∙ ap (λ (l : List ℕ). get_or l h 0) (sym r.versions)), next.0), next.1)
plain_follows (Loaded p w ∷ es) x y s a r = let next =
    plain_follows es x y s a.1 r in
    (((λ _. sym a.0 ∙ ap (λ (l : List ℕ). get_or l p 0) (sym r.memory)), next.0), next.1)
plain_follows (Stored p w ∷ es) x y s a r =
    let next =
    plain_follows es (record x {
      memory =
          set x.memory p w;
    }) y (after (Stored p w) s) a (record {
      objects = r.objects;
      hots =
          r.hots;
      hot = r.hot;
      versions = r.versions;
      memory =
          ap (λ (l : List ℕ). set l p w) r.memory;
      fit = r.fit;
    }) in
    ((tt, next.0), next.1)
plain_follows (Stamped h v ∷ es) x y s a r =
    let next =
    plain_follows es (record x {
      versions =
          set x.versions h v;
    }) y (after (Stamped h v) s) a (record {
      objects = r.objects;
      hots =
          r.hots;
      hot = r.hot;
      versions = ap (λ (l : List ℕ). set l h v) r.versions;
      memory =
          r.memory;
      fit = r.fit;
    }) in
    ((tt, next.0), next.1)
plain_follows (Settled h w ∷ es) x y s a r =
    let o = settled_by (state_of w) w (version_at s h) (object_at s h) in
    let next =
    plain_follows es (record x {
      words =
          set x.words h w;
    }) y (after (Settled h w) s) a.1 (record {
      objects = length-set s.objects h o ∙ r.objects ∙ sym (length-set x.words h w);
      hots = length-set s.hots h (hot_of w) ∙ r.hots ∙ sym (length-set x.words h w);
      versions = r.versions;
      memory = r.memory;
      fit = fits_set s.objects x.words h w o r.objects a.0.0
          (settled_fits (state_of w) w (version_at s h) (object_at s h) refl a.0.1) r.fit;
      hot = hots_set s.hots x.words h w (hot_of w) r.hots a.0.0 (λ e. e) r.hot;
    }) in
    ((tt, next.0), next.1)

pub plain_sized : (x : Words) (s : Shown) → IsSized x → Shows x s
    → (length s.objects ≡ x.settings.handles) × (length s.hots ≡ x.settings.handles)
    × (length s.versions ≡ x.settings.handles) × (length s.memory ≡ 512 * x.settings.frames)
plain_sized x s z r = (
  r.objects ∙ z.words,
  r.hots ∙ z.words,
  ap length r.versions ∙ z.versions,
  ap length r.memory
      ∙ z.memory,
)
