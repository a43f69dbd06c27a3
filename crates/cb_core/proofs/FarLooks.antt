-- Over any desk, what is found of a far object is a far word.
use Rattle.std.proofs.Common.{◌≡◌, ℕ, List, [], ◌∷◌, get_or, set, refl, sym, ap, ◌∙◌, subst, inl, inr, get_or-set_other}
use native.Mathlib.Decide.{ℕ_discrete}
use Rattle.cb_ptr.specs.declared.word.State.TheVariants as state
use Rattle.cb_ptr.specs.Word.{state_of, len_of, place_of}
use Rattle.cb_ptr.proofs.Laws.{far_word_is, len_of-below}
use Rattle.cb_world.specs.declared.access.Access.{Access}
use Rattle.cb_world.specs.declared.access.Access.TheVariants.{Looked, Claimed, Told, Loaded, Stored, Stamped, Settled}
use Rattle.cb_world.specs.declared.object.Object.{Object}
use Rattle.cb_world.specs.declared.object.Object.TheVariants as is
use Rattle.cb_world.specs.declared.shown.Shown.{Shown}
use Rattle.cb_world.specs.Looks.{IsFound, LooksFirst, NoLook}
use Rattle.cb_world.specs.Played.{Agree, after, settled_by}
use Rattle.cb_world.specs.Shown.{Fits, never, object_at, version_at}

-- what is known of an object: it is far
abbrev pub IsFarNow : Shown → ℕ → Type 0
IsFarNow s h = (len v : ℕ) × (words : List ℕ) × (object_at s h ≡ is.Far len v words)

not_seen : (h w : ℕ) (es : List Access) → NoLook h es → IsFound h w es → ⊥
not_seen h w [] none found = found
not_seen h w (e ∷ es) none (inl found) = not_seen h w es none.1 found
not_seen h w (e ∷ es) none (inr found) = none.0 w found.0

far_state : (len v w : ℕ) (words : List ℕ) → Fits (is.Far len v words) w → state_of w ≡ state.Far
far_state len v w words fit = (far_word_is (len_of w) w (len_of-below w) fit.0).state

-- an object that is far is no other
not_here : (s : Shown) (h k len place : ℕ) → IsFarNow s h → object_at s k ≡ is.Here len place → k ≡ h → ⊥
not_here s h k len place (l, v, words, o) here e =
    far_here (sym o ∙ ap (object_at s) (sym e) ∙ here)
  where
    far_here : is.Far l v words ≡ is.Here len place → ⊥
    far_here f = cc

-- another object changes
another : (s : Shown) (h k : ℕ) (o : Object) → (k ≡ h → ⊥) → IsFarNow s h
    → (t : Shown) → t.objects ≡ set s.objects k o → IsFarNow t h
another s h k o off (l, v, words, away) t same = (
  l,
  v,
  words,
  ap (λ (os : List Object). get_or os h never) same
      ∙ get_or-set_other s.objects k h o never (λ e. off (sym e)) ∙ away,
)

-- an object that is settled is looked at no more
apart : (s : Shown) (h w k u : ℕ) (es : List Access) → IsFarNow s h → NoLook k es → IsFound h w es
    → (IsFarNow (after (Settled k u) s) h → state_of w ≡ state.Far) → state_of w ≡ state.Far
apart s h w k u es away none found then = by (ℕ_discrete k h)
  where
    by : Dec (k ≡ h) → state_of w ≡ state.Far
    by (yes e) = absurd (not_seen h w es (subst (λ (i : ℕ). NoLook i es) e none) found)
    by (no off) = then (another s h k
        (settled_by (state_of u) u (version_at s k) (object_at s k)) off away
        (after (Settled k u) s) refl)

pub found_away : (es : List Access) (s : Shown) (h w : ℕ) → IsFarNow s h → Agree s es → LooksFirst es
    → IsFound h w es → state_of w ≡ state.Far
found_away [] s h w away agree first found = absurd found
found_away (Looked k u ∷ es) s h w away agree first (inl found) =
    found_away es (after (Looked k u) s) h w away agree.1 first found
found_away (Looked k u ∷ es) s h w (l, v, words, o) agree first (inr found) =
    far_state l v w words (subst (Fits (is.Far l v words)) found.0.1
    (subst (λ (x : Object). Fits x u) (ap (object_at s) found.0.0 ∙ o) agree.0.0))
found_away (Claimed k u n xs ∷ es) s h w away agree first (inl found) =
    found_away es (after (Claimed k u n xs) s) h w
    (another s h k (is.Claimed (len_of u) (place_of u) n xs)
    (not_here s h k (len_of u) (place_of u) away agree.0.0) away (after (Claimed k u n xs) s) refl)
    agree.1 first.1 found
found_away (Claimed k u n xs ∷ es) s h w away agree first (inr found) =
    absurd (not_here s h k (len_of u) (place_of u) away agree.0.0 found.0.0)
found_away (Told k n ∷ es) s h w away agree first (inl found) =
    found_away es s h w away agree.1 first found
found_away (Told k n ∷ es) s h w away agree first (inr found) = absurd found.0
found_away (Loaded p x ∷ es) s h w away agree first (inl found) =
    found_away es s h w away agree.1 first found
found_away (Loaded p x ∷ es) s h w away agree first (inr found) = absurd found.0
found_away (Stored p x ∷ es) s h w away agree first (inl found) =
    found_away es (after (Stored p x) s) h w away agree.1 first.1 found
found_away (Stored p x ∷ es) s h w away agree first (inr found) = absurd found.0
found_away (Stamped k n ∷ es) s h w away agree first (inl found) =
    found_away es (after (Stamped k n) s) h w away agree.1 first.1 found
found_away (Stamped k n ∷ es) s h w away agree first (inr found) = absurd found.0
found_away (Settled k u ∷ es) s h w away agree first (inl found) =
    apart s h w k u es away first.0 found (λ there.
    found_away es (after (Settled k u) s) h w there agree.1 first.1 found)
found_away (Settled k u ∷ es) s h w away agree first (inr found) = absurd found.0
