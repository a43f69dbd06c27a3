-- Words copied to another place, and what is known then.
use Rattle.std.proofs.Common.{◌≡◌, ℕ, suc, ◌+◌, ◌<◌, ◌≤◌, List, [], ◌∷◌, ◌++◌, length, get_or, set, sym, refl, ap, ◌∙◌, subst, arith, length-set, get_or-set_other}
use native.Mathlib.Decide.{ℕ_discrete}
use Rattle.cb_world.specs.declared.object.Object.{Object}
use Rattle.cb_world.specs.declared.object.Object.TheVariants as is
use Rattle.cb_world.specs.declared.access.Access.{Access}
use Rattle.cb_world.specs.declared.access.Access.TheVariants.{Loaded, Stored}
use Rattle.cb_world.specs.declared.entry.Entry.{Entry}
use Rattle.cb_world.specs.declared.shown.Shown.{Shown}
use Rattle.cb_world.specs.Memory.{window, put}
use Rattle.cb_world.specs.Shown.{Owns, Spares, Avoids, MayLie, IsHeld, object_at}
use Rattle.cb_world.specs.Played.{Agree, played}
use Rattle.cb_world.specs.Looks.{NoLook, NoClaim, LooksFirst, told_by}
use Rattle.cb_world.specs.Touches.{SettlesLast}
use Rattle.cb_world.specs.Allowed.{Allowed}
use Rattle.cb_world.specs.Written.{written_by}
use Rattle.cb_world.proofs.Laws.{window_same, length_put}
use Rattle.cb_filter.specs.Copies.{copied_from}

-- one word more is copied
pub copied_then : (from to : ℕ) (words : List ℕ) (x : ℕ)
    → copied_from from to words
    ++ Loaded (from + length words) x ∷ Stored (to + length words) x ∷ []
    ≡ copied_from from to (words ++ x ∷ [])
copied_then from to [] x =
    let e : from + 0 ≡ from = omega arith in
    let d : to + 0 ≡ to = omega arith in
    (λ i. Loaded (e i) x ∷ Stored (d i) x ∷ [])
copied_then from to (y ∷ ys) x =
    let e : from + suc (length ys) ≡ (from + 1) + length ys = omega arith in
    let d : to + suc (length ys) ≡ (to + 1) + length ys = omega arith in
    ap (λ (es : List Access). Loaded from y ∷ Stored to y ∷ es)
    ((λ i. copied_from (from + 1) (to + 1) ys ++ Loaded (e i) x ∷ Stored (d i) x ∷ [])
    ∙ copied_then (from + 1) (to + 1) ys x)

-- the words are at the other place then
pub copied_played : (from to : ℕ) (words : List ℕ) (s : Shown)
    → played (copied_from from to words) s ≡ record s { memory = put s.memory to words }
unfolding put
copied_played from to [] s = refl
copied_played from to (x ∷ xs) s =
    copied_played (from + 1) (to + 1) xs (record s { memory = set s.memory to x })

-- what is owned does not hang on the words
owns_set : (s : Shown) (q x p : ℕ) → Owns s p → Owns (record s { memory = set s.memory q x }) p
owns_set s q x p o = (subst (λ (n : ℕ). p < n) (sym (same s.memory q x)) o.0, o.1)
  where
    same : (ms : List ℕ) (p x : ℕ) → length (set ms p x) ≡ length ms
    same ms p x = length-set ms p x

pub copied_allowed : (from to : ℕ) (words : List ℕ) (s : Shown)
    → ((p : ℕ) → to ≤ p → p < to + length words → Owns s p)
    → Allowed s (copied_from from to words)
copied_allowed from to [] s owned = tt
copied_allowed from to (x ∷ xs) s owned = (
  tt,
  (
    owned to (omega arith) (omega arith),
    copied_allowed (from + 1) (to + 1) xs (record s { memory = set s.memory to x })
        (λ p low high.
        owns_set s to x p (owned p (omega (arith, low)) (omega (arith, high)))),
  ),
)

-- what was read is what stands at the first place, where both are owned and apart
pub copied_words : (from to : ℕ) (words : List ℕ) (s : Shown)
    → Agree s (copied_from from to words)
    → ((p : ℕ) → from ≤ p → p < from + length words → Owns s p)
    → ((p : ℕ) → from ≤ p → p < from + length words → to ≤ p → p < to + length words → ⊥)
    → words ≡ window s.memory from (length words)
unfolding window
copied_words from to [] s agree owned apart = refl
copied_words from to (x ∷ xs) s agree owned apart =
    let t : Shown = record s { memory = set s.memory to x } in
    let rest : xs ≡ window t.memory (from + 1) (length xs) =
    copied_words (from + 1) (to + 1) xs t agree.1.1
    (λ p low high. owns_set s to x p (owned p (omega (arith, low)) (omega (arith, high))))
    (λ p low high more less. apart p (omega (arith, low)) (omega (arith, high))
    (omega (arith, more)) (omega (arith, less))) in
    let same : window t.memory (from + 1) (length xs) ≡ window s.memory (from + 1) (length xs) =
    window_same t.memory s.memory (from + 1) (length xs) (λ i low high.
    get_or-set_other s.memory to i x 0 (λ e.
    apart i (omega (arith, low)) (omega (arith, high)) (omega (arith, e)) (omega (arith, e)))) in
    let first : x ≡ get_or s.memory from 0 = agree.0 (owned from (omega arith) (omega arith)) in
    let tail : xs ≡ window s.memory (from + 1) (length xs) = rest ∙ same in
    (λ i. first i ∷ tail i)

-- where no other object lies, the holder of an object owns the word
pub owns_lie : (s : Shown) (h p : ℕ) → IsHeld (object_at s h) → MayLie s h p → Owns s p
owns_lie s h p held may = (may.0, λ k. spares k (ℕ_discrete k h))
  where
    of_held : (o : Object) → IsHeld o → Spares p o
    of_held (is.Empty v) x = tt
    of_held (is.Far len v words) x = tt
    of_held (is.Here len place) x = absurd x
    of_held (is.Claimed len place v words) x = tt

    of_avoids : (o : Object) → Avoids p o → Spares p o
    of_avoids (is.Empty v) x = tt
    of_avoids (is.Far len v words) x = tt
    of_avoids (is.Here len place) x = x
    of_avoids (is.Claimed len place v words) x = tt

    spares : (k : ℕ) → Dec (k ≡ h) → Spares p (object_at s k)
    spares k (yes e) = subst (λ (i : ℕ). Spares p (object_at s i)) (sym e)
        (of_held (object_at s h) held)
    spares k (no off) = of_avoids (object_at s k) (may.1 k off)

-- nothing but memory words is touched
pub copied_no_look : (h from to : ℕ) (words : List ℕ) (fs : List Access) → NoLook h fs
    → NoLook h (copied_from from to words ++ fs)
copied_no_look h from to [] fs a = a
copied_no_look h from to (x ∷ xs) fs a =
    ((λ w e. e), ((λ w e. e), copied_no_look h (from + 1) (to + 1) xs fs a))

pub copied_told : (from to : ℕ) (words : List ℕ) (fs : List Access) (s : Shown)
    → told_by (copied_from from to words ++ fs) s ≡ told_by fs s
copied_told from to [] fs s = refl
copied_told from to (x ∷ xs) fs s = copied_told (from + 1) (to + 1) xs fs s

copied_no_claim : (from to : ℕ) (words : List ℕ) (fs : List Access) → NoClaim fs
    → NoClaim (copied_from from to words ++ fs)
copied_no_claim from to [] fs a = a
copied_no_claim from to (x ∷ xs) fs a = copied_no_claim (from + 1) (to + 1) xs fs a

pub copied_first : (from to : ℕ) (words : List ℕ) (fs : List Access) → NoClaim fs → LooksFirst fs
    → LooksFirst (copied_from from to words ++ fs)
copied_first from to [] fs a b = b
copied_first from to (x ∷ xs) fs a b = (
  copied_no_claim (from + 1) (to + 1) xs fs a,
  copied_first (from + 1) (to + 1) xs fs a b,
)

pub copied_settle_last : (from to : ℕ) (words : List ℕ) (fs : List Access) → SettlesLast fs
    → SettlesLast (copied_from from to words ++ fs)
copied_settle_last from to [] fs a = a
copied_settle_last from to (x ∷ xs) fs a = copied_settle_last (from + 1) (to + 1) xs fs a

pub copied_written : (from to : ℕ) (words : List ℕ) (fs : List Access) (s : Shown)
    (old : List Entry) → written_by (copied_from from to words ++ fs) s old
    ≡ written_by fs (played (copied_from from to words) s) old
copied_written from to [] fs s old = refl
copied_written from to (x ∷ xs) fs s old = copied_written (from + 1) (to + 1) xs fs
    (record s { memory = set s.memory to x }) old

pub owns_put : (s : Shown) (q p : ℕ) (xs : List ℕ) → Owns s p
    → Owns (record s { memory = put s.memory q xs }) p
owns_put s q p xs o = (subst (λ (n : ℕ). p < n) (sym (length_put s.memory q xs)) o.0, o.1)

pub length_then : (xs : List ℕ) (x : ℕ) → length (xs ++ x ∷ []) ≡ length xs + 1
length_then [] x = refl
length_then (y ∷ ys) x = let e = length_then ys x in omega (arith, e)
