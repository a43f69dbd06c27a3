-- What is known once a new object is written at its place.
use Rattle.std.proofs.Common.{◌≡◌, ℕ, suc, Bool, false, ◌+◌, ◌^◌, ◌<◌, ◌≤◌, List, [], ◌∷◌, ◌++◌, length, set, sym, refl, ap, ◌∙◌, subst, arith, length-set, get_or-set_same}
use native.Mathlib.Decide.{ℕ_discrete}
use Rattle.cb_ptr.specs.declared.word.State.{State}
use Rattle.cb_ptr.specs.declared.word.State.TheVariants as state
use Rattle.cb_ptr.specs.declared.word.PtrWord.{PtrWord}
use Rattle.cb_ptr.specs.Word.{state_of, hot_of, len_of, place_of, pins_of, fields_of, IsInWidths}
use Rattle.cb_ptr.proofs.Laws.{fields_of-word_of, word_of-below}
use Rattle.cb_world.specs.declared.access.Access.{Access}
use Rattle.cb_world.specs.declared.access.Access.TheVariants.{Stored, Stamped, Settled}
use Rattle.cb_world.specs.declared.object.Object.{Object}
use Rattle.cb_world.specs.declared.object.Object.TheVariants as is
use Rattle.cb_world.specs.declared.shown.Shown.{Shown}
use Rattle.cb_world.specs.Memory.{window, put, words_for, IsPacked}
use Rattle.cb_world.specs.Shown.{Covers, Owns, Spares, Avoids, MayLie, IsHeld, object_at}
use Rattle.cb_world.specs.Settling.{MaySettle, MaySettleAs, MayBring, settled_words}
use Rattle.cb_world.specs.Played.{after, played}
use Rattle.cb_world.specs.Looks.{LooksFirst}
use Rattle.cb_world.specs.Allowed.{Allowed}
use Rattle.cb_world.specs.Written.{Writes, written_by, adds_as, entry}
use Rattle.cb_world.specs.Claimed.{OwnsAll}
use Rattle.cb_world.proofs.Laws.{window_put, length_put, settled_here, played_append, allowed_append}
use Rattle.cb_mutate.specs.Stores.{AreStores, stores_from}
use Rattle.cb_mutate.specs.MakeRule.{new_word, make_events}
use Rattle.cb_mutate.specs.MakeEnds.{IsNewAt}
use Rattle.cb_mutate.proofs.Settling.{stores_first, stores_written}

-- one store more
pub stores_then : (place : ℕ) (words : List ℕ) (x : ℕ)
    → stores_from place words ++ Stored (place + length words) x ∷ []
    ≡ stores_from place (words ++ x ∷ [])
stores_then place [] x =
    ap (λ (p : ℕ). let es : List Access = Stored p x ∷ [] in es)
    (let e : place + 0 ≡ place = omega arith in e)
stores_then place (y ∷ ys) x =
    ap (λ (es : List Access). Stored place y ∷ es)
    (ap (λ (p : ℕ). stores_from (place + 1) ys ++ Stored p x ∷ [])
    (let e : place + suc (length ys) ≡ (place + 1) + length ys = omega arith in e)
    ∙ stores_then (place + 1) ys x)

pub stores_are : (place : ℕ) (words : List ℕ) → AreStores (stores_from place words)
stores_are place [] = tt
stores_are place (x ∷ xs) = stores_are (place + 1) xs

-- the words are in memory then
pub stores_played : (place : ℕ) (words : List ℕ) (s : Shown)
    → played (stores_from place words) s ≡ record s { memory = put s.memory place words }
unfolding put
stores_played place [] s = refl
stores_played place (x ∷ xs) s =
    stores_played (place + 1) xs (record s { memory = set s.memory place x })

-- words may be stored where each is owned
pub stores_allowed : (place : ℕ) (words : List ℕ) (s : Shown)
    → ((p : ℕ) → place ≤ p → p < place + length words → Owns s p)
    → Allowed s (stores_from place words)
stores_allowed place [] s owned = tt
stores_allowed place (x ∷ xs) s owned = (
  owned place (omega arith) (omega arith),
  stores_allowed (place + 1) xs (record s { memory = set s.memory place x })
      (λ p low high. let o = owned p (omega (arith, low)) (omega (arith, high)) in
      (subst (λ (n : ℕ). p < n) (sym (length_set s.memory place x)) o.0, o.1)),
)
  where
    length_set : (ms : List ℕ) (p x : ℕ) → length (set ms p x) ≡ length ms
    length_set ms p x = length-set ms p x

-- how a new word reads
pub record IsNewWord (w len place : ℕ) : Type 0 where
  pub state : state_of w ≡ state.Here
  pub hot : hot_of w ≡ false
  pub pins : pins_of w ≡ 0
  pub length : len_of w ≡ len
  pub place_is : place_of w ≡ place
  pub below : w < 2 ^ 53

pub word_is : (w len place : ℕ) → fields_of w ≡ (let p : PtrWord = record {
  state = state.Here;
  hot = false;
  pins = 0;
  len = len;
  place = place;
} in p) → w < 2 ^ 53 → IsNewWord w len place
word_is w len place e below = record {
  state = ap (λ (q : PtrWord). q.state) e;
  hot = ap (λ (q : PtrWord). q.hot) e;
  pins = ap (λ (q : PtrWord). q.pins) e;
  length = ap (λ (q : PtrWord). q.len) e;
  place_is = ap (λ (q : PtrWord). q.place) e;
  below = below;
}

new_word_reads : (len place : ℕ) → len < 2 ^ 16 → place < 2 ^ 24
    → IsNewWord (new_word len place) len place
new_word_reads len place short low =
    let p : PtrWord = record {
      state = state.Here;
      hot = false;
      pins = 0;
      len = len;
      place = place;
    } in
    let fits : IsInWidths p = record { pins = omega arith; len = short; place = low } in
    word_is (new_word len place) len place (fields_of-word_of p fits) (word_of-below p fits)

-- where no other object lies, the holder of an object owns the word
owns_lie : (s : Shown) (h p : ℕ) → IsHeld (object_at s h) → MayLie s h p → Owns s p
owns_lie s h p held may = (may.0, λ k. spares k (ℕ_discrete k h))
  where
    of_held : (o : Object) → IsHeld o → Spares p o
    of_held (is.Empty v) x = tt
    of_held (is.Far len v words) x = tt
    of_held (is.Here len place) x = absurd x
    of_held (is.Claimed len place v words) x = tt

    of_avoids : (o : Object) → Avoids p o → Spares p o
    of_avoids (is.Empty v) x = tt
    of_avoids (is.Far len v words) x = tt
    of_avoids (is.Here len place) x = x
    of_avoids (is.Claimed len place v words) x = tt

    spares : (k : ℕ) → Dec (k ≡ h) → Spares p (object_at s k)
    spares k (yes e) = subst (λ (i : ℕ). Spares p (object_at s i)) (sym e)
        (of_held (object_at s h) held)
    spares k (no off) = of_avoids (object_at s k) (may.1 k off)

-- the words of a new object are owned, and its version word is held
pub new_owned : (s : Shown) (h version place len : ℕ) → IsNewAt s h version place len
    → OwnsAll s place len
new_owned s h version place len x p covers =
    owns_lie s h p (subst IsHeld (sym x.never_made) tt) (x.alone p covers)

-- what is known once the words and the version word are stored
abbrev pub with_contents : Shown → ℕ → ℕ → ℕ → List ℕ → Shown
with_contents s h version place words =
    record s { versions = set s.versions h version; memory = put s.memory place words }

pub contents_played : (s : Shown) (h version place : ℕ) (words : List ℕ)
    → played (stores_from place words ++ Stamped h version ∷ []) s
    ≡ with_contents s h version place words
contents_played s h version place words =
    played_append (stores_from place words) (Stamped h version ∷ []) s
    ∙ ap (after (Stamped h version)) (stores_played place words s)

read_back : (s : Shown) (h version place len w : ℕ) (words : List ℕ) → length words ≡ words_for len
    → place + words_for len ≤ length s.memory → IsNewWord w len place
    → settled_words (with_contents s h version place words) w ≡ words
read_back s h version place len w words count within x =
    ap (λ (p : ℕ). window (put s.memory place words) p (words_for (len_of w))) x.place_is
    ∙ ap (λ (n : ℕ). window (put s.memory place words) place (words_for n)) x.length
    ∙ ap (window (put s.memory place words) place) (sym count)
    ∙ window_put s.memory place words (omega (arith, count, within))

-- then the pointer word may be settled
pub new_may_settle : (s : Shown) (h version place len w : ℕ) (words : List ℕ)
    → IsNewAt s h version place len → length words ≡ words_for len → IsPacked len words
    → IsNewWord w len place → MaySettle (with_contents s h version place words) h w
new_may_settle s h version place len w words new count packed x =
    let t = with_contents s h version place words in
    let read = read_back s h version place len w words count new.within x in
    subst (λ (q : State). MaySettleAs q t h w) (sym x.state) (
      x.below,
      x.pins,
      λ p covers. let may = new.alone p (subst (λ (a : ℕ). Covers a len p) x.place_is
          (subst (λ (n : ℕ). Covers (place_of w) n p) x.length covers)) in
          (subst (λ (n : ℕ). p < n) (sym (length_put s.memory place words)) may.0, may.1),
      subst (MayBring t h w) (sym new.never_made) (
        refl,
        get_or-set_same s.versions h version 0 new.stamp ∙ new.first,
        subst (IsPacked (len_of w)) (sym read) (subst (λ (n : ℕ). IsPacked n words) (sym x.length)
            packed),
      ),
    )

-- what is known once the object is made
abbrev pub with_new : Shown → ℕ → ℕ → ℕ → ℕ → List ℕ → Shown
with_new s h version place len words = record s {
  objects = set s.objects h (is.Here len place);
  hots = set s.hots h false;
  versions = set s.versions h version;
  memory = put s.memory place words;
}

-- nothing is looked at
pub made_first : (h version len place : ℕ) (words : List ℕ)
    → LooksFirst (make_events h version len place words)
made_first h version len place words =
    stores_first (stores_from place words) _ (stores_are place words) tt (tt, (tt, tt))

-- What the events of a make do.
pub record IsWellMade (s t : Shown) (es : List Access) (h version place len : ℕ) (words : List ℕ)
    : Type 0 where
  pub allowed : Allowed s es
  pub ends : t ≡ with_new s h version place len words
  pub one : Writes es s (entry h version len [] words ∷ [])

pub well_made : (s : Shown) (h version place len : ℕ) (words : List ℕ)
    → IsNewAt s h version place len → length words ≡ words_for len → IsPacked len words
    → len < 2 ^ 16 → place < 2 ^ 24
    → IsWellMade s (played (make_events h version len place words) s)
    (make_events h version len place words) h version place len words
well_made s h version place len words new count packed short low = record {
  allowed = allowed_append es tail s
      (stores_allowed place words s
      (λ p from until. new_owned s h version place len new p (from, omega (arith, until, count))))
      (subst (λ (q : Shown). Allowed q tail) (sym (stores_played place words s)) (
        subst IsHeld (sym new.never_made) tt,
        (new_may_settle s h version place len w words new count packed reads, tt),
      ));
  ends = played_append es tail s ∙ ap (played tail) (stores_played place words s)
      ∙ settled_here t h w reads.state
      ∙ ap (λ (n : ℕ). let q : Shown = record t {
        objects = set s.objects h (is.Here n (place_of w));
        hots = set s.hots h (hot_of w);
      } in q) reads.length
      ∙ ap (λ (n : ℕ). let q : Shown = record t {
        objects = set s.objects h (is.Here len n);
        hots = set s.hots h (hot_of w);
      } in q) reads.place_is
      ∙ ap (λ (b : Bool). let q : Shown = record t {
        objects = set s.objects h (is.Here len place);
        hots = set s.hots h b;
      } in q) reads.hot;
  one = λ old. stores_written es tail s old (stores_are place words)
      ∙ ap (λ (q : Shown). written_by tail q old) (stores_played place words s)
      ∙ ap (λ (q : State). adds_as q t h w (object_at t h) ++ old) reads.state
      ∙ ap (λ (o : Object). adds_as state.Here t h w o ++ old) new.never_made
      ∙ ap (λ (n : ℕ). entry h n (len_of w) [] (settled_words t w) ∷ old)
      (get_or-set_same s.versions h version 0 new.stamp)
      ∙ ap (λ (n : ℕ). entry h version n [] (settled_words t w) ∷ old) reads.length
      ∙ ap (λ (l : List ℕ). entry h version len [] l ∷ old)
      (read_back s h version place len w words count new.within reads);
}
  where
    w : ℕ
    w = new_word len place

    es : List Access
    es = stores_from place words

    tail : List Access
    tail = Stamped h version ∷ Settled h w ∷ []

    t : Shown
    t = with_contents s h version place words

    reads : IsNewWord w len place
    reads = new_word_reads len place short low
