-- Last complete contents do not hang on which knowledge of a still desk is taken: they are read
-- off its words and the far state.
use Rattle.std.proofs.Common.{◌≡◌, ◌⊎◌, ℕ, zero, suc, Bool, true, false, ◌*◌, ◌%◌, ◌<◌, ◌≤◌, List, [], Option, Some, None, length, get_or, sym, refl, ap, ◌∙◌, subst, arith, inl, inr, if◌then◌else◌}
use Rattle.std.proofs.lemmas.Bool.{cases_lt, ltb-false}
use Rattle.std.proofs.lemmas.List.{get_or_past}
use Rattle.cb_class.specs.Class.{IsClassOf, words_of}
use Rattle.cb_class.proofs.Laws.{IsClassOf-unique}
use Rattle.cb_gf256.specs.Rows.{row_at}
use Rattle.cb_ptr.specs.declared.word.State.{State}
use Rattle.cb_ptr.specs.declared.word.State.TheVariants as word
use Rattle.cb_ptr.specs.Word.{state_number, state_of, len_of, place_of}
use Rattle.cb_ptr.proofs.Laws.{state_number-state_of}
use Rattle.cb_set.specs.SetState.{parities, position_of}
use Rattle.cb_set.specs.Lost.{lost}
use Rattle.cb_world.specs.declared.object.Object.{Object}
use Rattle.cb_world.specs.declared.object.Object.TheVariants as is
use Rattle.cb_world.specs.declared.shown.Shown.{Shown}
use Rattle.cb_world.specs.Memory.{window, words_for, bytes_in}
use Rattle.cb_world.specs.Shown.{Fits, object_at, version_at, never}
use Rattle.cb_world.specs.Plain.{Words, Shows}
use Rattle.cb_world.specs.RowWords.{words_in}
use Rattle.cb_world.specs.Sets.{SetMap, set_in}
use Rattle.cb_node.specs.NodesState.{NodesState}
use Rattle.cb_world.specs.SetWord.{IsWordOf}
use Rattle.cb_member.specs.Membership.{Membership}
use Rattle.cb_world.specs.Homes.{home_at}
use Rattle.cb_world.specs.declared.homes.Home.{Home}
use Rattle.cb_world.specs.FarState.{FarState}
use Rattle.cb_world.specs.LocalSound.{IsStamped}
use Rattle.cb_world.specs.FarSound.{HoldsObject}
use Rattle.cb_world.specs.Sound.{Sound}
use Rattle.cb_world.specs.Now.{Now, held, gone, never as made_never, freed, broken_set, broken_home, is_gone, now_as, now}
use Rattle.cb_world.specs.World.{word_at}
use Rattle.cb_world.specs.StillWords.{stamp_at, contents_at}
use Rattle.cb_world.proofs.Surviving.{one_word}
use Rattle.cb_world.proofs.Unmoved.{KeepsAway, keeps_all}

pub bits : (w : ℕ) (q : State) → state_of w ≡ q → w % 4 ≡ state_number q
bits w q e = sym (state_number-state_of w) ∙ ap state_number e

-- an empty word is that of an object that is empty
pub empty_object : (o : Object) (w : ℕ) → Fits o w → state_of w ≡ word.Empty
    → (v : ℕ) × (o ≡ is.Empty v)
empty_object (is.Empty v) w fit e = (v, refl)
empty_object (is.Far len v words) w fit e =
    absurd (let b = bits w word.Empty e in omega (arith, b, fit.0))
empty_object (is.Here len place) w (a, b, c, inl here) e =
    absurd (let b = bits w word.Empty e in let h = bits w word.Here here in omega (arith, b, h))
empty_object (is.Here len place) w (a, b, c, inr moving) e =
    absurd (let b = bits w word.Empty e in let m = bits w word.Moving moving in omega (arith, b, m))
empty_object (is.Claimed len place v words) w fit e = absurd (let b = bits w word.Empty e in
    let m = bits w word.Moving fit.4 in omega (arith, b, m))

-- a far word is that of an object that is far
pub far_object : (o : Object) (w : ℕ) → Fits o w → state_of w ≡ word.Far
    → (v : ℕ) × (words : List ℕ) × (o ≡ is.Far (len_of w) v words)
far_object (is.Empty v) w fit e = absurd (let b = bits w word.Far e in omega (arith, b, fit))
far_object (is.Far len v words) w fit e =
    (v, words, ap (λ (n : ℕ). is.Far n v words) (sym fit.1))
far_object (is.Here len place) w (a, b, c, inl here) e =
    absurd (let b = bits w word.Far e in let h = bits w word.Here here in omega (arith, b, h))
far_object (is.Here len place) w (a, b, c, inr moving) e =
    absurd (let b = bits w word.Far e in let m = bits w word.Moving moving in omega (arith, b, m))
far_object (is.Claimed len place v words) w fit e = absurd (let b = bits w word.Far e in
    let m = bits w word.Moving fit.4 in omega (arith, b, m))

-- a word that is here or moving is that of an object in local memory
abbrev pub IsNearAt : Object → ℕ → Type 0
IsNearAt o w = (o ≡ is.Here (len_of w) (place_of w))
    ⊎ ((v : ℕ) × (words : List ℕ) × (o ≡ is.Claimed (len_of w) (place_of w) v words))

pub near_object : (o : Object) (w : ℕ) → Fits o w → 2 ≤ w % 4 → IsNearAt o w
near_object (is.Empty v) w fit e = absurd (omega (arith, e, fit))
near_object (is.Far len v words) w fit e = absurd (omega (arith, e, fit.0))
near_object (is.Here len place) w fit e = inl (λ i. is.Here (sym fit.1 i) (sym fit.2 i))
near_object (is.Claimed len place v words) w fit e =
    inr (v, words, (λ i. is.Claimed (sym fit.1 i) (sym fit.2 i) v words))

-- what an object with an empty word is, by its version
abbrev pub empty_value : ℕ → Now
empty_value zero = made_never
empty_value (suc v) = freed (suc v)

empty_as : (s : Shown) (h v : ℕ) (lost : Bool) → now_as s h lost (is.Empty v) ≡ empty_value v
empty_as s h zero lost = refl
empty_as s h (suc v) lost = refl

-- the version word of an object of which the version is known
stamp_is : (x : Words) (far : FarState) (s : Shown) (h v : ℕ) (o : Object) → Shows x s
    → Sound s far → object_at s h ≡ o → (IsStamped o (version_at s h) → version_at s h ≡ v)
    → v ≡ stamp_at x h
stamp_is x far s h v o shows sound e read =
    sym (read (subst (λ (p : Object). IsStamped p (version_at s h)) e (sound.here.known.stamped h)))
    ∙ ap (λ (l : List ℕ). get_or l h 0) shows.versions

-- an object with an empty word was never made, or freed at its version
pub empty_now : (x : Words) (far : FarState) (s : Shown) (h : ℕ) → Shows x s → Sound s far
    → h < length x.words → state_of (word_at x h) ≡ word.Empty
    → now s far h ≡ empty_value (stamp_at x h)
empty_now x far s h shows sound below e =
    let o = empty_object (object_at s h) (word_at x h) (shows.fit h below) e in
    ap (now_as s h (is_gone far h)) o.1 ∙ empty_as s h o.0 (is_gone far h)
    ∙ ap empty_value (stamp_is x far s h o.0 (is.Empty o.0) shows sound o.1 (λ a. a))

-- an object with a word that is here or moving is held, with its version and its memory words
pub near_now : (x : Words) (far : FarState) (s : Shown) (h : ℕ) → Shows x s → Sound s far
    → h < length x.words → 2 ≤ word_at x h % 4
    → now s far h ≡ held (stamp_at x h) (bytes_in (contents_at x h) (len_of (word_at x h)))
near_now x far s h shows sound below e =
    by (near_object (object_at s h) (word_at x h) (shows.fit h below) e)
  where
    w : ℕ
    w = word_at x h

    by : IsNearAt (object_at s h) w
        → now s far h ≡ held (stamp_at x h) (bytes_in (contents_at x h) (len_of w))
    by (inl o) = ap (now_as s h (is_gone far h)) o
        ∙ (λ i. held (get_or (shows.versions i) h 0)
        (bytes_in (window (shows.memory i) (place_of w) (words_for (len_of w))) (len_of w)))
    by (inr (v, words, o)) =
        let stamp = stamp_is x far s h v (is.Claimed (len_of w) (place_of w) v words) shows sound o
        (λ a. a) in
        let contents = (sound.claimed h (len_of w) (place_of w) v words o).contents
        ∙ ap (λ (l : List ℕ). window l (place_of w) (words_for (len_of w))) shows.memory in
        ap (now_as s h (is_gone far h)) o
        ∙ (λ i. held (stamp i) (bytes_in (contents i) (len_of w)))

-- the words of a far object, where its set is not broken, are those of its slot
far_words : (s t : Shown) (far new : FarState) (h len v u : ℕ) (xs ys : List ℕ) → Sound s far
    → Sound t new → KeepsAway far new → object_at s h ≡ is.Far len v xs
    → object_at t h ≡ is.Far len u ys
    → is_gone far h ≡ false → xs ≡ ys
far_words s t far new h len v u xs ys sound other keeps a b whole =
    let one = sound.away.sound in let two = other.away.sound in
    let found = one.away.away h len v xs a in let home = found.0 in
    let at = one.away.home h home found.1 in let set = at.0 in
    let first = one.sets.worded home.set set at.1 in
    let second = two.sets.worded home.set set (ap (λ (m : SetMap). set_in m home.set) keeps.sets
    ∙ at.1) in
    let mine = first.1.holds home.position home.slot h at.2 in
    let yours = second.1.holds home.position home.slot h at.2 in
    let kept : broken_set far.members (Some set) ≡ false =
    ap (broken_set far.members) (sym at.1) ∙ ap (broken_home far) (sym found.1) ∙ whole in
    let rows = one_word far.nodes far.members set first.0 second.0
    (one.sets.shaped home.set set at.1)
    (ltb-false (parities set) (length (lost far.members set.shards)) kept)
    first.1.word
    (subst (λ (n : NodesState). IsWordOf n far.members set second.0) keeps.nodes
    (subst (λ (m : Membership). IsWordOf new.nodes m set second.0) keeps.members second.1.word)) in
    same_slot len v u xs ys first.0 second.0 set.pages (length (position_of set home.position).slots)
    home.slot home.position mine yours a b rows
  where
    far_len : Object → ℕ
    far_len (is.Empty v) = 0
    far_len (is.Far len v words) = len
    far_len (is.Here len place) = 0
    far_len (is.Claimed len place v words) = 0

    far_contents : Object → List ℕ
    far_contents (is.Empty v) = []
    far_contents (is.Far len v words) = words
    far_contents (is.Here len place) = []
    far_contents (is.Claimed len place v words) = []

    same_slot : (len v u : ℕ) (xs ys : List ℕ) (rows others : List (List ℕ)) (pages slots slot p : ℕ)
        → (m : HoldsObject s pages (row_at rows p) slots slot h)
        → (y : HoldsObject t pages (row_at others p) slots slot h)
        → object_at s h ≡ is.Far len v xs → object_at t h ≡ is.Far len u ys → rows ≡ others
        → xs ≡ ys
    same_slot len v u xs ys rows others pages slots slot p m y a b e =
        let m_len : m.len ≡ len = ap far_len (sym m.away ∙ a) in
        let y_len : y.len ≡ len = ap far_len (sym y.away ∙ b) in
        let class : m.class ≡ y.class = IsClassOf-unique len m.class y.class
        (subst (λ (n : ℕ). IsClassOf n m.class) m_len m.fits)
        (subst (λ (n : ℕ). IsClassOf n y.class) y_len y.fits) in
        ap far_contents (sym a ∙ m.away) ∙ m.contents
        ∙ (λ i. window (words_in (row_at (e i) p)) (slot * words_of (class i))
        (words_for ((m_len ∙ sym y_len) i)))
        ∙ sym y.contents ∙ ap far_contents (sym y.away ∙ b)

-- what is gone is so by the parts of the far state that say where far objects are
pub gone_same : (far new : FarState) (h : ℕ) → KeepsAway far new → is_gone new h ≡ is_gone far h
gone_same far new h keeps = (λ i. broken_in (keeps.members i) (keeps.sets i) (home_at
    (keeps.homes i) h))
  where
    broken_in : Membership → SetMap → Option Home → Bool
    broken_in m sets None = false
    broken_in m sets (Some home) = broken_set m (set_in sets home.set)

-- an object with a far word holds what it held, where that word and its version word are the same
far_kept : (x y : Words) (s t : Shown) (far new : FarState) (h : ℕ) → Shows x s → Sound s far
    → Shows y t → Sound t new → KeepsAway far new → h < length x.words → h < length y.words
    → word_at y h ≡ word_at x h → stamp_at y h ≡ stamp_at x h → state_of (word_at x h) ≡ word.Far
    → now t new h ≡ now s far h
far_kept x y s t far new h shows sound others other keeps below there same stamps e =
    by (is_gone far h) refl
  where
    w : ℕ
    w = word_at x h

    a : (v : ℕ) × (words : List ℕ) × (object_at s h ≡ is.Far (len_of w) v words)
    a = far_object (object_at s h) w (shows.fit h below) e

    b : (v : ℕ) × (words : List ℕ) × (object_at t h ≡ is.Far (len_of w) v words)
    b = far_object (object_at t h) w (subst (Fits (object_at t h)) same (others.fit h there)) e

    stamp : b.0 ≡ a.0
    stamp = stamp_is y new t h b.0 (is.Far (len_of w) b.0 b.1) others other b.2 (λ z. z) ∙ stamps
        ∙ sym (stamp_is x far s h a.0 (is.Far (len_of w) a.0 a.1) shows sound a.2 (λ z. z))

    by : (lost : Bool) → is_gone far h ≡ lost → now t new h ≡ now s far h
    by true g = ap (now_as t h (is_gone new h)) b.2
        ∙ ap (λ (l : Bool). if l then gone b.0 else held b.0 (bytes_in b.1 (len_of w)))
        (gone_same far new h keeps ∙ g)
        ∙ ap gone stamp
        ∙ sym (ap (now_as s h (is_gone far h)) a.2
        ∙ ap (λ (l : Bool). if l then gone a.0 else held a.0 (bytes_in a.1 (len_of w))) g)
    by false g =
        let words = far_words s t far new h
        (len_of w) a.0 b.0 a.1 b.1 sound other keeps a.2 b.2 g in
        ap (now_as t h (is_gone new h)) b.2
        ∙ ap (λ (l : Bool). if l then gone b.0 else held b.0 (bytes_in b.1 (len_of w)))
        (gone_same far new h keeps ∙ g)
        ∙ (λ i. held (stamp i) (bytes_in (sym words i) (len_of w)))
        ∙ sym (ap (now_as s h (is_gone far h)) a.2
        ∙ ap (λ (l : Bool). if l then gone a.0 else held a.0 (bytes_in a.1 (len_of w))) g)

-- An object holds what it held, where its pointer word, its version word and its memory words are
-- the same, and the parts of the far state that say where far objects are.
pub now_by_words : (x y : Words) (s t : Shown) (far new : FarState) (h : ℕ) → Shows x s
    → Sound s far → Shows y t → Sound t new → KeepsAway far new
    → length y.words ≡ length x.words → word_at y h ≡ word_at x h → stamp_at y h ≡ stamp_at x h
    → (2 ≤ word_at x h % 4 → contents_at y h ≡ contents_at x h) → now t new h ≡ now s far h
now_by_words x y s t far new h shows sound others other keeps count same stamps contents =
    elim (cases_lt h (length x.words)) [
      | inl below ↦ by below (omega (arith, below, count)) (state_of (word_at x h)) refl
      | inr past ↦ ap (now_as t h (is_gone new h))
          (get_or_past t.objects h never (omega (arith, past, others.objects, count)))
          ∙ sym (ap (now_as s h (is_gone far h))
          (get_or_past s.objects h never (omega (arith, past, shows.objects))))
    ]
  where
    near : h < length x.words → h < length y.words → 2 ≤ word_at x h % 4 → now t new h ≡ now s far h
    near below there n = near_now y new t h others other there
        (subst (λ (w : ℕ). 2 ≤ w % 4) (sym same) n)
        ∙ (λ i. held (stamps i) (bytes_in (contents n i) (len_of (same i))))
        ∙ sym (near_now x far s h shows sound below n)

    by : h < length x.words → h < length y.words → (q : State) → state_of (word_at x h) ≡ q
        → now t new h ≡ now s far h
    by below there word.Empty e = empty_now y new t h others other there (ap state_of same ∙ e)
        ∙ ap empty_value stamps ∙ sym (empty_now x far s h shows sound below e)
    by below there word.Far e =
        far_kept x y s t far new h shows sound others other keeps below there same stamps e
    by below there word.Here e = near below there (let b = bits (word_at x h) word.Here e in
        omega (arith, b))
    by below there word.Moving e = near below there (let b = bits (word_at x h) word.Moving e in
        omega (arith, b))

-- two sound knowledges that a still desk shows of one far state give the same contents
pub now_same : (x : Words) (s t : Shown) (far : FarState) (h : ℕ) → Shows x s → Sound s far
    → Shows x t → Sound t far → now t far h ≡ now s far h
now_same x s t far h shows sound others other = now_by_words x x s t far far h shows sound others
    other
    (keeps_all far) refl refl refl (λ near. refl)
