-- The object that a call over a still desk changed.
use Rattle.std.proofs.Common.{◌≡◌, ℕ, true, ◌<◌, List, length, get_or, sym, refl, ap, ◌∙◌, subst, arith, length-set, get_or-set_same}
use Rattle.cb_ptr.specs.declared.word.PtrWord.{PtrWord}
use Rattle.cb_ptr.specs.declared.word.State.TheVariants as state
use Rattle.cb_ptr.specs.Word.{fields_of, state_of, len_of, place_of}
use Rattle.cb_ptr.proofs.Laws.{fields_of-word_of, IsInWidths-fields_of}
use Rattle.cb_world.specs.declared.object.Object.{Object}
use Rattle.cb_world.specs.declared.shown.Shown.{Shown}
use Rattle.cb_world.specs.Memory.{window, words_for, bytes_in}
use Rattle.cb_world.specs.Shown.{object_at}
use Rattle.cb_world.specs.Plain.{Words}
use Rattle.cb_world.specs.FarState.{FarState}
use Rattle.cb_world.specs.LocalSound.{LiesAt}
use Rattle.cb_world.specs.Now.{now}
use Rattle.cb_world.specs.Now.Now.{held}
use Rattle.cb_world.specs.World.{word_at, IsKnown}
use Rattle.cb_world.specs.StillWords.{stamp_at, contents_at, with_hot}
use Rattle.cb_world.specs.StillDesk.{here_is}
use Rattle.cb_world.proofs.Laws.{KeepsAway, keeps_all, near_now}
use Rattle.cb_mutate.proofs.MapReplies.{AreKnownBoth, ChangesAt, here_near}

-- the fields of a word that was made hot
pub hot_fields : (w : ℕ) → fields_of (with_hot w) ≡ record (fields_of w) { hot = true }
hot_fields w = let b = IsInWidths-fields_of w in
    fields_of-word_of (record (fields_of w) { hot = true })
    (record { pins = b.pins; len = b.len; place = b.place })

-- a word that names the same words of memory, and is here
pub record IsSameHere (w v : ℕ) : Type 0 where
  pub here : state_of v ≡ state.Here
  pub len : len_of v ≡ len_of w
  pub place : place_of v ≡ place_of w

pub hot_same : (w : ℕ) → state_of w ≡ state.Here → IsSameHere w (with_hot w)
hot_same w e = record {
  here = ap (λ (p : PtrWord). p.state) (hot_fields w) ∙ e;
  len = ap (λ (p : PtrWord). p.len) (hot_fields w);
  place = ap (λ (p : PtrWord). p.place) (hot_fields w);
}

-- the object that has a word that is here lies where it says
pub lies_there : (x : Words) (far : FarState) (s : Shown) (h : ℕ) → IsKnown x far s
    → h < length x.words → state_of (word_at x h) ≡ state.Here
    → LiesAt (object_at s h) (len_of (word_at x h)) (place_of (word_at x h))
lies_there x far s h k below e =
    subst (λ (o : Object). LiesAt o (len_of (word_at x h)) (place_of (word_at x h)))
    (sym (here_is (object_at s h) (word_at x h) (k.shows.fit h below) e)) (refl, refl)

pub keeps_same : (far new : FarState) → new ≡ far → KeepsAway far new
keeps_same far new e = subst (KeepsAway far) (sym e) (keeps_all far)

-- there is a version word for each pointer word
pub stamped : (x : Words) (far : FarState) (s : Shown) (h : ℕ) → IsKnown x far s
    → h < length x.words
    → h < length x.versions
stamped x far s h k below = omega (arith, below, k.sized.words, k.sized.versions)

-- what the changed object holds, where it is here
pub own_held : (x y : Words) (far new : FarState) (s t : Shown) (h v n : ℕ) (memory words : List ℕ)
    → AreKnownBoth x y far new s t → h < length x.words → ChangesAt x y h v n memory
    → IsSameHere (word_at x h) v
    → window memory (place_of (word_at x h)) (words_for (len_of (word_at x h))) ≡ words
    → now t new h ≡ held n (bytes_in words (len_of (word_at x h)))
own_held x y far new s t h v n memory words a below c same read =
    let word : word_at y h ≡ v = ap (λ (l : List ℕ). get_or l h 0) c.words
    ∙ get_or-set_same x.words h v 0 below in
    let stamp : stamp_at y h ≡ n = ap (λ (l : List ℕ). get_or l h 0) c.versions
    ∙ get_or-set_same x.versions h n 0 (stamped x far s h a.before below) in
    let len : len_of (word_at y h) ≡ len_of (word_at x h) = ap len_of word ∙ same.len in
    let place : place_of (word_at y h) ≡ place_of (word_at x h) = ap place_of word ∙ same.place in
    let contents : contents_at y h ≡ words =
    (λ i. window (c.stored i) (place i) (words_for (len i))) ∙ read in
    near_now y new t h a.afterwards.shows a.afterwards.sound
    (omega (arith, below, ap (λ (l : List ℕ). length l) c.words, length-set x.words h v))
    (here_near (word_at y h) (ap state_of word ∙ same.here))
    ∙ (λ i. held (stamp i) (bytes_in (contents i) (len i)))
