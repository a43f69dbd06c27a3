-- The pins of the seats stay through a change of one object.
use Rattle.std.proofs.Common.{◌≡◌, ◌⊎◌, ℕ, Bool, true, false, ◌<◌, ◌≤◌, ◌==◌, List, length, get_or, set, refl, sym, ap, ◌∙◌, subst, arith, inl, inr, if◌then◌else◌, length-set, get_or-set_same, get_or-set_other}
use native.Mathlib.Decide.{ℕ_discrete}
use Rattle.std.proofs.lemmas.Bool.{cases_Bool, cases_eq, cases_lt, eqb-true}
use Rattle.std.proofs.lemmas.List.{get_or_past, set-get_or}
use Rattle.cb_ptr.specs.declared.word.PtrWord.{PtrWord}
use Rattle.cb_ptr.specs.declared.word.State.TheVariants as state
use Rattle.cb_ptr.specs.Word.{pins_of}
use Rattle.cb_world.specs.Plain.{Words}
use Rattle.cb_world.specs.Seats.{SeatState}
use Rattle.cb_world.specs.Pinned.{with_word}
use Rattle.cb_world.specs.StillWords.{stamp_at, with_hot}
use Rattle.cb_world.specs.World.{ArePinned, word_at}
use Rattle.cb_world.proofs.Laws.{pinned_still}
use Rattle.cb_mutate.specs.MakeRule.{new_word}
use Rattle.cb_mutate.specs.MakeStep.{with_new}
use Rattle.cb_mutate.specs.CallStep.{with_seen, with_contents, with_freed}
use Rattle.cb_mutate.proofs.Laws.{hot_fields}
use Rattle.cb_core.proofs.Changes.{MayGo}

-- one pointer word and one version word are changed, where the object has no pins, or keeps them and
-- both words
pinned_but_one : (x y : Words) (seats : List SeatState) (h v n : ℕ) → ArePinned x seats
    → y.words ≡ set x.words h v → y.versions ≡ set x.versions h n
    → (1 ≤ pins_of (word_at x h) → (v ≡ word_at x h) × (n ≡ stamp_at x h))
    → (pins_of (word_at x h) ≡ 0 → pins_of v ≡ 0) → ArePinned y seats
pinned_but_one x y seats h v n p words versions kept none =
    pinned_still x y seats p (ap length words ∙ length-set x.words h v)
    (λ k below some. same k below some (ℕ_discrete k h)) (λ k below zero. zeros k below zero (ℕ_discrete k h))
  where
    word : (k : ℕ) → word_at y k ≡ get_or (set x.words h v) k 0
    word k = ap (λ (l : List ℕ). get_or l k 0) words

    stamp : (k : ℕ) → stamp_at y k ≡ get_or (set x.versions h n) k 0
    stamp k = ap (λ (l : List ℕ). get_or l k 0) versions

    same : (k : ℕ) → k < length x.words → 1 ≤ pins_of (word_at x k) → Dec (k ≡ h)
        → (word_at y k ≡ word_at x k) × (stamp_at y k ≡ stamp_at x k)
    same k below some (no off) = (
      word k ∙ get_or-set_other x.words h k v 0 off,
      stamp k ∙ get_or-set_other x.versions h k n 0 off,
    )
    same k below some (yes e) = let old = kept (subst (λ (i : ℕ). 1 ≤ pins_of (word_at x i)) e some) in (
      word k ∙ ap (λ (i : ℕ). get_or (set x.words h i) k 0) old.0
          ∙ ap (λ (l : List ℕ). get_or l k 0) (set-get_or x.words h 0),
      stamp k ∙ ap (λ (i : ℕ). get_or (set x.versions h i) k 0) old.1
          ∙ ap (λ (l : List ℕ). get_or l k 0) (set-get_or x.versions h 0),
    )

    zeros : (k : ℕ) → k < length x.words → pins_of (word_at x k) ≡ 0 → Dec (k ≡ h)
        → pins_of (word_at y k) ≡ 0
    zeros k below zero (no off) =
        ap pins_of (word k ∙ get_or-set_other x.words h k v 0 off) ∙ zero
    zeros k below zero (yes e) =
        ap pins_of (word k ∙ ap (λ (i : ℕ). get_or (set x.words h v) i 0) e
        ∙ get_or-set_same x.words h v 0 (subst (λ (i : ℕ). i < length x.words) e below))
        ∙ none (subst (λ (i : ℕ). pins_of (word_at x i) ≡ 0) e zero)

hot_pins : (w : ℕ) → pins_of (with_hot w) ≡ pins_of w
hot_pins w = ap (λ (p : PtrWord). p.pins) (hot_fields w)

pub seen_pinned : (x : Words) (seats : List SeatState) (h : ℕ) → ArePinned x seats
    → ArePinned (with_seen x h) seats
seen_pinned x seats h p = go (cases_Bool (pins_of (word_at x h) == 0))
  where
    w : ℕ
    w = word_at x h

    at : (b : Bool) → ArePinned (with_word x h (if b then with_hot w else w)) seats
        → (pins_of w == 0) ≡ b → ArePinned (with_seen x h) seats
    at b q e = subst (λ (c : Bool). ArePinned (with_word x h (if c then with_hot w else w)) seats)
        (sym e) q

    go : ((pins_of w == 0) ≡ true) ⊎ ((pins_of w == 0) ≡ false) → ArePinned (with_seen x h) seats
    go (inl e) = at true (pinned_but_one x (with_word x h (with_hot w)) seats h (with_hot w)
        (stamp_at x h) p refl (sym (set-get_or x.versions h 0))
        (λ some. absurd (let z = eqb-true (pins_of w) 0 e in omega (arith, z, some)))
        (λ none. hot_pins w ∙ none)) e
    go (inr e) = at false (pinned_but_one x (with_word x h w) seats h w (stamp_at x h) p refl
        (sym (set-get_or x.versions h 0)) (λ some. (refl, refl)) (λ none. none)) e

pub written_pinned : (x : Words) (seats : List SeatState) (h n : ℕ) (words : List ℕ)
    → ArePinned x seats → pins_of (word_at x h) ≡ 0 → ArePinned (with_contents x h n words) seats
written_pinned x seats h n words p free =
    pinned_but_one x (with_contents x h n words) seats h (with_hot (word_at x h)) n p refl refl
    (λ some. absurd (omega (arith, free, some))) (λ none. hot_pins (word_at x h) ∙ none)

pub freed_pinned : (x : Words) (seats : List SeatState) (h n : ℕ) → ArePinned x seats
    → pins_of (word_at x h) ≡ 0 → ArePinned (with_freed x h n) seats
freed_pinned x seats h n p free = pinned_but_one x (with_freed x h n) seats h 0 n p refl refl
    (λ some. absurd (omega (arith, free, some))) (λ none. refl)

-- what may go has no pins: a pinned object is here
pub no_pins : (x : Words) (seats : List SeatState) (h : ℕ) → ArePinned x seats → MayGo (word_at x h)
    → pins_of (word_at x h) ≡ 0
no_pins x seats h p (inl none) = none
no_pins x seats h p (inr away) = elim (cases_eq (pins_of (word_at x h)) 0) [
  | inl none ↦ none
  | inr some ↦ elim (cases_lt h (length x.words)) [
    | inl below ↦ absurd (far_here (sym away ∙ (p.here h below (omega (arith, some))).0))
    | inr past ↦ ap pins_of (get_or_past x.words h 0 past)
  ]
]
  where
    far_here : state.Far ≡ state.Here → ⊥
    far_here e = cc

pub new_pinned : (x : Words) (seats : List SeatState) (h n len place : ℕ) (words : List ℕ)
    → ArePinned x seats → pins_of (word_at x h) ≡ 0
    → pins_of (new_word len place) ≡ 0
    → ArePinned (with_new x h n len place words) seats
new_pinned x seats h n len place words p free none =
    pinned_but_one x (with_new x h n len place words) seats h (new_word len place) n p refl refl
    (λ some. absurd (omega (arith, free, some))) (λ zero. none)
