-- What a call on an object leaves at the still desk: all as it was, or one change of the object.
use Rattle.std.proofs.Common.{◌≡◌, ◌⊎◌, ℕ, zero, suc, Bool, ◌+◌, ◌-◌, ◌^◌, ◌==◌, List, length, refl, sym, ap, ◌∙◌, subst, inl, inr, if◌then◌else◌, eqb-true}
use Rattle.std.specs.Prelude.{nat_lt}
use Rattle.std.proofs.lemmas.Bool.{cases_Bool}
use Rattle.cb_ptr.specs.declared.word.State.{State}
use Rattle.cb_ptr.specs.declared.word.State.TheVariants as state
use Rattle.cb_ptr.specs.Word.{state_of, len_of, pins_of}
use Rattle.cb_types.specs.declared.reply.Reply.{Reply}
use Rattle.cb_types.specs.declared.reply.Reply.TheVariants as answer
use Rattle.cb_world.specs.FarState.{FarState}
use Rattle.cb_world.specs.Plain.{Words}
use Rattle.cb_world.specs.World.{word_at}
use Rattle.cb_world.specs.StillWords.{stamp_at}
use Rattle.cb_mutate.specs.StillReplies.{reply_as, next_reply, change_reply, free_as}
use Rattle.cb_mutate.specs.CallStep.{ReadChange, IsReadStep, with_seen, WriteChange, IsWriteStep, IsOverwritten, FreeChange, IsFreeStep, IsTakenOut}

-- a reply that is by the state of the word: of an object that is not here, or of one that is
by_state : (C : Reply → Type 0) (Z : Type 0) (q : State) (v : ℕ) (r here : Reply)
    → r ≡ reply_as q v here → C r → (C answer.Unmade → Z) → (C answer.Freed → Z)
    → (C answer.NotHere → Z) → (C answer.Moving → Z) → (C here → Z) → Z
by_state C Z state.Empty zero r here is c unmade freed not_here moving there = unmade (subst C is c)
by_state C Z state.Empty (suc v) r here is c unmade freed not_here moving there = freed (subst C is c)
by_state C Z state.Far v r here is c unmade freed not_here moving there = not_here (subst C is c)
by_state C Z state.Moving v r here is c unmade freed not_here moving there = moving (subst C is c)
by_state C Z state.Here v r here is c unmade freed not_here moving there = there (subst C is c)

-- a read leaves all as it was, or the object seen
pub read_leaves : (x y : Words) (h : ℕ) (r : Reply) → IsReadStep x y h r → (y ≡ x) ⊎ (y ≡ with_seen x h)
read_leaves x y h r step =
    by_state (λ (q : Reply). ReadChange q x y h) ((y ≡ x) ⊎ (y ≡ with_seen x h))
    (state_of (word_at x h)) (stamp_at x h) r _ step.reply step.change inl inl inl inl inr

-- worn, or the next version
by_next : (C : Reply → Type 0) (Z : Type 0) (v : ℕ) → C (next_reply v) → (C answer.Worn → Z)
    → (C (answer.Version (v + 1)) → Z) → Z
by_next C Z v c worn next = elim (cases_Bool (v == 2 ^ 64 - 1)) [
  | inl end ↦
      worn (subst C (ap (λ (b : Bool). if b then answer.Worn else answer.Version (v + 1)) end) c)
  | inr more ↦
      next (subst C (ap (λ (b : Bool). if b then answer.Worn else answer.Version (v + 1)) more) c)
]

-- the reply of a change: pinned, worn, or the next version of an object without pins
pub by_change : (C : Reply → Type 0) (Z : Type 0) (w v : ℕ) → C (change_reply w v)
    → (C (answer.Pinned (pins_of w)) → Z) → (C answer.Worn → Z)
    → (pins_of w ≡ 0 → C (answer.Version (v + 1)) → Z) → Z
by_change C Z w v c pinned worn next = elim (cases_Bool (pins_of w == 0)) [
  | inl free ↦ by_next C Z v
      (subst C (ap (λ (b : Bool). if b then next_reply v else answer.Pinned (pins_of w)) free) c) worn
      (next (eqb-true (pins_of w) 0 free))
  | inr held ↦
      pinned (subst C (ap (λ (b : Bool). if b then next_reply v else answer.Pinned (pins_of w)) held) c)
]

-- a write leaves all as it was, or an object without pins overwritten
pub write_leaves : (x y : Words) (h at : ℕ) (bytes : List ℕ) (r : Reply)
    → IsWriteStep x y h at bytes r
    → (y ≡ x) ⊎ ((pins_of (word_at x h) ≡ 0) × ((n : ℕ) × IsOverwritten x y h n at bytes))
write_leaves x y h at bytes r step =
    by_state C Z (state_of w) (stamp_at x h) r _ step.reply step.change inl inl inl inl there
  where
    w : ℕ
    w = word_at x h

    C : Reply → Type 0
    C q = WriteChange q x y h at bytes

    Z : Type 0
    Z = (y ≡ x) ⊎ ((pins_of (word_at x h) ≡ 0) × ((n : ℕ) × IsOverwritten x y h n at bytes))

    there : C (if nat_lt (len_of w) (at + length bytes) then answer.Range (len_of w) else
        change_reply w (stamp_at x h)) → Z
    there c = elim (cases_Bool (nat_lt (len_of w) (at + length bytes))) [
      | inl past ↦ inl (subst C (ap (λ (b : Bool). if b then answer.Range (len_of w) else
          change_reply w (stamp_at x h)) past) c)
      | inr within ↦
          by_change C Z w (stamp_at x h) (subst C (ap (λ (b : Bool). if b then answer.Range (len_of w)
          else change_reply w (stamp_at x h)) within) c) inl inl
          (λ none d. inr (none, (stamp_at x h + 1, d)))
    ]

-- the object has no pins, or is far
abbrev pub MayGo : ℕ → Type 0
MayGo w = (pins_of w ≡ 0) ⊎ (state_of w ≡ state.Far)

-- a free leaves all as it was, or an object freed that has no pins or is far
pub free_leaves : (x y : Words) (far new : FarState) (h : ℕ) (r : Reply)
    → IsFreeStep x y far new h r
    → ((y ≡ x) × (new ≡ far)) ⊎ (MayGo (word_at x h) × ((n : ℕ) × IsTakenOut x y far new h n))
free_leaves x y far new h r step = by (state_of w) refl
  where
    w : ℕ
    w = word_at x h

    C : Reply → Type 0
    C q = FreeChange q x y far new h

    Z : Type 0
    Z = ((y ≡ x) × (new ≡ far)) ⊎ (MayGo w × ((n : ℕ) × IsTakenOut x y far new h n))

    near : free_as (state_of w) (stamp_at x h) (change_reply w (stamp_at x h))
        ≡ reply_as (state_of w) (stamp_at x h) (change_reply w (stamp_at x h)) → Z
    near same = by_state C Z (state_of w) (stamp_at x h) r _ (step.reply ∙ same) step.change inl inl inl
        inl (λ c. by_change C Z w (stamp_at x h) c inl inl
        (λ none d. inr (inl none, (stamp_at x h + 1, d))))

    as_all : (q : State) → state_of w ≡ q
        → free_as q (stamp_at x h) (change_reply w (stamp_at x h))
        ≡ reply_as q (stamp_at x h) (change_reply w (stamp_at x h)) → Z
    as_all q e same = near (subst (λ (z : State). free_as z (stamp_at x h) (change_reply w (stamp_at x h))
        ≡ reply_as z (stamp_at x h) (change_reply w (stamp_at x h))) (sym e) same)

    by : (q : State) → state_of w ≡ q → Z
    by state.Empty e = as_all state.Empty e refl
    by state.Here e = as_all state.Here e refl
    by state.Moving e = as_all state.Moving e refl
    by state.Far e = by_next C Z (stamp_at x h)
        (subst C (step.reply ∙ ap (λ (z : State). free_as z (stamp_at x h)
        (change_reply w (stamp_at x h))) e) step.change) inl
        (λ d. inr (inr e, (stamp_at x h + 1, d)))
