-- Which replies the parts of a turn have.
use Rattle.std.proofs.Common.{◌≡◌, ◌⊎◌, ℕ, zero, suc, Bool, true, false, ◌+◌, ◌^◌, ◌-◌, ◌==◌, nat_lt, List, length, refl, sym, ◌∙◌, subst, inl, inr, if◌then◌else◌}
use Rattle.std.proofs.lemmas.Bool.{cases_Bool}
use Rattle.cb_ptr.specs.declared.word.State.{State}
use Rattle.cb_ptr.specs.declared.word.State.TheVariants as state
use Rattle.cb_ptr.specs.Word.{state_of, len_of, pins_of}
use Rattle.cb_types.specs.declared.request.Request.{Request}
use Rattle.cb_types.specs.declared.request.Request.TheVariants.{Read, Write, Free}
use Rattle.cb_types.specs.declared.reply.Reply.{Reply}
use Rattle.cb_types.specs.declared.reply.Reply.TheVariants as answer
use Rattle.cb_types.specs.Table.{IsReplyOf}
use Rattle.cb_mutate.specs.StillReplies.{reply_as, next_reply, change_reply, free_as, read_reply, write_reply, free_reply}

-- ---- one of the line's
line_by_state : (request : Request) (q : State) (v : ℕ) (here : Reply)
    → (reply_as q v here ≡ answer.NotHere → ⊥) → IsReplyOf request answer.Unmade
    → IsReplyOf request answer.Freed → IsReplyOf request answer.Moving → IsReplyOf request here
    → IsReplyOf request (reply_as q v here)
line_by_state request state.Empty zero here off unmade freed moving there = unmade
line_by_state request state.Empty (suc v) here off unmade freed moving there = freed
line_by_state request state.Far v here off unmade freed moving there = absurd (off refl)
line_by_state request state.Moving v here off unmade freed moving there = moving
line_by_state request state.Here v here off unmade freed moving there = there

line_by_next : (request : Request) (v : ℕ) → IsReplyOf request answer.Worn
    → ((n : ℕ) → IsReplyOf request (answer.Version n)) → IsReplyOf request (next_reply v)
line_by_next request v worn next = elim (cases_Bool (v == 2 ^ 64 - 1)) [
  | inl e ↦ subst (λ (b : Bool). IsReplyOf request (if b then answer.Worn else answer.Version (v + 1)))
      (sym e) worn
  | inr e ↦ subst (λ (b : Bool). IsReplyOf request (if b then answer.Worn else answer.Version (v + 1)))
      (sym e) (next (v + 1))
]

line_by_change : (request : Request) (w v : ℕ) → ((n : ℕ) → IsReplyOf request (answer.Pinned n))
    → IsReplyOf request answer.Worn → ((n : ℕ) → IsReplyOf request (answer.Version n))
    → IsReplyOf request (change_reply w v)
line_by_change request w v pinned worn next = elim (cases_Bool (pins_of w == 0)) [
  | inl free ↦
      subst (λ (b : Bool). IsReplyOf request (if b then next_reply v else answer.Pinned (pins_of w)))
      (sym free) (line_by_next request v worn next)
  | inr held ↦
      subst (λ (b : Bool). IsReplyOf request (if b then next_reply v else answer.Pinned (pins_of w)))
      (sym held) (pinned (pins_of w))
]

pub read_line : (w v : ℕ) (words name : List ℕ) (r : Reply) → r ≡ read_reply w v words
    → (r ≡ answer.NotHere → ⊥) → IsReplyOf (Read name) r
read_line w v words name r is off = subst (λ (p : Reply). IsReplyOf (Read name) p) (sym is)
    (line_by_state (Read name) (state_of w) v _ (λ e. off (is ∙ e)) tt tt tt tt)

pub write_line : (w v at : ℕ) (bytes name : List ℕ) (r : Reply) → r ≡ write_reply w v at (length bytes)
    → (r ≡ answer.NotHere → ⊥) → IsReplyOf (Write name at bytes) r
write_line w v at bytes name r is off = subst (λ (p : Reply). IsReplyOf (Write name at bytes) p) (sym is)
    (line_by_state (Write name at bytes) (state_of w) v _ (λ e. off (is ∙ e)) tt tt tt
    (by (cases_Bool (nat_lt (len_of w) (at + length bytes)))))
  where
    C : Bool → Type 0
    C b = IsReplyOf (Write name at bytes) (if b then answer.Range (len_of w) else change_reply w v)

    by : (nat_lt (len_of w) (at + length bytes) ≡ true) ⊎ (nat_lt (len_of w) (at + length bytes) ≡ false)
        → C (nat_lt (len_of w) (at + length bytes))
    by (inl e) = subst C (sym e) tt
    by (inr e) = subst C (sym e) (line_by_change (Write name at bytes) w v (λ n. tt) tt (λ n. tt))

pub free_line : (w v : ℕ) (name : List ℕ) (r : Reply) → r ≡ free_reply w v → IsReplyOf (Free name) r
free_line w v name r is = subst (λ (p : Reply). IsReplyOf (Free name) p) (sym is) (by (state_of w) v)
  where
    by : (q : State) (u : ℕ) → IsReplyOf (Free name) (free_as q u (change_reply w v))
    by state.Empty zero = tt
    by state.Empty (suc u) = tt
    by state.Far u = line_by_next (Free name) u tt (λ n. tt)
    by state.Moving u = tt
    by state.Here u = line_by_change (Free name) w v (λ n. tt) tt (λ n. tt)

-- ---- not here, exactly where the word is far
empty_not_here : (v : ℕ) (q : Reply) → reply_as state.Empty v q ≡ answer.NotHere → ⊥
empty_not_here zero q e = cc
empty_not_here (suc v) q e = cc

pub as_not_here : (q : State) (v : ℕ) (here : Reply) → (here ≡ answer.NotHere → ⊥)
    → reply_as q v here ≡ answer.NotHere → q ≡ state.Far
as_not_here state.Empty v here never e = absurd (empty_not_here v here e)
as_not_here state.Far v here never e = refl
as_not_here state.Moving v here never e = absurd (moving_not_here e)
  where
    moving_not_here : answer.Moving ≡ answer.NotHere → ⊥
    moving_not_here e = cc
as_not_here state.Here v here never e = absurd (never e)

next_not_here : (v : ℕ) → next_reply v ≡ answer.NotHere → ⊥
next_not_here v = by (v == 2 ^ 64 - 1)
  where
    by : (b : Bool) → (if b then answer.Worn else answer.Version (v + 1)) ≡ answer.NotHere → ⊥
    by true e = cc
    by false e = cc

change_not_here : (w v : ℕ) → change_reply w v ≡ answer.NotHere → ⊥
change_not_here w v = by (pins_of w == 0)
  where
    by : (b : Bool) → (if b then next_reply v else answer.Pinned (pins_of w)) ≡ answer.NotHere → ⊥
    by true e = next_not_here v e
    by false e = cc

pub read_not_here : (w v : ℕ) (words : List ℕ) → answer.NotHere ≡ read_reply w v words
    → state_of w ≡ state.Far
read_not_here w v words e = as_not_here (state_of w) v _ (λ z. cc) (sym e)

pub write_not_here : (w v at count : ℕ) → answer.NotHere ≡ write_reply w v at count
    → state_of w ≡ state.Far
write_not_here w v at count e = as_not_here (state_of w) v _ (by (nat_lt (len_of w) (at + count))) (sym e)
  where
    by : (b : Bool) → (if b then answer.Range (len_of w) else change_reply w v) ≡ answer.NotHere → ⊥
    by true e = cc
    by false e = change_not_here w v e

-- and an object that is here is answered otherwise
far_here : state.Far ≡ state.Here → ⊥
far_here e = cc

pub read_is_here : (w v : ℕ) (words : List ℕ) (r : Reply) → r ≡ read_reply w v words
    → state_of w ≡ state.Here → r ≡ answer.NotHere → ⊥
read_is_here w v words r is here e = far_here (sym (read_not_here w v words (sym e ∙ is)) ∙ here)

pub write_is_here : (w v at count : ℕ) (r : Reply) → r ≡ write_reply w v at count
    → state_of w ≡ state.Here → r ≡ answer.NotHere → ⊥
write_is_here w v at count r is here e =
    far_here (sym (write_not_here w v at count (sym e ∙ is)) ∙ here)
