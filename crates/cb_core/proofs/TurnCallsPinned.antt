-- A change that is answered Pinned tells the pins of the object's word.
use Rattle.std.proofs.Common.{◌≡◌, ◌≢◌, ◌⊎◌, ℕ, zero, suc, Bool, true, false, ◌+◌, ◌-◌, ◌^◌, ◌==◌, ◌<◌, ◌≤◌, nat_lt, List, [], length, None, sym, ap, ◌∙◌, subst, inl, inr, arith, if◌then◌else◌, eq-eqb, ne_eqb}
use Rattle.std.proofs.lemmas.Bool.{cases_eq}
use Rattle.cb_ptr.specs.declared.word.State.{State}
use Rattle.cb_ptr.specs.declared.word.State.TheVariants as state
use Rattle.cb_ptr.specs.Word.{state_of, len_of, pins_of}
use Rattle.cb_types.specs.declared.job.Job.TheVariants as job
use Rattle.cb_types.specs.declared.reply.Reply.{Reply}
use Rattle.cb_types.specs.declared.reply.Reply.TheVariants as answer
use Rattle.cb_world.specs.declared.shown.Shown.{Shown}
use Rattle.cb_world.specs.Plain.{Words}
use Rattle.cb_world.specs.StillWords.{stamp_at}
use Rattle.cb_world.specs.World.{WorldState, IsKnown, IsSoundWorld, word_at}
use Rattle.cb_mutate.specs.StillReplies.{reply_as, next_reply, change_reply, write_reply, free_as, free_reply}
use Rattle.cb_core.specs.Parts.{Holding, WhereItIs, near, declined, stays_far, brought}
use Rattle.cb_core.specs.Step.{StillWrite, StillDecline, StillBring, TurnStep}
use Rattle.cb_core.proofs.TurnCalls.{held_at, held_then, is_done, known_at}
use Rattle.cb_core.proofs.TurnCallsFar.{BringEnds, came, broke, crammed, bring_ends}
use Rattle.cb_core.proofs.TurnCallsKept.{kept_bring}
use Rattle.cb_core.proofs.TurnCallsParts.{write_part, declined_pinned}

-- so many pins has the object of this word, and it has some
pub record IsPinCount (w count : ℕ) : Type 0 where
  pub is : count ≡ pins_of w
  pub some : 1 ≤ count

same_count : (m n : ℕ) → answer.Pinned m ≡ answer.Pinned n → n ≡ m
same_count m n e = cc

next_pinned : (v count : ℕ) (b : Bool) → (if b then answer.Worn else answer.Version (v + 1))
    ≡ answer.Pinned count → ⊥
next_pinned v count true e = cc
next_pinned v count false e = cc

change_pinned : (w v count : ℕ) → change_reply w v ≡ answer.Pinned count → IsPinCount w count
change_pinned w v count e = by (cases_eq (pins_of w) 0)
  where
    C : Bool → Reply
    C b = if b then next_reply v else answer.Pinned (pins_of w)

    by : (pins_of w ≡ 0) ⊎ (pins_of w ≢ 0) → IsPinCount w count
    by (inl none) = absurd (next_pinned v count (v == 2 ^ 64 - 1)
        (sym (ap C (eq-eqb (pins_of w) 0 none)) ∙ e))
    by (inr some) =
        let is = same_count (pins_of w) count (sym (ap C (ne_eqb (pins_of w) 0 some)) ∙ e) in
        record { is = is; some = omega (arith, is, some) }

as_pinned : (q : State) (w v count : ℕ) (here : Reply) → reply_as q v here ≡ answer.Pinned count
    → (here ≡ answer.Pinned count → IsPinCount w count) → IsPinCount w count
as_pinned state.Empty w zero count here e by = absurd (unmade e)
  where
    unmade : answer.Unmade ≡ answer.Pinned count → ⊥
    unmade e = cc
as_pinned state.Empty w (suc v) count here e by = absurd (was_freed e)
  where
    was_freed : answer.Freed ≡ answer.Pinned count → ⊥
    was_freed e = cc
as_pinned state.Far w v count here e by = absurd (not_here e)
  where
    not_here : answer.NotHere ≡ answer.Pinned count → ⊥
    not_here e = cc
as_pinned state.Moving w v count here e by = absurd (moving e)
  where
    moving : answer.Moving ≡ answer.Pinned count → ⊥
    moving e = cc
as_pinned state.Here w v count here e by = by e

write_pinned : (w v at n count : ℕ) → write_reply w v at n ≡ answer.Pinned count → IsPinCount w count
write_pinned w v at n count e = as_pinned (state_of w) w v count _ e (by (nat_lt (len_of w) (at + n)))
  where
    by : (b : Bool) → (if b then answer.Range (len_of w) else change_reply w v) ≡ answer.Pinned count
        → IsPinCount w count
    by true here = absurd (range here)
      where
        range : answer.Range (len_of w) ≡ answer.Pinned count → ⊥
        range e = cc
    by false here = change_pinned w v count here

free_pinned : (w v count : ℕ) → free_reply w v ≡ answer.Pinned count → IsPinCount w count
free_pinned w v count e = by (state_of w) e
  where
    by : (q : State) → free_as q v (change_reply w v) ≡ answer.Pinned count → IsPinCount w count
    by state.Empty f = as_pinned state.Empty w v count answer.Done f (λ z. absurd (done_pinned z))
      where
        done_pinned : answer.Done ≡ answer.Pinned count → ⊥
        done_pinned e = cc
    by state.Far f = absurd (next_pinned v count (v == 2 ^ 64 - 1) f)
    by state.Moving f = absurd (moving f)
      where
        moving : answer.Moving ≡ answer.Pinned count → ⊥
        moving e = cc
    by state.Here f = change_pinned w v count f

brings_pinned : (a b : Holding Words) (h count : ℕ) → BringEnds a b h (answer.Pinned count) → ⊥
brings_pinned a b h count (came f e whole here) = cc
brings_pinned a b h count (broke id l e lost) = cc
brings_pinned a b h count (crammed frames loose nodes e whole) = cc

where_pinned : (a b : Holding Words) (s : Shown) (h at : ℕ) (bytes : List ℕ) (count : ℕ)
    → IsKnown a.desk a.far s
    → WhereItIs (StillWrite h at bytes) (StillDecline h at (length bytes)) (StillBring h) a
    (answer.Pinned count) b
    → IsPinCount (word_at a.desk h) count
where_pinned a b s h at bytes count k (near c never) =
    write_pinned (word_at a.desk h) (stamp_at a.desk h) at (length bytes) count (sym c.0.reply)
where_pinned a b s h at bytes count k (declined m c l) =
    absurd (declined_pinned _ (len_of (word_at m.desk h)) (stamp_at m.desk h) at (length bytes) count l.0)
where_pinned a b s h at bytes count k (stays_far m n c l bring never) =
    let part = write_part h at bytes [] in
    let back = part.looks m n None l ∙ part.nothing a m c in
    absurd (brings_pinned a b h count (bring_ends a b h (answer.Pinned count) s k
    (subst (λ (x : Holding Words). StillBring h x (answer.Pinned count) b) back bring)))
where_pinned a b s h at bytes count k (brought m n o f c l bring again) =
    let part = write_part h at bytes [] in
    let back = part.looks m n None l ∙ part.nothing a m c in
    let kept = kept_bring a o h (answer.Swapped f) s k
    (subst (λ (x : Holding Words). StillBring h x (answer.Swapped f) o) back bring) in
    let z = write_pinned (word_at o.desk h) (stamp_at o.desk h) at (length bytes) count
    (sym again.0.reply) in
    record { is = z.is ∙ kept.words.pins h; some = z.some }

-- a write
pub write_counts : (w new : WorldState) (h at : ℕ) (bytes : List ℕ) (count : ℕ) → (before : IsSoundWorld w)
    → w.far.counts.turns < 2 ^ 40
    → TurnStep (job.Write (record { n = h }) at bytes) w (answer.Pinned count) new
    → IsPinCount (word_at w.desk h) count
write_counts w new h at bytes count before few step =
    let j = job.Write (record { n = h }) at bytes in
    where_pinned (held_at w j) (held_then new) before.shown h at bytes count (known_at w j before)
    (is_done j w new (answer.Pinned count) few step)

-- a free
pub free_counts : (w new : WorldState) (h count : ℕ) → IsSoundWorld w → w.far.counts.turns < 2 ^ 40
    → TurnStep (job.Free (record { n = h })) w (answer.Pinned count) new
    → IsPinCount (word_at w.desk h) count
free_counts w new h count before few step =
    free_pinned (word_at w.desk h) (stamp_at w.desk h) count
    (sym (is_done (job.Free (record { n = h })) w new (answer.Pinned count) few step).reply)
