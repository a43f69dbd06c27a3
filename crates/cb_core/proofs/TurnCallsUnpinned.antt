-- An object that a write or a free changes has no pins; and a write that is answered Pinned stays
-- within the object.
use Rattle.std.proofs.Common.{◌≡◌, ℕ, zero, suc, Bool, true, false, ◌+◌, ◌-◌, ◌^◌, ◌==◌, ◌<◌, ◌≤◌, nat_lt, List, [], length, None, Some, refl, sym, ap, ◌∙◌, subst, inl, inr, arith, if◌then◌else◌, eq-eqb, ltb-false, ne_eqb}
use Rattle.std.proofs.lemmas.Bool.{cases_eq, cases_lt, false≢true}
use Rattle.std.proofs.lemmas.List.{get_or_past}
use Rattle.cb_ptr.specs.declared.word.State.{State}
use Rattle.cb_ptr.specs.declared.word.State.TheVariants as state
use Rattle.cb_ptr.specs.Word.{state_of, len_of, pins_of}
use Rattle.cb_types.specs.declared.job.Job.TheVariants as job
use Rattle.cb_types.specs.declared.reply.Reply.{Reply}
use Rattle.cb_types.specs.declared.reply.Reply.TheVariants as answer
use Rattle.cb_world.specs.declared.shown.Shown.{Shown}
use Rattle.cb_world.specs.Plain.{Words}
use Rattle.cb_world.specs.StillWords.{stamp_at}
use Rattle.cb_world.specs.World.{WorldState, IsKnown, IsSoundWorld, word_at}
use Rattle.cb_world.specs.Now.{is_gone}
use Rattle.cb_mutate.specs.StillReplies.{empty_reply, reply_as, next_reply, change_reply, write_reply, free_as, free_reply}
use Rattle.cb_core.specs.Declining.{write_refusal}
use Rattle.cb_core.specs.Parts.{Holding, WhereItIs, near, declined, stays_far, brought}
use Rattle.cb_core.specs.Step.{StillWrite, StillDecline, StillBring, TurnStep}
use Rattle.cb_core.proofs.TurnCalls.{held_at, held_then, is_done, known_at}
use Rattle.cb_core.proofs.TurnCallsFar.{BringEnds, came, broke, crammed, bring_ends}
use Rattle.cb_core.proofs.TurnCallsKept.{kept_bring}
use Rattle.cb_core.proofs.TurnCallsParts.{write_part}
use Rattle.cb_core.proofs.TurnCallsPinned.{write_counts}

-- whether the state of a word alone gives the reply
abbrev by_word : Reply → Bool
by_word answer.Unmade = true
by_word answer.Freed = true
by_word answer.NotHere = true
by_word answer.Moving = true
by_word r = false

-- where it does not, the object is here
as_here : (Z : Type 0) (q : State) (version : ℕ) (here r : Reply) → by_word r ≡ false
    → reply_as q version here ≡ r → (here ≡ r → Z) → Z
as_here Z state.Empty zero here r off e by = absurd (false≢true (sym off ∙ sym (ap by_word e)))
as_here Z state.Empty (suc v) here r off e by = absurd (false≢true (sym off ∙ sym (ap by_word e)))
as_here Z state.Far version here r off e by = absurd (false≢true (sym off ∙ sym (ap by_word e)))
as_here Z state.Moving version here r off e by = absurd (false≢true (sym off ∙ sym (ap by_word e)))
as_here Z state.Here version here r off e by = by e

change_unpinned : (w v version : ℕ) → change_reply w v ≡ answer.Version version → pins_of w ≡ 0
change_unpinned w v version e = elim (cases_eq (pins_of w) 0) [
  | inl none ↦ none
  | inr some ↦ absurd (held (sym (ap (λ (b : Bool). if b then next_reply v
      else answer.Pinned (pins_of w)) (ne_eqb (pins_of w) 0 some)) ∙ e))
]
  where
    held : answer.Pinned (pins_of w) ≡ answer.Version version → ⊥
    held e = cc

written_unpinned : (w v at n version : ℕ) → write_reply w v at n ≡ answer.Version version
    → pins_of w ≡ 0
written_unpinned w v at n version e = as_here (pins_of w ≡ 0) (state_of w) v _ _ refl e
    (λ here. by (nat_lt (len_of w) (at + n)) here)
  where
    past : answer.Range (len_of w) ≡ answer.Version version → ⊥
    past e = cc

    by : (b : Bool) → (if b then answer.Range (len_of w) else change_reply w v)
        ≡ answer.Version version → pins_of w ≡ 0
    by true e = absurd (past e)
    by false e = change_unpinned w v version e

written_fits : (w v at n count : ℕ) → write_reply w v at n ≡ answer.Pinned count
    → at + n ≤ len_of w
written_fits w v at n count e = as_here (at + n ≤ len_of w) (state_of w) v _ _ refl e
    (λ here. by (nat_lt (len_of w) (at + n)) refl here)
  where
    past : answer.Range (len_of w) ≡ answer.Pinned count → ⊥
    past e = cc

    by : (b : Bool) → nat_lt (len_of w) (at + n) ≡ b
        → (if b then answer.Range (len_of w) else change_reply w v) ≡ answer.Pinned count
        → at + n ≤ len_of w
    by true is e = absurd (past e)
    by false is e = ltb-false (len_of w) (at + n) is

-- ---- the object of a far word has no pins
far_unpinned : (w : WorldState) (h : ℕ) → IsSoundWorld w
    → state_of (word_at w.desk h) ≡ state.Far → pins_of (word_at w.desk h) ≡ 0
far_unpinned w h sound away = by (pins_of (word_at w.desk h)) refl
  where
    here_far : state_of (word_at w.desk h) ≡ state.Here → ⊥
    here_far here = cc

    empty_far : state_of 0 ≡ state.Far → ⊥
    empty_far e = cc

    by : (n : ℕ) → pins_of (word_at w.desk h) ≡ n → pins_of (word_at w.desk h) ≡ 0
    by zero e = e
    by (suc n) e = elim (cases_lt h (length w.desk.words)) [
      | inl inside ↦ absurd (here_far (sound.pinned.here h inside (omega (arith, e))).0)
      | inr outside ↦
          absurd (empty_far (sym (ap state_of (get_or_past w.desk.words h 0 outside)) ∙ away))
    ]

-- ---- a write
brings_version : (a b : Holding Words) (h version : ℕ)
    → BringEnds a b h (answer.Version version) → ⊥
brings_version a b h version (came f e whole here) = cc
brings_version a b h version (broke id l e lost) = cc
brings_version a b h version (crammed frames loose nodes e whole) = cc

-- a write that is declined is answered Range or Worn
abbrev declines : Reply → Bool
declines (answer.Range len) = true
declines answer.Worn = true
declines r = false

no_refusal : (r : Reply) → Some r ≡ None → ⊥
no_refusal r e = cc

same_refusal : (r q : Reply) → Some r ≡ Some q → r ≡ q
same_refusal r q e = cc

declined_as : (lost : Bool) (len version at count : ℕ) (r : Reply)
    → Some r ≡ write_refusal lost len version at count → declines r ≡ true
declined_as true len version at count r e = absurd (no_refusal r e)
declined_as false len version at count r e =
    by (nat_lt len (at + count)) (version == 2 ^ 64 - 1) e
  where
    by : (past worn : Bool) → Some r ≡ (if past then Some (answer.Range len)
        else if worn then Some answer.Worn else None) → declines r ≡ true
    by true worn e = ap declines (same_refusal r (answer.Range len) e)
    by false true e = ap declines (same_refusal r answer.Worn e)
    by false false e = absurd (no_refusal r e)

-- a write that finds its object elsewhere finds it far
far_by : (w v at n : ℕ) → write_reply w v at n ≡ answer.NotHere → state_of w ≡ state.Far
far_by w v at n e = by (state_of w) refl e
  where
    changed : change_reply w v ≡ answer.NotHere → ⊥
    changed e = elim (cases_eq (pins_of w) 0) [
      | inl none ↦ next (v == 2 ^ 64 - 1) (sym (ap (λ (b : Bool). if b then next_reply v
          else answer.Pinned (pins_of w)) (eq-eqb (pins_of w) 0 none)) ∙ e)
      | inr some ↦ held (sym (ap (λ (b : Bool). if b then next_reply v
          else answer.Pinned (pins_of w)) (ne_eqb (pins_of w) 0 some)) ∙ e)
    ]
      where
        next : (b : Bool) → (if b then answer.Worn else answer.Version (v + 1)) ≡ answer.NotHere → ⊥
        next true e = cc
        next false e = cc

        held : answer.Pinned (pins_of w) ≡ answer.NotHere → ⊥
        held e = cc

    at_here : (b : Bool) → (if b then answer.Range (len_of w) else change_reply w v)
        ≡ answer.NotHere → ⊥
    at_here true e = cc
    at_here false e = changed e

    empty : (v : ℕ) → empty_reply v ≡ answer.NotHere → ⊥
    empty zero e = cc
    empty (suc v) e = cc

    moving : answer.Moving ≡ answer.NotHere → ⊥
    moving e = cc

    by : (q : State) → state_of w ≡ q → reply_as q v (if nat_lt (len_of w) (at + n)
        then answer.Range (len_of w) else change_reply w v) ≡ answer.NotHere
        → state_of w ≡ state.Far
    by state.Far is e = is
    by state.Empty is e = absurd (empty v e)
    by state.Moving is e = absurd (moving e)
    by state.Here is e = absurd (at_here (nat_lt (len_of w) (at + n)) e)

module _ (a b : Holding Words) (s : Shown) (h at : ℕ) (bytes : List ℕ)
    (known : IsKnown a.desk a.far s) where
  where_unpinned : (version : ℕ) → WhereItIs (StillWrite h at bytes)
      (StillDecline h at (length bytes)) (StillBring h) a (answer.Version version) b
      → pins_of (word_at a.desk h) ≡ 0
  where_unpinned version (near c never) = written_unpinned (word_at a.desk h) (stamp_at a.desk h) at
      (length bytes) version (sym c.0.reply)
  where_unpinned version (declined m c l) = absurd (false≢true (declined_as (is_gone m.far h)
      (len_of (word_at m.desk h)) (stamp_at m.desk h) at (length bytes) (answer.Version version)
      l.0))
  where_unpinned version (stays_far m n c l bring never) =
      let part = write_part h at bytes [] in
      let back = part.looks m n None l ∙ part.nothing a m c in
      absurd (brings_version a b h version (bring_ends a b h (answer.Version version) s known
      (subst (λ (x : Holding Words). StillBring h x (answer.Version version) b) back bring)))
  where_unpinned version (brought m n o f c l bring again) =
      let part = write_part h at bytes [] in
      let back = part.looks m n None l ∙ part.nothing a m c in
      let kept = kept_bring a o h (answer.Swapped f) s known
      (subst (λ (x : Holding Words). StillBring h x (answer.Swapped f) o) back bring) in
      sym (kept.words.pins h)
      ∙ written_unpinned (word_at o.desk h) (stamp_at o.desk h) at (length bytes)
      version (sym again.0.reply)

  -- one that is answered Pinned: the object is here, or it was far and has pins
  where_fits : (count : ℕ) → (state_of (word_at a.desk h) ≡ state.Far → ⊥)
      → WhereItIs (StillWrite h at bytes) (StillDecline h at (length bytes)) (StillBring h) a
      (answer.Pinned count) b
      → at + length bytes ≤ len_of (word_at a.desk h)
  where_fits count off (near c never) = written_fits (word_at a.desk h) (stamp_at a.desk h) at
      (length bytes) count (sym c.0.reply)
  where_fits count off (declined m c l) = absurd (false≢true (declined_as (is_gone m.far h)
      (len_of (word_at m.desk h)) (stamp_at m.desk h) at (length bytes) (answer.Pinned count) l.0))
  where_fits count off (stays_far m n c l bring never) =
      absurd (off (far_by (word_at a.desk h) (stamp_at a.desk h) at (length bytes) (sym c.0.reply)))
  where_fits count off (brought m n o f c l bring again) =
      absurd (off (far_by (word_at a.desk h) (stamp_at a.desk h) at (length bytes) (sym c.0.reply)))

pub write_unpinned : (w new : WorldState) (h at : ℕ) (bytes : List ℕ) (version : ℕ)
    → (before : IsSoundWorld w) → w.far.counts.turns < 2 ^ 40
    → TurnStep (job.Write (record { n = h }) at bytes) w (answer.Version version) new
    → pins_of (word_at w.desk h) ≡ 0
write_unpinned w new h at bytes version before few step =
    let j = job.Write (record { n = h }) at bytes in
    where_unpinned (held_at w j) (held_then new) before.shown h at bytes (known_at w j before)
    version (is_done j w new (answer.Version version) few step)

pub write_fits : (w new : WorldState) (h at : ℕ) (bytes : List ℕ) (count : ℕ)
    → (before : IsSoundWorld w) → w.far.counts.turns < 2 ^ 40
    → TurnStep (job.Write (record { n = h }) at bytes) w (answer.Pinned count) new
    → at + length bytes ≤ len_of (word_at w.desk h)
write_fits w new h at bytes count before few step =
    let j = job.Write (record { n = h }) at bytes in
    let pins = write_counts w new h at bytes count before few step in
    where_fits (held_at w j) (held_then new) before.shown h at bytes (known_at w j before) count
    (λ away. let none = far_unpinned w h before away in
    absurd (omega (arith, none, pins.is, pins.some)))
    (is_done j w new (answer.Pinned count) few step)

-- ---- a free
freed_unpinned : (w v version : ℕ) → (state_of w ≡ state.Far → pins_of w ≡ 0)
    → free_reply w v ≡ answer.Version version → pins_of w ≡ 0
freed_unpinned w v version away e = by (state_of w) away e
  where
    moving : answer.Moving ≡ answer.Version version → ⊥
    moving e = cc

    empty : (v : ℕ) → empty_reply v ≡ answer.Version version → ⊥
    empty zero e = cc
    empty (suc v) e = cc

    by : (q : State) → (q ≡ state.Far → pins_of w ≡ 0)
        → free_as q v (change_reply w v) ≡ answer.Version version → pins_of w ≡ 0
    by state.Far away e = away refl
    by state.Empty away e = absurd (empty v e)
    by state.Moving away e = absurd (moving e)
    by state.Here away e = change_unpinned w v version e

pub free_unpinned : (w new : WorldState) (h version : ℕ) → IsSoundWorld w
    → w.far.counts.turns < 2 ^ 40
    → TurnStep (job.Free (record { n = h })) w (answer.Version version) new
    → pins_of (word_at w.desk h) ≡ 0
free_unpinned w new h version before few step =
    freed_unpinned (word_at w.desk h) (stamp_at w.desk h) version (far_unpinned w h before)
    (sym (is_done (job.Free (record { n = h })) w new (answer.Version version) few step).reply)
