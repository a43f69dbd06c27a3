-- Answers with the times at which their calls took effect. Times show that there is one order.
use Rattle.std.specs.Prelude.{◌≡◌, ◌≢◌, ℕ, zero, suc, ◌+◌, ◌≤◌, ◌&&◌, nat_eq, not, if◌then◌else◌, Bool, true, false}
use Rattle.std.specs.Prelude.{List, [], ◌∷◌, ◌++◌, length, filter, map}
use Rattle.std.specs.List.{AllByRecursion}
use Rattle.cb_types.specs.declared.answer.Answer.{Answer}
use Rattle.cb_model.specs.Event.{Event, event_of}
use Rattle.cb_model.specs.Event.Event.{Makes, Writes, Frees}
use Rattle.cb_model.specs.Called.{called, calls_of}
use Rattle.cb_model.specs.Legal.{IsMapReply, WasTold}

-- An answer, and the time of its call: how many changes had been made when the call took effect. A
-- change that the call itself made is the next one.
pub record Timed : Type 0 where
  pub time : ℕ
  pub answer : Answer

-- the answers, without their times
abbrev pub untimed : List Timed → List Answer
untimed ts = map (λ t. t.answer) ts

-- whether a call with this event changed an object
abbrev pub is_change : Event → Bool
is_change (Makes bytes version) = true
is_change (Writes at bytes version) = true
is_change (Frees version) = true
is_change event = false

abbrev pub changes : Timed → Bool
changes t = is_change (event_of t.answer.request t.answer.reply)

-- the call changed an object at this time; it took effect then and changed none
abbrev pub changes_at : ℕ → Timed → Bool
changes_at n t = nat_eq t.time n && changes t

abbrev pub tells_at : ℕ → Timed → Bool
tells_at n t = nat_eq t.time n && not (changes t)

-- the answers whose calls changed an object before this time, in the order of their changes
abbrev pub changed_before : ℕ → List Timed → List Timed
changed_before zero ts = []
changed_before (suc n) ts = changed_before n ts ++ filter (changes_at n) ts

-- how many changes there were when the call was done, its own one among them
abbrev pub done_by : Timed → ℕ
done_by t = if changes t then t.time + 1 else t.time

-- the earlier call was done when the later one took effect
abbrev pub IsDoneBefore : Timed → Timed → Type 0
IsDoneBefore earlier later = done_by earlier ≤ later.time

-- so it is of two calls of one lane (program order), and of a call of lane 0 and any later one
abbrev pub IsInProgramOrder : Timed → Timed → Type 0
IsInProgramOrder earlier later =
    WasTold earlier.answer.lane.n later.answer.lane.n → IsDoneBefore earlier later

abbrev pub AreInProgramOrder : List Timed → Type 0
AreInProgramOrder [] = Unit {0}
AreInProgramOrder (t ∷ later) = AllByRecursion (IsInProgramOrder t) later × AreInProgramOrder later

-- the answers of lane 0 stand first
pub record IsZeroFirst (ts : List Timed) : Type 0 where
  pub zero : List Timed
  pub others : List Timed
  pub parts : ts ≡ zero ++ others
  pub of_zero : AllByRecursion (λ t. t.answer.lane.n ≡ 0) zero
  pub of_others : AllByRecursion (λ t. t.answer.lane.n ≢ 0) others

-- the answer is the map's reply after the changes before its time
abbrev pub IsReplyThen : (first handles : ℕ) → List Timed → Timed → Type 0
IsReplyThen first handles ts t =
    let before = untimed (changed_before t.time ts) in
    IsMapReply first handles (calls_of before) (called before t.answer)

-- These may be the times of calls on a map: no two changes were made at one time, each answer is
-- the map's reply after the changes before its time, the calls of a lane took effect one after the
-- other, and those of lane 0 before all others.
pub record AreTimes (first handles : ℕ) (ts : List Timed) : Type 0 where
  pub one : (n : ℕ) → length (filter (changes_at n) ts) ≤ 1
  pub replies : AllByRecursion (IsReplyThen first handles ts) ts
  pub in_program_order : AreInProgramOrder ts
  pub zero_first : IsZeroFirst ts
