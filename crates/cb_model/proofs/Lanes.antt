-- The calls of lanes that run from clocks are in turn, those of lane 0 first.
use Rattle.std.proofs.Common.{◌≡◌, ℕ, ◌≤◌, List, [], ◌∷◌, ◌++◌, refl, sym, ◌∙◌, arith, inl, inr}
use Rattle.std.specs.Prelude.{◌≢◌}
use Rattle.std.specs.List.{AllByRecursion}
use Rattle.std.proofs.lemmas.Bool.{cases_Bool}
use Rattle.cb_model.specs.Times.{Timed, untimed, changes, done_by, IsInProgramOrder, AreInProgramOrder, IsZeroFirst}
use Rattle.cb_model.specs.Lanes.{RunFrom, LaneRun, RunTogether, RunInLanes, AreDatedInLanes, calls_of_all}
use Rattle.cb_model.specs.Serial.{IsSerial}
use Rattle.cb_model.specs.Shown.{HandleChange}
use Rattle.cb_model.proofs.Stages.{weaker}
use Rattle.cb_model.proofs.Dated.{serial_by_versions}

done_behind : (t : Timed) → t.time ≤ done_by t
done_behind t =
    elim (cases_Bool (changes t)) [ inl is ↦ rw is (omega arith) | inr fails ↦ rw fails (omega arith) ]

from_low : (low : ℕ) (ts : List Timed) (high : ℕ) → RunFrom low ts high
    → AllByRecursion (λ (t : Timed). low ≤ t.time) ts
from_low low [] high run = tt
from_low low (t ∷ ts) high run = (
  run.0,
  weaker (λ (u : Timed). done_by t ≤ u.time) (λ (u : Timed). low ≤ u.time) (λ u le. omega (arith, run.0, done_behind t, le)) ts (from_low (done_by t) ts high run.1),
)

low_high : (low : ℕ) (ts : List Timed) (high : ℕ) → RunFrom low ts high → low ≤ high
low_high low [] high run = run
low_high low (t ∷ ts) high run =
    omega (arith, run.0, done_behind t, low_high (done_by t) ts high run.1)

until_high : (low : ℕ) (ts : List Timed) (high : ℕ) → RunFrom low ts high
    → AllByRecursion (λ (t : Timed). done_by t ≤ high) ts
until_high low [] high run = tt
until_high low (t ∷ ts) high run =
    (low_high (done_by t) ts high run.1, until_high (done_by t) ts high run.1)

run_in_turn : (low : ℕ) (ts : List Timed) (high : ℕ) → RunFrom low ts high → AreInProgramOrder ts
run_in_turn low [] high run = tt
run_in_turn low (t ∷ ts) high run = (
  weaker (λ (u : Timed). done_by t ≤ u.time) (IsInProgramOrder t) (λ u le told. le) ts (from_low (done_by t) ts high run.1),
  run_in_turn (done_by t) ts high run.1,
)

all_both : {X : Type 0} (P : X → Type 0) (xs ys : List X) → AllByRecursion P xs
    → AllByRecursion P ys → AllByRecursion P (xs ++ ys)
all_both P [] ys all more = more
all_both P (x ∷ xs) ys all more = (all.0, all_both P xs ys all.1 more)

in_turn_both : (xs ys : List Timed) → AreInProgramOrder xs → AreInProgramOrder ys
    → AllByRecursion (λ (x : Timed). AllByRecursion (IsInProgramOrder x) ys) xs → AreInProgramOrder (xs ++ ys)
in_turn_both [] ys turn more cross = more
in_turn_both (x ∷ xs) ys turn more cross =
    (all_both (IsInProgramOrder x) xs ys turn.0 cross.0, in_turn_both xs ys turn.1 more cross.1)

-- no call of the others is one of the lane
not_of : (n : ℕ) (low : ℕ) (lanes : List LaneRun) → RunTogether low lanes
    → AllByRecursion (λ (other : LaneRun). n ≢ other.number) lanes
    → AllByRecursion (λ (t : Timed). n ≢ t.answer.lane.n) (calls_of_all lanes)
not_of n low [] run apart = tt
not_of n low (lane ∷ lanes) run apart =
    all_both (λ (t : Timed). n ≢ t.answer.lane.n) lane.calls (calls_of_all lanes)
    (weaker (λ (t : Timed). t.answer.lane.n ≡ lane.number) (λ (t : Timed). n ≢ t.answer.lane.n) (λ t e same. apart.0 (same ∙ e)) lane.calls run.0.own)
    (not_of n low lanes run.3 apart.1)

apart_turn : (n : ℕ) (t u : Timed) → n ≢ 0 → t.answer.lane.n ≡ n → n ≢ u.answer.lane.n → IsInProgramOrder t u
apart_turn n t u other own apart (inl same) = absurd (apart (sym own ∙ same))
apart_turn n t u other own apart (inr first) = absurd (other (sym own ∙ first))

together_turn : (low : ℕ) (lanes : List LaneRun) → RunTogether low lanes
    → AreInProgramOrder (calls_of_all lanes)
together_turn low [] run = tt
together_turn low (lane ∷ lanes) run =
    let apart = not_of lane.number low lanes run.3 run.2 in
    in_turn_both lane.calls (calls_of_all lanes) (run_in_turn low lane.calls run.0.high run.0.runs) (together_turn low lanes run.3)
    (weaker (λ (t : Timed). t.answer.lane.n ≡ lane.number) (λ (t : Timed). AllByRecursion (IsInProgramOrder t) (calls_of_all lanes))
    (λ t own. weaker (λ (u : Timed). lane.number ≢ u.answer.lane.n) (IsInProgramOrder t) (λ u other. apart_turn lane.number t u run.1 own other) (calls_of_all lanes) apart)
    lane.calls run.0.own)

together_low : (low : ℕ) (lanes : List LaneRun) → RunTogether low lanes
    → AllByRecursion (λ (t : Timed). low ≤ t.time) (calls_of_all lanes)
together_low low [] run = tt
together_low low (lane ∷ lanes) run =
    all_both (λ (t : Timed). low ≤ t.time) lane.calls (calls_of_all lanes) (from_low low lane.calls run.0.high run.0.runs) (together_low low lanes run.3)

together_others : (low : ℕ) (lanes : List LaneRun) → RunTogether low lanes
    → AllByRecursion (λ (t : Timed). t.answer.lane.n ≢ 0) (calls_of_all lanes)
together_others low [] run = tt
together_others low (lane ∷ lanes) run =
    all_both (λ (t : Timed). t.answer.lane.n ≢ 0) lane.calls (calls_of_all lanes)
    (weaker (λ (t : Timed). t.answer.lane.n ≡ lane.number) (λ (t : Timed). t.answer.lane.n ≢ 0) (λ t own first. run.1 (sym own ∙ first)) lane.calls run.0.own)
    (together_others low lanes run.3)

-- so all are in turn
pub lanes_in_turn : (zero : LaneRun) (lanes : List LaneRun) → RunInLanes zero lanes
    → AreInProgramOrder (zero.calls ++ calls_of_all lanes)
lanes_in_turn zero lanes run =
    in_turn_both zero.calls (calls_of_all lanes) (run_in_turn 0 zero.calls run.first.high run.first.runs) (together_turn run.first.high lanes run.others)
    (weaker (λ (t : Timed). done_by t ≤ run.first.high) (λ (t : Timed). AllByRecursion (IsInProgramOrder t) (calls_of_all lanes))
    (λ t done. weaker (λ (u : Timed). run.first.high ≤ u.time) (IsInProgramOrder t) (λ u le told. omega (arith, done, le)) (calls_of_all lanes) (together_low run.first.high lanes run.others))
    zero.calls (until_high 0 zero.calls run.first.high run.first.runs))

-- and lane 0's come first
pub lanes_zero_first : (zero : LaneRun) (lanes : List LaneRun) → RunInLanes zero lanes
    → IsZeroFirst (zero.calls ++ calls_of_all lanes)
lanes_zero_first zero lanes run = record {
  zero = zero.calls;
  others = calls_of_all lanes;
  parts = refl;
  of_zero = weaker (λ (t : Timed). t.answer.lane.n ≡ zero.number) (λ (t : Timed). t.answer.lane.n ≡ 0) (λ t own. own ∙ run.is_zero) zero.calls run.first.own;
  of_others = together_others run.first.high lanes run.others;
}

-- Legal answers of lanes whose times tell versions are those of one order, which is legal in order.
pub serial_by_lanes : (first handles : ℕ) (history : List HandleChange) (zero : LaneRun) (lanes : List LaneRun)
    → AreDatedInLanes first handles history zero lanes
    → IsSerial first handles (untimed (zero.calls ++ calls_of_all lanes))
serial_by_lanes first handles history zero lanes by =
    serial_by_versions first handles history (zero.calls ++ calls_of_all lanes) (record {
      legal = by.legal;
      each = by.each;
      dated = by.dated;
      in_program_order = lanes_in_turn zero lanes by.run;
      zero_first = lanes_zero_first zero lanes by.run;
      names = by.names;
    })
