-- Lanes with clocks. A clock is a number of changes: that many were made by some moment.
use Rattle.std.specs.Prelude.{◌≡◌, ◌≢◌, ℕ, ◌≤◌, List, [], ◌∷◌, ◌++◌}
use Rattle.std.specs.List.{AllByRecursion}
use Rattle.cb_model.specs.Legal.{IsLegal}
use Rattle.cb_model.specs.Times.{Timed, done_by, untimed}
use Rattle.cb_model.specs.Shown.{HandleChange, HaveKnownNames, EachCallHolds, MakeHistory}
use Rattle.cb_model.specs.Dated.{IsDated}

-- calls that took effect one after the other, from the clock low to the clock high
abbrev pub RunFrom : ℕ → List Timed → ℕ → Type 0
RunFrom low [] high = low ≤ high
RunFrom low (t ∷ later) high = (low ≤ t.time) × RunFrom (done_by t) later high

-- a lane's number, and its calls in its own order
pub record LaneRun : Type 0 where
  pub number : ℕ
  pub calls : List Timed

-- the calls are those of this lane, and began at or after this clock
pub record RunsAlone (low : ℕ) (lane : LaneRun) : Type 0 where
  pub own : AllByRecursion (λ t. t.answer.lane.n ≡ lane.number) lane.calls
  pub high : ℕ
  pub runs : RunFrom low lane.calls high

-- lanes other than lane 0, each with a number of its own, which began at or after this clock
abbrev pub RunTogether : ℕ → List LaneRun → Type 0
RunTogether low [] = Unit {0}
RunTogether low (lane ∷ lanes) = RunsAlone low lane × (lane.number ≢ 0)
    × AllByRecursion (λ other. lane.number ≢ other.number) lanes × RunTogether low lanes

-- the calls of all these lanes
abbrev pub calls_of_all : List LaneRun → List Timed
calls_of_all [] = []
calls_of_all (lane ∷ lanes) = lane.calls ++ calls_of_all lanes

-- lane 0 runs first, and the others begin at the clock at which it ended
pub record RunInLanes (zero : LaneRun) (lanes : List LaneRun) : Type 0 where
  pub is_zero : zero.number ≡ 0
  pub first : RunsAlone 0 zero
  pub others : RunTogether first.high lanes

-- all calls, by lane and then in the order of the lane
abbrev pub all_calls : LaneRun → List LaneRun → List Timed
all_calls zero lanes = zero.calls ++ calls_of_all lanes

-- Legal answers of lanes, by lane and then by call: the lanes run so, each change of the history
-- was made by one of these calls, and each call agrees with the history at its time.
pub record AreDatedInLanes (first handles : ℕ) (history : List HandleChange) (zero : LaneRun)
    (lanes : List LaneRun) : Type 0 where
  pub legal : IsLegal first handles (untimed (all_calls zero lanes))
  pub run : RunInLanes zero lanes
  pub each : MakeHistory history (all_calls zero lanes)
  pub dated : EachCallHolds (IsDated handles history) [] (all_calls zero lanes)
  pub names : HaveKnownNames (untimed (all_calls zero lanes))
