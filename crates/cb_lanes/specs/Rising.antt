-- How the answers of a lane rise from what the record of its pass had.
use Rattle.std.specs.Prelude.{ℕ, List}
use Rattle.cb_types.specs.declared.answer.Answer.{Answer}
use Rattle.cb_rule.specs.declared.view.View.{View}
use Rattle.cb_model.specs.Called.{calls_behind}
use Rattle.cb_record.specs.Rises.{RisesAlone}
use Rattle.cb_lanes.specs.declared.body.Named.{Named}
use Rattle.cb_lanes.specs.Bodies.{AreNamesOf}

-- The answers of a lane, whatever answers gave the names before, are its own and rise from the
-- record with which it started.
abbrev pub LaneRises : ℕ → List Named → List Answer → View → Type 0
LaneRises lane names answers v = (given : List Answer) → AreNamesOf names given
    → RisesAlone (record { number = lane; start = v; calls = calls_behind given answers })
