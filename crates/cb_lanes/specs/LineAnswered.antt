-- A line that was answered.
use Rattle.std.specs.Prelude.{◌≡◌, ℕ, List, [], ◌∷◌, ◌++◌}
use Rattle.cb_types.specs.declared.answer.Answer.{Answer}
use Rattle.cb_types.specs.declared.reply.Reply.{Reply}
use Rattle.cb_script.specs.declared.script.Line.{Line}
use Rattle.cb_world.specs.World.{WorldState, IsSoundWorld}
use Rattle.cb_lanes.specs.Asked.{answer_to}
use Rattle.cb_lanes.specs.declared.side.Side.{Side}
use Rattle.cb_lanes.specs.GivingBack.{Rests, lines_by}
use Rattle.cb_lanes.specs.LineStep.{LineStep}
use Rattle.cb_lanes.specs.Names.{KeptNames, AreKept, request_handle}

-- A line was answered in a world with these names and answers, where these lanes have the lines
-- after it: the line leads to a sound world, with the reply of its answer; its lane rests from
-- there; the handle of a make is kept, and the answer stands after those before.
pub record LineAnswered (side : Side) (line : Line) (later : List ℕ) (w : WorldState)
    (names : KeptNames) (answers : List Answer) (rested : WorldState) (kept : KeptNames)
    (all : List Answer) : Type 0 where
  pub reply : Reply
  pub between : WorldState
  pub step : LineStep side line.lane.n (request_handle names line.request) line.request w reply
      between
  pub sound : IsSoundWorld between
  pub rests : Rests (lines_by line.lane.n later) line.lane.n between rested
  pub holds : AreKept names line.request reply kept
  pub answer : all ≡ answers ++ answer_to line line.request reply ∷ []
