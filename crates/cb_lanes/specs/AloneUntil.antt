-- What a lane's own lines are answered beside other lanes, up to the first one that lacks
-- something.
use Rattle.std.specs.Prelude.{◌≡◌, ℕ, Bool, true, false, ◌&&◌, List, [], ◌∷◌, Some}
use Rattle.cb_types.specs.declared.answer.Answer.{Answer}
use Rattle.cb_types.specs.declared.reply.Reply.{Reply}
use Rattle.cb_types.specs.declared.reply.Reply.TheVariants as answer
use Rattle.cb_script.specs.declared.script.Line.{Line}
use Rattle.cb_script.specs.Form.{AreLines}
use Rattle.cb_lanes.specs.declared.body.Named.{Named}
use Rattle.cb_lanes.specs.Alone.{AloneSays, HasOwnLines, LaneState, alone_more, fresh_lane}
use Rattle.cb_lanes.specs.Alone.{is_maker, is_own}
use Rattle.cb_lanes.specs.Bodies.{handle_among, of_lane}

-- whether the reply tells of a lack of handles, of room or of numbers, or of a loss
abbrev pub is_lack : Reply → Bool
is_lack (answer.Full handles) = true
is_lack (answer.NoRoom frames loose nodes) = true
is_lack (answer.Unavailable set lost) = true
is_lack answer.Worn = true
is_lack r = false

-- whether the answer is to one of the lane's own lines and tells of a lack
abbrev pub lacks : List Line → ℕ → Answer → Bool
lacks lines lane a = is_own lines lane a && is_lack a.reply

-- Of these answers, those to the lane's own lines are what the lane is answered by itself, up to
-- the first one that tells of a lack. Of that one and of those after it nothing is said.
abbrev pub KeepAloneUntil : List Line → ℕ → LaneState → List Answer → Type 0
KeepAloneUntil lines lane state [] = Unit {0}
KeepAloneUntil lines lane state (a ∷ after) = lacks lines lane a ≡ false
    → (is_own lines lane a ≡ true → AloneSays state a.request a.reply)
    × KeepAloneUntil lines lane (alone_more lines lane state a) after

-- each of these names that has a handle is one that lane 0 makes
abbrev pub AreShared : List Line → List Named → Type 0
AreShared lines names =
    (p : List ℕ) (h : ℕ) → handle_among names p ≡ Some h → is_maker lines 0 p ≡ true

-- The answers of a lane, whatever script its lines are of, are what the lane is answered by itself,
-- up to the first one that tells of a lack. The names that it was given are those that lane 0 made.
abbrev pub LaneKeepsAlone : (nodes lane : ℕ) → List Named → List Line → List Answer → Type 0
LaneKeepsAlone nodes lane names lines answers = (all : List Line) → AreLines nodes [] all
    → HasOwnLines all lane → lines ≡ of_lane lane all → AreShared all names
    → KeepAloneUntil all lane fresh_lane answers
