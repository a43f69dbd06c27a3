-- What two texts of answers to one script have in common: the lines of a lane on its own names.
use Rattle.std.specs.Prelude.{◌≡◌, ℕ, ◌^◌, ◌<◌, false, List}
use Rattle.std.specs.List.{filter}
use Rattle.cb_types.specs.declared.answer.Answer.{Answer}
use Rattle.cb_script.specs.declared.script.Line.{Line}
use Rattle.cb_script.specs.declared.script.Script.{Script}
use Rattle.cb_script.specs.Form.{IsScript}
use Rattle.cb_script.specs.Roomy.{IsRoomy, has_step_line}
use Rattle.cb_text.specs.Line.{text_of}
use Rattle.cb_lanes.specs.Alone.{HasOwnLines, is_own}
use Rattle.cb_lanes.specs.declared.side.Side.TheVariants.{Nodes}
use Rattle.cb_app.specs.Scripts.{IsAnswered}
use Rattle.cb_app.specs.Threaded.{IsRun}
use Rattle.cb_app.specs.declared.ending.Ending.{Ending}
use Rattle.cb_app.specs.declared.threads.ThreadsEnd.{ThreadsEnd}

-- the text of the answers to a lane's own lines: those on names that the lane makes, filters aside
abbrev pub own_text : List Line → ℕ → List Answer → List ℕ
own_text lines lane answers = text_of (filter (is_own lines lane) answers)

-- the two texts of a lane's own lines are equal, where it has such lines and pins no shared name
abbrev pub TellAlike : List Line → (one many : List Answer) → Type 0
TellAlike lines one many = (lane : ℕ) → HasOwnLines lines lane
    → own_text lines lane one ≡ own_text lines lane many

-- Threads print of each lane's own lines what one thread prints of them: on a roomy script without
-- parts of evictions and compactions, where fewer than 2^40 turns were counted.
abbrev pub TellsAsSeq : Script → ThreadsEnd → Type 0
TellsAsSeq script many = (one : Ending) → IsRoomy script → has_step_line script.lines ≡ false
    → IsAnswered Nodes script one → many.world.far.counts.turns < 2 ^ 40
    → TellAlike script.lines one.answers many.answers

-- so whatever threads answered
abbrev pub ThreadsTellAlike : Type 0
ThreadsTellAlike =
    (script : Script) (many : ThreadsEnd) → IsScript script → IsRun script many → TellsAsSeq script many
