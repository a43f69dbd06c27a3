-- A line that a caller answered.
use Rattle.std.specs.Prelude.{◌≡◌, List, [], ◌∷◌, ◌++◌}
use Rattle.cb_types.specs.declared.answer.Answer.{Answer}
use Rattle.cb_types.specs.declared.reply.Reply.{Reply}
use Rattle.cb_script.specs.declared.script.Line.{Line}
use Rattle.cb_lanes.specs.Asked.{answer_to}
use Rattle.cb_lanes.specs.LineGoes.{Goes, LineGoes}
use Rattle.cb_lanes.specs.Names.{KeptNames, AreKept, request_handle}

-- A line was answered in a state with these names and answers: it leads to another state, with the
-- reply of its answer; the handle of a make is kept, and the answer stands after those before.
pub record AnsweredBy {A : Type 0} (goes : Goes A) (line : Line) (a : A) (names : KeptNames)
    (answers : List Answer) (b : A) (kept : KeptNames) (all : List Answer) : Type 0 where
  pub reply : Reply
  pub line_goes : LineGoes goes (request_handle names line.request) line.request a reply b
  pub holds : AreKept names line.request reply kept
  pub answer : all ≡ answers ++ answer_to line line.request reply ∷ []
