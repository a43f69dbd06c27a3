-- The line that an answer answers, and which replies it may have.
use Rattle.cb_types.specs.declared.answer.Answer.{Answer}
use Rattle.cb_types.specs.declared.reply.Reply.{Reply}
use Rattle.cb_types.specs.declared.request.Request.{Request}
use Rattle.cb_types.specs.Table.{IsReplyOf}
use Rattle.cb_script.specs.declared.script.Line.{Line}

-- the answer's lane, line and request
abbrev pub asked : Answer → Line
asked a = record { lane = a.lane; line = a.line; request = a.request }

-- the answer to a line, with this request and this reply
abbrev pub answer_to : Line → Request → Reply → Answer
answer_to l request reply = record {
  lane = l.lane;
  line = l.line;
  request = request;
  reply = reply;
}

-- the reply is one that the line may have
abbrev pub HasLineReply : Answer → Type 0
HasLineReply a = IsReplyOf a.request a.reply
