-- At which answers the calls of a lane that runs beside others stop trying.
use Rattle.cb_types.specs.declared.answer.Answer.{Answer}
use Rattle.cb_types.specs.declared.reply.Reply.{Reply}
use Rattle.cb_types.specs.declared.reply.Reply.TheVariants as answer
use Rattle.cb_types.specs.declared.request.Request.{Request}
use Rattle.cb_types.specs.declared.request.Request.TheVariants.{Filter}

-- the reply does not tell that the object is being moved
abbrev pub EndsTries : Reply → Type 0
EndsTries answer.Moving = ⊥
EndsTries reply = Unit {0}

-- so of each line but a filter line, which is one turn and is not made again
abbrev pub IsLastTry : Request → Reply → Type 0
IsLastTry (Filter name) reply = Unit {0}
IsLastTry request reply = EndsTries reply

abbrev pub HasLastTry : Answer → Type 0
HasLastTry a = IsLastTry a.request a.reply
