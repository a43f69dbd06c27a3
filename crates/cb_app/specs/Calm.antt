-- What no line of a roomy script is answered where lanes run as threads.
use Rattle.cb_types.specs.declared.reply.Reply.{Reply}
use Rattle.cb_types.specs.declared.reply.Reply.TheVariants.{Moving}
use Rattle.cb_types.specs.declared.request.Request.{Request}
use Rattle.cb_types.specs.declared.request.Request.TheVariants.{Filter}
use Rattle.cb_lanes.specs.Alone.{IsCalmReply}

-- a filter line is one turn, and is not made again where another thread moves its object
abbrev pub MayFindMoving : Request → Type 0
MayFindMoving (Filter name) = Unit {0}
MayFindMoving request = ⊥

-- the reply tells of no lack of room, no loss and no number at its end, and of no move but to a
-- filter line
abbrev pub IsCalmTo : Request → Reply → Type 0
IsCalmTo request Moving = MayFindMoving request
IsCalmTo request reply = IsCalmReply reply
