-- The answers that an array or a map gives for good.
use Rattle.std.specs.Prelude.{Option, Some, None}
use Rattle.std.specs.Option.{option_or}
use Rattle.cb_types.specs.declared.reply.Reply.TheVariants as answer
use Rattle.cb_farmap.specs.declared.kept.Cannot.{Cannot}
use Rattle.cb_farmap.specs.declared.kept.Cannot.TheVariants as cannot
use Rattle.cb_farmap.specs.declared.kept.Stop.{Stop}
use Rattle.cb_farmap.specs.declared.kept.Stop.TheVariants as stop

-- the answer that is given again
abbrev pub cannot_of : Stop → Cannot
cannot_of stop.Freed = cannot.Refused answer.Freed
cannot_of (stop.Foreign handle kept found) = cannot.Foreign handle kept found

-- whether this answer is given for good: the first that tells of a freed object or a foreign write
abbrev pub stop_of : Cannot → Option Stop
stop_of (cannot.Refused answer.Freed) = Some stop.Freed
stop_of (cannot.Foreign handle kept found) = Some (stop.Foreign handle kept found)
stop_of other = None

-- what a value stops with after what was told
abbrev pub stop_behind : Option Stop → Option Cannot → Option Stop
stop_behind before None = before
stop_behind before (Some c) = option_or before (stop_of c)
