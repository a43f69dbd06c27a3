-- What the begin of a compaction ends in.
use Rattle.cb_compact.specs.declared.compaction.Compaction.{Compaction}
use Rattle.cb_compact.specs.declared.compaction.Compaction.TheVariants as begun
use Rattle.cb_types.specs.declared.reply.Reply.{Reply}
use Rattle.cb_types.specs.declared.reply.Reply.TheVariants as answer
use Rattle.cb_compact.specs.PairStep.{set_numbered}

-- what is answered then
abbrev pub reply_of : Compaction → Reply
reply_of (begun.Joining a b) = answer.Joining (set_numbered a) (set_numbered b)
reply_of begun.NoPair = answer.NoPair
reply_of (begun.Pair a b) = answer.Pair (set_numbered a) (set_numbered b)
