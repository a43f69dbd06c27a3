use Rattle.std.proofs.Common.{◌≡◌, take}
use Rattle.std.specs.List.{flat_map}
use Rattle.cb_events.specs.Told.{told_line}
use Rattle.cb_events.proofs.telling.replies_text.Given as goal

-- the text has the replies so far
abbrev pub invariant-loop-reply : goal.invariant-loop-reply
invariant-loop-reply l = l.text.items ≡ flat_map told_line (take l.reply-index l.replies)
