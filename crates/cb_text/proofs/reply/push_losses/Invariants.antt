use Rattle.std.proofs.Common.{◌≡◌, ◌++◌, take}
use Rattle.std.specs.List.{flat_map}
use Rattle.cb_text.specs.Line.{loss_text}
use Rattle.cb_text.proofs.reply.push_losses.Given as goal

-- the text has the losses so far
abbrev pub invariant-loop-loss : goal.invariant-loop-loss
invariant-loop-loss l =
    l.text.items ≡ l.fn.text.items ++ flat_map loss_text (take l.loss-index l.lost)
