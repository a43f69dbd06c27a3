use Rattle.std.proofs.Common.{◌≡◌, take}
use Rattle.cb_lanes.specs.Lost.{losses_of}
use Rattle.cb_app.proofs.threads.found_losses.Given as goal

-- the losses so far
abbrev pub invariant-loop-answer : goal.invariant-loop-answer
invariant-loop-answer l = l.losses.items ≡ losses_of (take l.answer-index l.answers)
