use Rattle.std.proofs.Common.{◌≡◌, take}
use Rattle.cb_app.specs.Crew.{names_in}
use Rattle.cb_app.proofs.by_lane.names_of.Given as goal

-- the names so far
abbrev pub invariant-loop-answer : goal.invariant-loop-answer
invariant-loop-answer l = l.names ≡ names_in (take l.answer-index l.answers)
