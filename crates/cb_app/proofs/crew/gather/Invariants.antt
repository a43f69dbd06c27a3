use Rattle.std.proofs.Common.{◌≡◌}
use Rattle.std.specs.Prelude.{All}
use Rattle.cb_text.specs.Line.{text_of}
use Rattle.cb_app.specs.Crew.{HasText}
use Rattle.cb_app.proofs.CrewTaken.{IsTakingTurns}
use Rattle.cb_app.proofs.Crews.{IsTaking}
use Rattle.cb_app.proofs.crew.gather.Given as goal

-- some were taken in, with their texts
abbrev pub invariant-loop-ended : goal.invariant-loop-ended
invariant-loop-ended l = record {
  taking : IsTaking l.fn.shared l.fn.lines l.fn.first.answers l.fn.ends.items l.ended-iterator.rest.items l.first;
  text : l.text ≡ text_of l.first.answers;
  texts : All HasText l.ended-iterator.rest.items;
  turns : IsTakingTurns l.fn.ends.items l.ended-iterator.rest.items l.fn.first l.first;
}
