use Rattle.cb_shared.specs.Passes.{IsPassOf}
use Rattle.cb_lanes.specs.Passing.{AreHeld}
use Rattle.cb_lanes.proofs.LinesSoFar.{LinesSoFar}
use Rattle.cb_lanes.proofs.body.answer_all.Given as goal

-- the lines so far were answered
abbrev pub invariant-loop-line : goal.invariant-loop-line
invariant-loop-line g l =
    record {
      of : IsPassOf l.shared l.passing.pass;
      held : AreHeld l.passing.pins.items l.passing.pass.seat.me.0;
      far : LinesSoFar l.shared.config l.names l.lines l.fn.passing.pass.seat.me.0 l.line-index
          l.kept
          l.answers.items l.passing.pass.seat.me.0;
    }
