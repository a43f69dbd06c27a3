use Rattle.std.proofs.Common.{ℕ, subst}
use Rattle.cb_lanes.specs.GivingBack.{Rests}
use Rattle.cb_lanes.proofs.Shown.{ok_then}
use Rattle.cb_lanes.proofs.seq.answer_line.Goals as goal

pub returns-clause-line : goal.returns-clause-line
returns-clause-line c = λ later are. ok_then c.rest.result (λ done rests.
    let line = rw c.from.ensures at c.in_ok-answer_by.ensures.line in record {
      reply = line.reply;
      between = c.answer_by.new.lane;
      step = line.line_goes;
      sound = c.answer_by.ensures.well.1;
      rests = subst (λ (n : ℕ). Rests n c.args.line.now.lane.n c.answer_by.new.lane
          c.rest.new.world)
          (c.take_line-behind.ensures.left later are).1 (rw c.from.ensures at rests);
      holds = line.holds;
      answer = line.answer;
    }) c.rest.ensures.rests

pub returns-clause-left : goal.returns-clause-left
returns-clause-left c = λ later are. (c.take_line-behind.ensures.left later are).0

pub returns-in_err-answer_by-clause-left : goal.returns-in_err-answer_by-clause-left
returns-in_err-answer_by-clause-left c = λ later are. (c.take_line-behind.ensures.left later are).0

pub returns-clause-losses : goal.returns-clause-losses
returns-clause-losses c = λ so_far.
    ok_then c.rest.result (λ done rests. c.in_ok-answer_by.ensures.losses so_far)
    c.rest.ensures.rests
