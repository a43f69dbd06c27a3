use Rattle.std.proofs.Common.{◌≡◌, ℕ, List, [], map, ap, sym, subst}
use Rattle.cb_types.specs.declared.answer.Answer.{Answer}
use Rattle.cb_rule.specs.declared.view.View.{View}
use Rattle.cb_shared.specs.Recalls.{Recalls, first_version_of}
use Rattle.cb_lanes.specs.Asked.{asked}
use Rattle.cb_lanes.specs.Bodies.{LinesGo}
use Rattle.cb_lanes.specs.LaneStops.{LaneStops}
use Rattle.cb_lanes.specs.Passing.{goes_in}
use Rattle.cb_lanes.proofs.LaneForm.{lane_keeps_alone}
use Rattle.cb_lanes.proofs.LaneRises.{lane_alone}
use Rattle.cb_lanes.proofs.LaneStopping.{lane_stops}
use Rattle.cb_lanes.proofs.LastTries.{lines_last}
use Rattle.cb_lanes.proofs.LineReplies.{lines_reply}
use Rattle.cb_lanes.proofs.LinesBack.{lane_adds}
use Rattle.cb_lanes.proofs.LinesSoFar.{held_none}
use Rattle.cb_lanes.proofs.MadeApart.{lane_scoped, leads_same}
use Rattle.cb_lanes.proofs.OwnRising.{lane_keeps_own}
use Rattle.cb_lanes.proofs.body.lane_body.Goals as goal

pub answer_all-done-requires-clause-held : goal.answer_all-done-requires-clause-held
answer_all-done-requires-clause-held g c lives within = held_none c.new.result.items
    c.args.pass.seat.me.0 c.requires.pins c.new.ensures

pub leave_at_end-requires-clause-of : goal.leave_at_end-requires-clause-of
leave_at_end-requires-clause-of g c = c.answer_all-done.ensures.of

pub leave_at_end-requires-clause-held : goal.leave_at_end-requires-clause-held
leave_at_end-requires-clause-held g c = c.answer_all-done.ensures.held

pub returns-in-Ok-clause-of : goal.returns-in-Ok-clause-of
returns-in-Ok-clause-of g c = (
  c.leave_at_end.ensures.of,
  ap (λ (v : View). v.pins) c.leave_at_end.ensures.left,
)

pub returns-in-Ok-clause-lines : goal.returns-in-Ok-clause-lines
returns-in-Ok-clause-lines g c = subst (λ (l : List Answer). map asked l ≡ c.args.lines.now)
    (sym c.from-answers.ensures) (rw c.in-Ok.is at c.answer_all-done.ensures.lines)

pub returns-in-Ok-clause-goes : goal.returns-in-Ok-clause-goes
returns-in-Ok-clause-goes g c = (
  c.answer_all-done.new.passing.pass.seat.me.0,
  subst (λ (l : List Answer). LinesGo (goes_in c.args.shared.now.config) c.args.names.now []
      c.args.pass.seat.me.0 l c.answer_all-done.new.passing.pass.seat.me.0)
      (sym c.from-answers.ensures) (rw c.in-Ok.is at c.answer_all-done.ensures.goes),
  c.leave_at_end.ensures.left,
)

pub returns-in-Ok-clause-answered : goal.returns-in-Ok-clause-answered
returns-in-Ok-clause-answered g c = lines_reply c.args.shared.now.config c.args.names.now []
    c.from-answers.result c.args.pass.seat.me.0 (returns-in-Ok-clause-goes g c).0
    (returns-in-Ok-clause-goes g c).1

pub returns-in-Ok-clause-last : goal.returns-in-Ok-clause-last
returns-in-Ok-clause-last g c = lines_last c.args.shared.now.config c.args.names.now []
    c.from-answers.result c.args.pass.seat.me.0 (returns-in-Ok-clause-goes g c).0
    (returns-in-Ok-clause-goes g c).1 (returns-in-Ok-clause-answered g c)

pub returns-in-Ok-clause-part : goal.returns-in-Ok-clause-part
returns-in-Ok-clause-part g c = lane_adds c.args.shared.now.config c.args.names.now
    c.from-answers.result c.args.pass.seat.me.0 c.leave_at_end.new.pass.seat.me.0 c.requires.pins
    (returns-in-Ok-clause-goes g c)

pub returns-in-Ok-clause-rises : goal.returns-in-Ok-clause-rises
returns-in-Ok-clause-rises g c = lane_alone c.args.shared.now.config c.args.names.now
    c.args.shared.now.config.nodes c.args.lane.n c.args.lines.now c.from-answers.result
    c.args.pass.seat.me.0 c.leave_at_end.new.pass.seat.me.0 c.leave_at_end.new.pass.seat.me.0
    c.requires.pins (returns-in-Ok-clause-goes g c) c.requires.lines
    (returns-in-Ok-clause-lines g c)
    (λ h n freed has. has) c.leave_at_end.ensures.own.stands.ends

pub returns-in-Ok-clause-scoped : goal.returns-in-Ok-clause-scoped
returns-in-Ok-clause-scoped g c = lane_scoped c.args.shared.now.config c.args.names.now
    c.args.shared.now.config.nodes c.args.lane.n c.args.lines.now c.from-answers.result
    (first_version_of c.args.shared.now) c.args.pass.seat.me.0 c.leave_at_end.new.pass.seat.me.0
    c.leave_at_end.new.pass.seat.me.0 c.requires.pins c.requires.names
    (returns-in-Ok-clause-goes g c)
    c.leave_at_end.ensures.own (leads_same c.leave_at_end.new.pass.seat.me.0) c.requires.lines
    (returns-in-Ok-clause-lines g c)

pub returns-in-Ok-clause-alone : goal.returns-in-Ok-clause-alone
returns-in-Ok-clause-alone g c = λ first unwritten.
    let w = c.leave_at_end.new.pass.seat.me.0 in
    lane_keeps_alone c.args.shared.now.config c.args.shared.now.config.nodes c.args.lane.n
    c.args.names.now
    c.args.lines.now c.from-answers.result c.args.pass.seat.me.0 w c.requires.pins
    c.requires.of.rest.fresh c.requires.names (returns-in-Ok-clause-goes g c)
    (returns-in-Ok-clause-lines g c) (returns-in-Ok-clause-answered g c)
    (lane_keeps_own c.args.shared.now.config c.args.names.now c.from-answers.result
    c.args.pass.seat.me.0 w unwritten (returns-in-Ok-clause-goes g c)
    (subst (λ (n : ℕ). Recalls n w) first c.leave_at_end.ensures.own)
    c.leave_at_end.ensures.of.rest.fresh)

pub returns-in-Err-clause-stopped : goal.returns-in-Err-clause-stopped
returns-in-Err-clause-stopped g c = (
  c.leave_at_end.ensures.of,
  ap (λ (v : View). v.pins) c.leave_at_end.ensures.left,
  subst (λ (l : List Answer). LaneStops (first_version_of c.args.shared.now)
      c.args.shared.now.config
      c.args.lane.n c.args.names.now c.args.lines.now c.args.pass.seat.me.0 l
      c.leave_at_end.new.pass.seat.me.0) (sym c.from-answers.ensures)
      (lane_stops (first_version_of c.args.shared.now) c.args.shared.now.config c.args.lane.n
      c.args.names.now c.args.lines.now c.answer_all-done.new.answers.items c.args.pass.seat.me.0
      c.answer_all-done.new.passing.pass.seat.me.0 c.leave_at_end.new.pass.seat.me.0 c.requires.pins
      c.requires.of.rest.fresh c.requires.names c.requires.lines c.answer_all-done.ensures.front
      (rw c.in-Err.is at c.answer_all-done.ensures.stops) c.leave_at_end.ensures.left
      c.leave_at_end.ensures.own c.leave_at_end.ensures.of.rest.fresh),
)
