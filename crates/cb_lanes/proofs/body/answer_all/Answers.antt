use Rattle.std.proofs.Common.{rules, ◌≤◌, length, map, ap, ◌∙◌}
use Rattle.std.proofs.lemmas.List.{take_all}
use Rattle.cb_lanes.specs.Asked.{asked}
use Rattle.cb_lanes.proofs.LaneStopping.{none_stops, one_stops}
use Rattle.cb_lanes.proofs.LinesSoFar.{front_none, front_taken, line_of, none_so_far, one_more}
use Rattle.cb_lanes.proofs.Stopping.{err_always}
use Rattle.cb_lanes.proofs.body.answer_all.Goals as goal

pub loop-line-init : goal.loop-line-init
loop-line-init g c = record {
  of = c.requires.of;
  held = c.requires.held;
  far = none_so_far c.args.shared.now.config c.args.names.now c.as_slice.result.now c.args.lines.now
      c.keep_names.new.kept c.args.answers.now.items c.args.passing.now.pass.seat.me.0
      c.requires.names
      c.as_slice.ensures.items c.in_ok-keep_names.ensures.kept c.requires.none;
}

pub returns-in_err-keep_names-clause-front : goal.returns-in_err-keep_names-clause-front
returns-in_err-keep_names-clause-front g c =
    front_none c.args.lines.now c.args.answers.now.items c.requires.none

pub returns-in_err-keep_names-clause-stops : goal.returns-in_err-keep_names-clause-stops
returns-in_err-keep_names-clause-stops g c =
    err_always c.from_residual.result _ (none_stops c.args.shared.now.config c.args.names.now
    c.args.lines.now c.args.answers.now.items c.args.passing.now.pass.seat.me.0 c.requires.none)

pub answer_one-requires-clause-of : goal.answer_one-requires-clause-of
answer_one-requires-clause-of g c = c.loop-line.invariant.of

pub answer_one-requires-clause-held : goal.answer_one-requires-clause-held
answer_one-requires-clause-held g c = c.loop-line.invariant.held

pub answer_one-requires-clause-request : goal.answer_one-requires-clause-request
answer_one-requires-clause-request g c = (line_of c.args.shared.now.config.nodes c.args.lane.n
    c.args.lines.now c.loop-line.line-index c.line-item.result c.requires.lines (search rules)
    (search rules)).1

pub answer_one-requires-clause-knows : goal.answer_one-requires-clause-knows
answer_one-requires-clause-knows g c = c.loop-line.invariant.far.knows

pub loop-line-preserved : goal.loop-line-preserved
loop-line-preserved g c = record {
  of = c.in_ok-answer_one.ensures.of;
  held = c.in_ok-answer_one.ensures.held;
  far = one_more c.args.shared.now.config c.args.names.now c.args.lines.now
      c.args.passing.now.pass.seat.me.0 c.loop-line.line-index c.line-item.result c.loop-line.kept
      c.answer_one.new.kept c.loop-line.answers.items c.answer_one.new.answers.items
      c.loop-line.passing.pass.seat.me.0 c.answer_one.new.passing.pass.seat.me.0 (search rules)
      (search rules) c.loop-line.invariant.far c.in_ok-answer_one.ensures.line;
}

pub returns-in_err-answer_one-clause-front : goal.returns-in_err-answer_one-clause-front
returns-in_err-answer_one-clause-front g c = front_taken c.args.lines.now c.loop-line.line-index
    c.answer_one.new.answers.items (ap (map asked) c.in_err-answer_one.ensures.same
    ∙ c.loop-line.invariant.far.front)

pub returns-in_err-answer_one-clause-stops : goal.returns-in_err-answer_one-clause-stops
returns-in_err-answer_one-clause-stops g c = err_always c.from_residual-in_err-answer_one.result _
    (one_stops c.args.shared.now.config c.args.names.now
    c.args.lines.now c.args.passing.now.pass.seat.me.0 c.loop-line.line-index c.line-item.result
    c.loop-line.kept c.loop-line.answers.items c.answer_one.new.answers.items
    c.loop-line.passing.pass.seat.me.0 c.answer_one.new.passing.pass.seat.me.0 (search rules)
    (search rules) c.loop-line.invariant.far c.in_err-answer_one.ensures.same
    c.in_err-answer_one.ensures.stops)

pub returns-clause-front : goal.returns-clause-front
returns-clause-front g c = front_taken c.args.lines.now c.loop-line.line-index
    c.loop-line.answers.items
    c.loop-line.invariant.far.front

pub returns-clause-lines : goal.returns-clause-lines
returns-clause-lines g c =
    let past : length c.args.lines.now ≤ c.loop-line.line-index = search rules in
    c.loop-line.invariant.far.front ∙ take_all c.loop-line.line-index c.args.lines.now past

pub returns-clause-goes : goal.returns-clause-goes
returns-clause-goes g c = c.loop-line.invariant.far.goes
