use Rattle.std.proofs.Common.{refl, arith}
use Rattle.std.specs.Fmt.{decimal}
use Rattle.std.proofs.lemmas.List.{length-take}
use Rattle.std.proofs.lemmas.Result.{err_from_is_err_and}
use Rattle.cb_script.specs.Cut.{phrase}
use Rattle.cb_script.specs.Reading.{line_place}
use Rattle.cb_script.proofs.LineRules.{lane_fault, lane_falls, lane_stands, line_refused, line_stands, shaped_lane, shaped_of}
use Rattle.cb_script.proofs.line.line_of.Goals as goal

pub slice_bounds-words-end : goal.slice_bounds-words-end
slice_bounds-words-end c = omega (arith, length-take c.in-Some.count c.words_into.new.words, c.in-Some.ensures.within, c.words_into.auto.words)

pub returns-in_default-lane_of-clause-line : goal.returns-in_default-lane_of-clause-line
returns-in_default-lane_of-clause-line c = λ before has least number few.
    let first = c.in-Some-split_first.lane.now in
    let p = phrase c.in-Some-phrase_of.words in
    let shaped = shaped_of c.args.text.now _ first c.in-Some-split_first.words.now p c.in-Some.ensures.cut c.in-Some-split_first.ensures.cases.0 c.if-has_empty.ensures c.in-Some-phrase_of.ensures in
    lane_fault (line_place c.args.limits before) c.args.text.now few first.now p shaped
    (λ some. c.in_default-lane_of.ensures (record { n = some.0 }) (some.1, lane_falls before c.args.least_lane least some.0 some.2, some.2.low))

pub returns-in_err-request-clause-line : goal.returns-in_err-request-clause-line
returns-in_err-request-clause-line c = λ before has least number few.
    let first = c.in-Some-split_first.lane.now in
    let p = phrase c.in-Some-phrase_of.words in
    let shaped = shaped_of c.args.text.now _ first c.in-Some-split_first.words.now p c.in-Some.ensures.cut c.in-Some-split_first.ensures.cases.0 c.if-has_empty.ensures c.in-Some-phrase_of.ensures in
    let lane = c.in-Some-lane_of.ensures in
    let e = err_from_is_err_and c.from_residual.result c.from_residual.ensures.1 in
    rw (e.1, e.2) (line_refused (line_place c.args.limits before) c.args.text.now few c.in-Some-lane_of.lane.n p (shaped_lane c.args.text.now first.now (decimal c.in-Some-lane_of.lane.n) p lane.0.1 shaped)
    (lane_stands before c.args.least_lane least c.in-Some-lane_of.lane.n lane.1 lane.2) c.in_err-request.field-0.0 (c.in_err-request.ensures.request before has))

pub returns-clause-line : goal.returns-clause-line
returns-clause-line c = λ before has least number few.
    let first = c.in-Some-split_first.lane.now in
    let p = phrase c.in-Some-phrase_of.words in
    let shaped = shaped_of c.args.text.now _ first c.in-Some-split_first.words.now p c.in-Some.ensures.cut c.in-Some-split_first.ensures.cases.0 c.if-has_empty.ensures c.in-Some-phrase_of.ensures in
    let lane = c.in-Some-lane_of.ensures in
    line_stands (line_place c.args.limits before) c.args.text.now few c.in-Some-lane_of.lane.n p (shaped_lane c.args.text.now first.now (decimal c.in-Some-lane_of.lane.n) p lane.0.1 shaped)
    (lane_stands before c.args.least_lane least c.in-Some-lane_of.lane.n lane.1 lane.2) c.args.number c.in-Some-lane_of.lane c.in_ok-request.request refl number (c.in_ok-request.ensures.request before has)

pub returns-clause-names : goal.returns-clause-names
returns-clause-names c = λ before has. c.in_ok-request.ensures.names before has c.args.number
