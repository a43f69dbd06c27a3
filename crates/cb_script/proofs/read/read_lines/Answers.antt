use Rattle.std.proofs.Common.{◌<◌, length, refl, ap, arith}
use Rattle.std.proofs.lemmas.List.{length_push}
use Rattle.cb_script.proofs.Front.{front_more, has_lines_fault, line_fault}
use Rattle.cb_script.proofs.read.read_lines.Goals as goal

pub returns-then-as_slice-ge-MOST_LINES : goal.returns-then-as_slice-ge-MOST_LINES
returns-then-as_slice-ge-MOST_LINES c =
    let kept = c.loop-rest.invariant in
    has_lines_fault c.args.limits.mode c.args.limits.nodes c.args.text.now c.loop-rest.lines c.loop-rest.rest.now kept.front c.first_line.result.0.now c.first_line.result.1.now c.loop-rest.number c.first_line.ensures.lines kept.number (omega (arith, c.if-as_slice-ge-MOST_LINES.true, ap length c.as_slice.ensures.items))

pub returns-in-Err : goal.returns-in-Err
returns-in-Err c =
    let kept = c.loop-rest.invariant in
    rw c.fault_at.ensures (line_fault c.args.limits.mode c.args.limits.nodes c.args.text.now c.loop-rest.lines c.loop-rest.rest.now kept.front c.first_line.result.0.now c.first_line.result.1.now c.loop-rest.number c.in-Err.refusal c.first_line.ensures.lines kept.number
    (c.in-Err.ensures.line c.loop-rest.lines kept.names kept.lane kept.number (omega (arith, c.if-as_slice-ge-MOST_LINES.false, ap length c.as_slice.ensures.items))))

pub loop-rest-preserved : goal.loop-rest-preserved
loop-rest-preserved c =
    let kept = c.loop-rest.invariant in
    let few : length c.loop-rest.lines < 20000 = omega (arith, c.if-as_slice-ge-MOST_LINES.false, ap length c.as_slice.ensures.items) in
    rw c.in_ok-push-in-Ok.ensures.ok (record {
      front = front_more c.args.limits.mode c.args.limits.nodes c.args.text.now c.loop-rest.lines c.loop-rest.rest.now kept.front c.first_line.result.0.now c.first_line.result.1.now c.in-Ok.line c.first_line.ensures.lines few (c.in-Ok.ensures.line c.loop-rest.lines kept.names kept.lane kept.number few);
      names = c.in-Ok.ensures.names c.loop-rest.lines kept.names;
      lane = c.least_behind-least_lane.ensures c.loop-rest.lines c.in-Ok.line kept.lane refl;
      number = omega (arith, kept.number, length_push c.loop-rest.lines c.in-Ok.line);
    })
