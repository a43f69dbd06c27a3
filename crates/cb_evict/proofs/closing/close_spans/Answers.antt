use Rattle.std.proofs.Common.{rules, ◌∙◌}
use Rattle.cb_evict.proofs.Homing.{next_frame, closed_none, closed_more, all_closed_spans, run_busy, run_within}
use Rattle.cb_evict.proofs.closing.close_spans.Goals as goal

pub loop-p-init : goal.loop-p-init
loop-p-init c = closed_none c.args.far.now c.args.set

pub close_span-requires-clause-there : goal.close_span-requires-clause-there
close_span-requires-clause-there c =
    let next = next_frame c.args.far.now c.loop-p.far c.args.frames.now c.loop-p.p c.args.set
    c.loop-p.invariant c.requires.apart c.loop-p-test.true c.requires.unique c.requires.owned in
    let x = c.requires.there c.loop-p.p 0 c.loop-p-test.true in (x.0, next.span ∙ x.1)

pub close_span-requires-clause-unique : goal.close_span-requires-clause-unique
close_span-requires-clause-unique c =
    (next_frame c.args.far.now c.loop-p.far c.args.frames.now c.loop-p.p c.args.set
    c.loop-p.invariant c.requires.apart c.loop-p-test.true c.requires.unique c.requires.owned).unique

pub close_span-requires-clause-busy : goal.close_span-requires-clause-busy
close_span-requires-clause-busy c =
    let next = next_frame c.args.far.now c.loop-p.far c.args.frames.now c.loop-p.p c.args.set
    c.loop-p.invariant c.requires.apart c.loop-p-test.true c.requires.unique c.requires.owned in
    let x = c.requires.there c.loop-p.p 0 c.loop-p-test.true in
    run_busy c.loop-p.far _ x.0 next.owned (next.span ∙ x.1)

pub close_span-requires-clause-within : goal.close_span-requires-clause-within
close_span-requires-clause-within c =
    let next = next_frame c.args.far.now c.loop-p.far c.args.frames.now c.loop-p.p c.args.set
    c.loop-p.invariant c.requires.apart c.loop-p-test.true c.requires.unique c.requires.owned in
    let x = c.requires.there c.loop-p.p 0 c.loop-p-test.true in
    run_within c.loop-p.far _ x.0 next.owned (next.span ∙ x.1)

pub loop-p-preserved : goal.loop-p-preserved
loop-p-preserved c =
    closed_more c.args.far.now c.loop-p.far c.close_span.new.far c.args.frames.now c.loop-p.p c.args.set
    c.loop-p.invariant c.close_span.ensures c.requires.apart c.loop-p-test.true c.requires.unique
    c.requires.owned

pub returns : goal.returns
returns c =
    let x = all_closed_spans c.args.far.now c.loop-p.far c.args.frames.now c.loop-p.p c.args.set
    c.loop-p.invariant (search rules) in record { state = x.state; homes = x.homes }
