use Rattle.std.proofs.Common.{subst, arith}
use Rattle.cb_compact.specs.NowGoing.{GoesTo}
use Rattle.cb_compact.proofs.NowEnds.{ends_error, ends_full, ends_merged, goes_ready, gone_sets, gone_there}
use Rattle.cb_compact.proofs.compacting.finish.Goals as goal

pub give_up-requires : goal.give_up-requires
give_up-requires c =
    let s = c.requires.sound in
    let x = subst (GoesTo c.args.far.now c.take_steps.new.far) c.in-Some.is
    c.in_ok-node.ensures.gone in
    record { there = gone_there s.0 c.args.far.now c.take_steps.new.far x.0 s.1 x.1 }

pub merge-requires-clause-ready : goal.merge-requires-clause-ready
merge-requires-clause-ready c =
    let s = c.requires.sound in
    goes_ready s.0 c.args.far.now c.take_steps.new.far s.1
    (subst (GoesTo c.args.far.now c.take_steps.new.far) c.in-None.is
    c.in_ok-node.ensures.gone)

pub merge-requires-clause-sets : goal.merge-requires-clause-sets
merge-requires-clause-sets c =
    let x = subst (GoesTo c.args.far.now c.take_steps.new.far) c.in-None.is
    c.in_ok-node.ensures.gone in
    let e = gone_sets c.args.far.now c.take_steps.new.far x.0 x.1 in
    let l = c.requires.sets in omega (arith, e, l)

pub returns-in-Some-clause-ends : goal.returns-in-Some-clause-ends
returns-in-Some-clause-ends c =
    ends_full c.args.far.now c.take_steps.new.far c.give_up.new.far c.in-Some.node
    (subst (GoesTo c.args.far.now c.take_steps.new.far) c.in-Some.is
    c.in_ok-node.ensures.gone) c.give_up.ensures

pub returns-in-None-clause-ends : goal.returns-in-None-clause-ends
returns-in-None-clause-ends c =
    ends_merged c.args.far.now c.take_steps.new.far c.merge.new.far c.merge.result
    (subst (GoesTo c.args.far.now c.take_steps.new.far) c.in-None.is
    c.in_ok-node.ensures.gone) c.merge.ensures.merged

pub returns-in-None-clause-error : goal.returns-in-None-clause-error
returns-in-None-clause-error c =
    ends_error c.args.far.now c.take_steps.new.far c.merge.new.far c.merge.result
    (subst (GoesTo c.args.far.now c.take_steps.new.far) c.in-None.is
    c.in_ok-node.ensures.gone) c.merge.ensures.error
