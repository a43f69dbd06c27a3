use Rattle.std.proofs.Common.{refl}
use Rattle.cb_shared.specs.Seats.{record_at}
use Rattle.cb_shared.proofs.LockAlone.{not_moved_twice, takes_from}
use Rattle.cb_shared.proofs.WriteSteps.{of_moves}
use Rattle.cb_shared.proofs.locking.lock_far.Goals as goal

pub loop-init : goal.loop-init
loop-init g c = (refl, refl, refl)

pub take_far-requires-clause-of : goal.take_far-requires-clause-of
take_far-requires-clause-of g c = of_moves c.args.top.now.table_id c.args.top.now.key
    c.args.config.now c.args.seat.now c.loop.seat (record_at c.args.seat.now) c.requires.of
    c.loop.invariant refl refl

pub returns-in-Some-take_far-clause-took : goal.returns-in-Some-take_far-clause-took
returns-in-Some-take_far-clause-took g c = takes_from c.args.config.now c.in-Some-take_far.far c.args.seat.now c.loop.seat
    c.take_far.new.seat c.loop.invariant (c.take_far.ensures.took c.in-Some-take_far.far c.in-Some-take_far.is)

pub returns-in-Some-take_far-clause-first : goal.returns-in-Some-take_far-clause-first
returns-in-Some-take_far-clause-first g c =
    c.take_far.ensures.first c.in-Some-take_far.far c.in-Some-take_far.is

pub loop-preserved : goal.loop-preserved
loop-preserved g c = not_moved_twice c.args.seat.now c.loop.seat c.take_far.new.seat c.loop.invariant
    (c.take_far.ensures.lost c.in-None-take_far.is)
