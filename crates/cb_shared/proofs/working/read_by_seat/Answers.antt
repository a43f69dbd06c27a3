use Rattle.cb_shared.proofs.AfterTurn.{holds_begun, of_runs}
use Rattle.cb_shared.proofs.ReadTurns.{few_come, knows_come, no_frame_read, tells_away, tells_read}
use Rattle.cb_shared.proofs.ReadTurns.{work_away, work_read}
use Rattle.cb_shared.proofs.working.read_by_seat.Goals as goal

pub bring_by_seat-place-requires-clause-holds : goal.bring_by_seat-place-requires-clause-holds
bring_by_seat-place-requires-clause-holds g c = holds_begun c.args.top.now.table_id
    c.args.top.now.key c.args.config.now c.args.far.now c.args.seat.now c.requires.of
    c.requires.begins

pub returns-then-not-came_there-clause-work : goal.returns-then-not-came_there-clause-work
returns-then-not-came_there-clause-work g c = work_away c.args.config.now c.args.h
    c.bring_by_seat-place.result c.args.far.now c.bring_by_seat-place.new.far c.args.seat.now
    c.bring_by_seat-place.new.seat c.requires.begins.kept c.bring_by_seat-place.ensures.bring
    (c.came_there.ensures.other c.if-not-came_there.true)

pub returns-then-not-came_there-clause-unavailable
    : goal.returns-then-not-came_there-clause-unavailable
returns-then-not-came_there-clause-unavailable g c = tells_away c.args.config.now c.args.h
    c.bring_by_seat-place.result c.args.far.now c.bring_by_seat-place.new.far c.args.seat.now
    c.bring_by_seat-place.new.seat c.bring_by_seat-place.ensures.bring c.requires.begins.stood

pub read_tried-requires-clause-of : goal.read_tried-requires-clause-of
read_tried-requires-clause-of g c = of_runs c.args.top.now.table_id c.args.top.now.key
    c.args.config.now c.args.seat.now c.bring_by_seat-place.new.seat
    c.bring_by_seat-place.ensures.bring.events c.requires.of c.bring_by_seat-place.ensures.bring.runs

pub read_tried-requires-clause-knows : goal.read_tried-requires-clause-knows
read_tried-requires-clause-knows g c = let b = c.bring_by_seat-place.ensures.bring in
    knows_come c.args.h.n c.args.seat.now c.bring_by_seat-place.new.seat b.events b.runs
    c.requires.knows

pub read_tried-requires-clause-few : goal.read_tried-requires-clause-few
read_tried-requires-clause-few g c = let b = c.bring_by_seat-place.ensures.bring in
    few_come c.args.seat.now c.bring_by_seat-place.new.seat b.events b.runs c.requires.few

pub returns-clause-work : goal.returns-clause-work
returns-clause-work g c = work_read c.args.config.now c.args.h c.bring_by_seat-place.result
    c.read_tried.result c.args.far.now c.bring_by_seat-place.new.far c.args.seat.now
    c.bring_by_seat-place.new.seat c.read_tried.new.seat c.requires.begins.kept
    c.bring_by_seat-place.ensures.bring c.requires.begins.fresh
    (c.came_there.ensures.yes c.if-not-came_there.false) c.read_tried.ensures

pub returns-clause-no_frame : goal.returns-clause-no_frame
returns-clause-no_frame g c = no_frame_read c.args.config.now c.args.h.n c.read_tried.result
    c.bring_by_seat-place.new.seat c.read_tried.new.seat c.read_tried.ensures

pub returns-clause-unavailable : goal.returns-clause-unavailable
returns-clause-unavailable g c = tells_read c.args.config.now c.args.h c.bring_by_seat-place.result
    c.read_tried.result c.args.far.now c.bring_by_seat-place.new.far c.args.seat.now
    c.bring_by_seat-place.new.seat c.read_tried.new.seat c.bring_by_seat-place.ensures.bring
    c.requires.begins.stood (c.came_there.ensures.yes c.if-not-came_there.false)
    c.read_tried.ensures
