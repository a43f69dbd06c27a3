use Rattle.cb_record.specs.Parts.{nothing_more}
use Rattle.cb_shared.proofs.ReadParts.{looks_few, looks_know, no_looks, not_moved, of_grown}
use Rattle.cb_shared.proofs.ReadParts.{try_ends, try_lost}
use Rattle.cb_shared.proofs.working.read_tried.Goals as goal

pub loop-init : goal.loop-init
loop-init g c = (nothing_more, no_looks c.args.h, not_moved c.args.seat.now)

pub read_pinned-requires-clause-of : goal.read_pinned-requires-clause-of
read_pinned-requires-clause-of g c = let i = c.loop.invariant in
    of_grown c.args.top.now.table_id c.args.top.now.key c.args.config.now c.args.seat.now c.loop.seat
    i.0 c.requires.of i.2

pub read_pinned-requires-clause-knows : goal.read_pinned-requires-clause-knows
read_pinned-requires-clause-knows g c = let i = c.loop.invariant in
    looks_know c.args.h c.args.seat.now c.loop.seat i.0 i.1 i.2 c.requires.knows

pub read_pinned-requires-clause-few : goal.read_pinned-requires-clause-few
read_pinned-requires-clause-few g c = let i = c.loop.invariant in
    looks_few c.args.h c.args.seat.now c.loop.seat i.0 i.2 c.requires.few

pub returns-in-Some-reply_to : goal.returns-in-Some-reply_to
returns-in-Some-reply_to g c = let i = c.loop.invariant in
    try_ends c.args.config.now c.args.h c.read_pinned.result c.in-Some-reply_to.reply c.args.seat.now
    c.loop.seat c.read_pinned.new.seat i.0 c.requires.handle i.1 i.2 c.read_pinned.ensures.read c.read_pinned.ensures.error
    (c.reply_to.ensures.done c.in-Some-reply_to.reply c.in-Some-reply_to.is)

pub loop-preserved : goal.loop-preserved
loop-preserved g c = let i = c.loop.invariant in
    try_lost c.args.h c.read_pinned.result c.args.seat.now c.loop.seat
    c.read_pinned.new.seat i.0 i.1 i.2 c.read_pinned.ensures.read
    (c.reply_to.ensures.again c.in-None-reply_to.is)
