use Rattle.cb_compact.proofs.tables.fill.Goals as goal

pub returns-clause-marked : goal.returns-clause-marked
returns-clause-marked c i mask d at k r pages fits w =
    c.spread.ensures.marked d.live mask fits w (c.mark.ensures.marked i d at k r pages)
