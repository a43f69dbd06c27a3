use Rattle.cb_script.proofs.Makers.{names_more}
use Rattle.cb_script.proofs.known.keep.Goals as goal

pub returns-clause-kept : goal.returns-clause-kept
returns-clause-kept c = λ before l has new at makes.
    names_more c.args.names.now c.insert.new.self before l c.args.lane c.args.name.now c.requires has new at makes (rw c.name_number.ensures at c.in_ok-insert.ensures.updates).0
