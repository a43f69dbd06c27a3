use Rattle.cb_shared.specs.Seats.{record_at}
use Rattle.cb_shared.proofs.seal.Draft.of.Given as goal

abbrev pub ghosts-put : goal.ghosts-put
ghosts-put a = record { world = a.draft.now.mark.view.world; view = record_at a.told.now }
