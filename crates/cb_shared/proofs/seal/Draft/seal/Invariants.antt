use Rattle.cb_shared.proofs.seal.Draft.seal.Given as goal

abbrev pub ghosts-put : goal.ghosts-put
ghosts-put a = record { world = a.told.now; view = a.draft.now.mark.view.view }
