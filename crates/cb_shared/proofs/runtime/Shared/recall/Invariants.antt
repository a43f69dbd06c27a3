use Rattle.cb_shared.proofs.runtime.Shared.recall.Given as goal

abbrev pub ghosts-recall_at : goal.ghosts-recall_at
ghosts-recall_at a = record { first = a.top.now.key.first }
