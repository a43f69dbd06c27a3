use Rattle.cb_shared.proofs.runtime.Shared.join_pass.Given as goal

abbrev pub ghosts-join_seats : goal.ghosts-join_seats
ghosts-join_seats a = record { key = a.config.now }
