use Rattle.cb_shared.proofs.runtime.Shared.split.Given as goal

abbrev pub ghosts-split_seat : goal.ghosts-split_seat
ghosts-split_seat a = record { share = a.share }
