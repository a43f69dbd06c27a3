use Rattle.cb_world.proofs.RunRows.{HasRead}
use Rattle.cb_world.proofs.run_words.load_run.Given as goal

-- the pages before this one were read
abbrev pub invariant-loop-page : goal.invariant-loop-page
invariant-loop-page g l =
    HasRead (λ es. g.D.Desk.run l.fn.desk es l.desk) l.frame l.pages l.page l.row
