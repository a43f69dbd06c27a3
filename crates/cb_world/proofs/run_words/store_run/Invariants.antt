use Rattle.std.proofs.Common.{◌*◌}
use Rattle.cb_world.specs.FrameWords.{stores_from}
use Rattle.cb_world.specs.RowWords.{words_from}
use Rattle.cb_world.proofs.run_words.store_run.Given as goal

-- the pages before this one were stored
abbrev pub invariant-loop-page : goal.invariant-loop-page
invariant-loop-page g l = g.D.Desk.run l.fn.desk
    (stores_from (512 * l.frame) (words_from (512 * l.page) l.row)) l.desk
