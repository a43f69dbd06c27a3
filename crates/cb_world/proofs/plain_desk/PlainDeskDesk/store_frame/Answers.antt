use Rattle.std.proofs.Common.{◌*◌}
use Rattle.cb_world.specs.RowWords.{words_in}
use Rattle.cb_world.proofs.FrameRuns.{sized_put, stores_run}
use Rattle.cb_world.proofs.plain_desk.PlainDeskDesk.store_frame.Goals as goal

pub invariant_of-self : goal.invariant_of-self
invariant_of-self c = sized_put _ (512 * c.args.frame) (words_in c.args.row.now)
    c.store_frame.new.self
    c.store_frame.ensures c.self.invariant

pub returns : goal.returns
returns c = stores_run _ _ (512 * c.args.frame) (words_in c.args.row.now) c.store_frame.new.self
    c.self.view_is c.store_frame.ensures
