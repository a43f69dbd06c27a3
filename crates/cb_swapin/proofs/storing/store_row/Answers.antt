use Rattle.cb_swapin.proofs.RowStored.{row_stored, vacant_owned}
use Rattle.cb_swapin.proofs.storing.store_row.Goals as goal

pub store_run-requires-clause-owned : goal.store_run-requires-clause-owned
store_run-requires-clause-owned g c = let had = c.requires.vacant in
    (had.0, had.1, vacant_owned had.0 c.args.frame c.args.pages had.2)

pub returns : goal.returns
returns g c = row_stored _ _ c.args.frame c.args.pages c.args.row.now c.requires.row
    c.store_run.ensures (λ s k. k.1)
