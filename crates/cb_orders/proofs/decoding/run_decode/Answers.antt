use Rattle.cb_gf256.specs.Rows.{row_at}
use Rattle.cb_orders.proofs.DecodedRow.{word_decoded}
use Rattle.cb_orders.proofs.decoding.run_decode.Goals as goal

pub of-requires-clause-row : goal.of-requires-clause-row
of-requires-clause-row c =
    word_decoded c.args.order (row_at c.in-Ok.made 0) c.requires c.in-Ok.ensures.word
