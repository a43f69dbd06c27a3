use Rattle.std.proofs.Common.{List, ℕ, length, sym, ap, ◌∙◌}
use Rattle.cb_gf256.specs.Rows.{row_at}
use Rattle.cb_scrub_world.proofs.After.{mended_wide}
use Rattle.cb_scrub_world.proofs.Given.{stands_at}
use Rattle.cb_scrub_world.proofs.mending.mend_at_node.Goals as goal

pub set_row-requires-clause-length : goal.set_row-requires-clause-length
set_row-requires-clause-length c =
    let shards = c.args.set.now.shards in
    let p = c.args.position in
    ap length c.row.ensures.value ∙ ap (λ (rows : List (List ℕ)). length (row_at rows p)) c.mend.ensures.sum
    ∙ mended_wide c.args.nodes.now shards p c.args.rows.now c.requires.rows c.requires.stand c.requires.position
    ∙ sym (stands_at c.args.nodes.now shards p c.shard-shard.result c.requires.stand c.shard-shard.ensures).wide
