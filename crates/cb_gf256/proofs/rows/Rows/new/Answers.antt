use Rattle.std.proofs.Common.{ap, ◌∙◌, rules}
use Rattle.cb_gf256.specs.Block.{cut_rows}
use Rattle.cb_gf256.proofs.BlockLemmas.{cut_rows-replicate}
use Rattle.cb_gf256.proofs.rows.Rows.new.Goals as goal

pub returns : goal.returns
returns c =
    ap (cut_rows c.args.count c.args.len) (c.in_ok-block.ensures.items_if_clones_equal (λ y h. search rules))
    ∙ cut_rows-replicate c.args.count c.args.len 0
