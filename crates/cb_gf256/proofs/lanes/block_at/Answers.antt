use Rattle.std.proofs.lemmas.Simd.{length-chunk, get_or-chunk}
use Rattle.cb_gf256.proofs.lanes.block_at.Goals as goal

pub returns : goal.returns
returns c = record {
  count = length-chunk c.args.at 64 c.args.row.now c.requires;
  each = λ l h. get_or-chunk c.args.at 64 c.args.row.now l 0 h;
}
