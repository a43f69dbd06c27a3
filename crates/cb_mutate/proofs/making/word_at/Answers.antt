use Rattle.std.proofs.Common.{arith}
use Rattle.cb_mutate.proofs.Packing.{word_read}
use Rattle.cb_mutate.proofs.making.word_at.Goals as goal

pub returns : goal.returns
returns c = word_read c.args.bytes.now c.args.i c.min-until.result c.read_uint.result c.requires
    c.min-until.ensures (λ k. omega (arith, c.type_inv.bytes k)) c.read_uint.ensures
