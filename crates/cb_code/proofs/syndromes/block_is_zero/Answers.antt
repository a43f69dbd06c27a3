use Rattle.std.proofs.Common.{arith}
use Rattle.cb_gf256.proofs.PublicLaws.{at_default, power_is_byte}
use Rattle.cb_code.proofs.syndromes.block_is_zero.Goals as goal

pub block_syndrome-requires-clause-byte : goal.block_syndrome-requires-clause-byte
block_syndrome-requires-clause-byte c =
    let j = c.loop-j.j in
    omega (arith, at_default c.args.powers.now j c.index-powers-j.result 0 (omega (arith, c.told-powers, c.requires.few)), c.requires.powers j (omega (arith, c.requires.few)), power_is_byte 2 j (omega arith))
