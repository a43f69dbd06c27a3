use Rattle.std.proofs.Common.{◌≡◌, ◌+◌, ◌-◌, ◌*◌, ⊎_elim, subst, arith}
use Rattle.std.proofs.lemmas.Bool.{cases_lt}
use Rattle.cb_gf256.specs.CodeWord.{syndrome}
use Rattle.cb_code.proofs.syndromes.blocks_are_zero.Goals as goal

pub loop-block-preserved : goal.loop-block-preserved
loop-block-preserved c x j within below =
    let at = c.loop-block.block * 64 in
    ⊎_elim
    (λ before. c.loop-block.invariant x j before below)
    (λ after.
    let place : at + (x - at) ≡ x = omega arith in
    subst (λ column. syndrome j c.args.rows.now column ≡ 0) place (c.block_is_zero.ensures.0 c.if-not-block_is_zero.false j (x - at) below (omega arith)))
    (cases_lt x at)
