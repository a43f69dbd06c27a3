use Rattle.std.proofs.Common.{◌≡◌, ◌+◌, ◌*◌, refl, sym, subst, ◌∙◌, ⊎_elim, arith}
use Rattle.std.proofs.lemmas.Bool.{cases_lt}
use Rattle.cb_gf256.specs.Product.{◌⊗◌}
use Rattle.cb_gf256.specs.Power.{power}
use Rattle.cb_gf256.specs.CodeWord.{syndrome}
use Rattle.cb_gf256.proofs.PublicLaws.{power_is_byte}
use Rattle.cb_scrub.specs.Fitting.{FitsColumns}
use Rattle.cb_scrub.proofs.FittingLaws.{fits_lanes, told_lane, refuted}
use Rattle.cb_scrub.proofs.fitting.block_fits.Goals as goal

pub block_syndrome-sum-requires-clause-byte : goal.block_syndrome-sum-requires-clause-byte
block_syndrome-sum-requires-clause-byte c = omega (arith, c.power_at-first.ensures, c.requires.powers 0 (omega arith), power_is_byte 2 0 (omega arith))

pub power_fits-requires-clause-byte : goal.power_fits-requires-clause-byte
power_fits-requires-clause-byte c =
    let j = c.loop-j.j in
    let few = c.requires.few in
    omega (arith, c.power_at-base.ensures, c.requires.powers j (omega arith), power_is_byte 2 j (omega arith))

pub loop-j-preserved : goal.loop-j-preserved
loop-j-preserved c x m in_block least below =
    let j = c.loop-j.j in
    let few = c.requires.few in
    ⊎_elim
    (λ before. c.loop-j.invariant x m in_block least before)
    (λ after.
    let same : j ≡ m = omega arith in
    subst (λ n. syndrome n c.args.rows.now (c.args.at + x) ≡ power 2 (c.args.position * n) ⊗ syndrome 0 c.args.rows.now (c.args.at + x)) same
    ((c.power_fits.ensures j (c.power_at-base.ensures ∙ c.requires.powers j (omega arith))).0 c.if-not-power_fits.false x in_block
    ∙ told_lane j c.args.position c.args.at x c.power_at-factor.result.now c.args.rows.now c.block_syndrome-sum.result
    (c.block_syndrome-sum.ensures 0 (c.power_at-first.ensures ∙ c.requires.powers 0 (omega arith))) (c.power_at-factor.ensures ∙ c.requires.factors j (omega arith)) in_block))
    (cases_lt m j)

pub returns-then-not-power_fits : goal.returns-then-not-power_fits
returns-then-not-power_fits c =
    let j = c.loop-j.j in
    let few = c.requires.few in
    refuted c.power_fits.result (FitsColumns c.args.r c.args.rows.now c.args.position c.args.at (c.args.at + 64))
    (λ fits.
    (c.power_fits.ensures j (c.power_at-base.ensures ∙ c.requires.powers j (omega arith))).1 (λ l k.
    fits (c.args.at + l) (omega arith) (omega arith) j (omega arith) (omega arith)
    ∙ sym (told_lane j c.args.position c.args.at l c.power_at-factor.result.now c.args.rows.now c.block_syndrome-sum.result
    (c.block_syndrome-sum.ensures 0 (c.power_at-first.ensures ∙ c.requires.powers 0 (omega arith))) (c.power_at-factor.ensures ∙ c.requires.factors j (omega arith)) k)))
    c.if-not-power_fits.true

pub returns : goal.returns
returns c = (
  λ t.
      fits_lanes c.args.r c.args.position c.args.at c.args.rows.now (λ l j in_block least below. c.loop-j.invariant l j in_block least (omega arith)),
  λ fits. refl,
)
