use Rattle.std.proofs.Common.{◌≡◌, ◌+◌, refl, arith, ◌∙◌}
use Rattle.std.proofs.lemmas.List.{length-set}
use Rattle.cb_gf256.proofs.PublicLaws.{below_more_set}
use Rattle.cb_local.proofs.fetching.parity_positions.Goals as goal

pub loop-e-preserved : goal.loop-e-preserved
loop-e-preserved c =
    let e = c.loop-e.e in (
      length-set c.loop-e.positions e (c.args.k + e) ∙ c.loop-e.invariant.0,
      below_more_set (λ m x. x ≡ c.args.k + m) c.loop-e.positions e (c.args.k + e) 0 (omega arith)
          c.loop-e.invariant.1 refl,
    )
