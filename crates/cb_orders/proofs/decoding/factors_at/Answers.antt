use Rattle.std.proofs.Common.{◌≡◌, ◌∷◌, [], ap, arith, ◌∙◌}
use Rattle.std.proofs.lemmas.List.{length-set}
use Rattle.cb_gf256.specs.Rows.{byte_at}
use Rattle.cb_gf256.proofs.PublicLaws.{below_more_set}
use Rattle.cb_orders.proofs.DecodedRow.{front_is}
use Rattle.cb_orders.proofs.decoding.factors_at.Goals as goal

pub loop-i-preserved : goal.loop-i-preserved
loop-i-preserved c =
    let i = c.loop-i.i in (
      length-set c.loop-i.factors i c.at.result ∙ c.loop-i.invariant.0,
      below_more_set (λ m x. x ≡ byte_at c.args.weights.now c.args.position m)
          c.loop-i.factors i c.at.result 0 (omega arith) c.loop-i.invariant.1 c.at.ensures,
    )

pub returns : goal.returns
returns c =
    let count = c.requires.width c.args.position [] c.requires.position in
    c.of_table.ensures
    ∙ ap (λ row. row ∷ [])
    (front_is c.args.k c.loop-i.factors _ (omega arith) count
    (λ i l. c.loop-i.invariant.1 i (omega arith)))
