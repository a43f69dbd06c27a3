use Rattle.std.proofs.Common.{ℕ, List, sym, subst, ◌∙◌, arith}
use Rattle.cb_gf256.specs.Rows.{row_at}
use Rattle.cb_erase.specs.Weights.{AreWeights}
use Rattle.cb_orders.proofs.DecodedRow.{made_by, made_of_word}
use Rattle.cb_orders.proofs.decoding.decoded.Goals as goal

pub returns-clause-word : goal.returns-clause-word
returns-clause-word c =
    let o = c.args.order.now in
    let table = c.weights-table.result in
    let made = c.set_sums.new.self in
    let sources = c.first_positions.ensures in
    let weights : AreWeights o.k o.r o.present table =
    subst (λ (p : List ℕ). AreWeights o.k o.r p table) c.as_slice.ensures.items
    c.weights-table.ensures in
    made_of_word o table (row_at made 0) c.requires c.row_len.ensures.rows weights
    (made_by o table c.factors_at-factors.result c.borrowed-rows.result made
    c.first_positions.result.now c.factors_at-factors.ensures c.borrowed-rows.ensures
    (sources.count ∙ sym c.requires.count)
    (λ i l. sources.positions i (omega (arith, l, c.requires.count)))
    c.set_sums.ensures.sums)
