use Rattle.std.proofs.Common.{◌≡◌, ◌+◌, length, get_or, set, take, sym, subst, arith}
use Rattle.std.proofs.lemmas.List.{get_or-take, length-take-le}
use Rattle.cb_gf256.specs.Corner.{corner}
use Rattle.cb_gf256.specs.Split.{Splits}
use Rattle.cb_gf256.proofs.PublicLaws.{split_of_same}
use Rattle.cb_erase.specs.Weights.{AreWeights}
use Rattle.cb_erase.proofs.Tables.{Filled, filled_none, filled_more}
use Rattle.cb_erase.proofs.Words.{filled_corner, weights_of}
use Rattle.cb_erase.proofs.weighing.weights.Goals as goal

pub loop-e-init : goal.loop-e-init
loop-e-init c =
    let table = c.unit_rows-table.ensures in
    filled_none c.args.present.now (take c.args.r c.lost_positions-positions.result) c.unit_rows-table.result table.height table.width table.units

pub loop-e-preserved : goal.loop-e-preserved
loop-e-preserved c =
    let k = c.args.k in
    let r = c.args.r in
    let present = c.args.present.now in
    let positions = c.lost_positions-positions.result in
    let count : length (take r positions) ≡ r = length-take-le r positions (omega (arith, c.lost_positions-positions.ensures.size, c.requires.in_range.parities_most)) in
    let split : Splits (k + r) k r (λ i. get_or present i 0) (λ e. get_or (take r positions) e 0) =
    split_of_same (k + r) k r (λ i. get_or present i 0) (λ e. get_or positions e 0) (λ e. get_or (take r positions) e 0) c.lost_positions-positions.ensures.split (λ e l. get_or-take r positions e 0 l) in
    subst (λ p. Filled present (take r positions) (set c.loop-e.table p c.factor_row.result) (c.loop-e.e + 1)) (sym c.from.ensures)
    (filled_more k r present (take r positions) c.loop-e.table c.loop-e.e c.factor_row.result (omega (arith, c.requires.in_range.data_most, c.requires.in_range.parities_most)) c.requires.positions.count count split (omega (arith, count)) c.loop-e.invariant c.factor_row.ensures.size c.factor_row.ensures.factors)

pub returns : goal.returns
returns c =
    let k = c.args.k in
    let r = c.args.r in
    let present = c.args.present.now in
    let positions = c.lost_positions-positions.result in
    let count : length (take r positions) ≡ r = length-take-le r positions (omega (arith, c.lost_positions-positions.ensures.size, c.requires.in_range.parities_most)) in
    let split : Splits (k + r) k r (λ i. get_or present i 0) (λ e. get_or (take r positions) e 0) =
    split_of_same (k + r) k r (λ i. get_or present i 0) (λ e. get_or positions e 0) (λ e. get_or (take r positions) e 0) c.lost_positions-positions.ensures.split (λ e l. get_or-take r positions e 0 l) in
    let all : c.loop-e.e ≡ r = omega (arith, count) in
    subst (AreWeights k r present) (sym c.of_table.ensures)
    (weights_of k r present (take r positions) (corner k (k + r) c.loop-e.table)
    (filled_corner k r present (take r positions) c.loop-e.table c.requires.in_range c.requires.positions count split (subst (Filled present (take r positions) c.loop-e.table) all c.loop-e.invariant)))
