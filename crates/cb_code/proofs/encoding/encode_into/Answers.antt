use Rattle.std.proofs.Common.{ℕ, length, subst, sym, refl, ◌∙◌, arith}
use Rattle.cb_gf256.specs.Block.{cut_rows}
use Rattle.cb_gf256.specs.Combination.{AreCombinations}
use Rattle.cb_gf256.specs.Rows.{row_at}
use Rattle.cb_gf256.proofs.PublicLaws.{cut_count}
use Rattle.cb_code.proofs.Tables.{fits, only_coded, combinations_of_all}
use Rattle.cb_code.proofs.encoding.encode_into.Goals as goal

pub returns-clause-sums : goal.returns-clause-sums
returns-clause-sums c =
    let rows = c.args.rows.now in
    let made = λ (n : ℕ). cut_rows n (length (row_at rows 0)) c.set_sums_in.new.block in
    let r = c.parities-r.result in
    let count = cut_count r (length (row_at rows 0)) c.set_sums_in.new.block in
    subst (λ n. AreCombinations c.args.c.now rows (made n)) c.parities-r.ensures.count
    (combinations_of_all c.args.c.now c.factors.result.now rows (made r) c.first_positions.result.now c.first_positions-2.result.now
    (sym c.factors.ensures)
    (c.first_positions.ensures.count ∙ sym count)
    (λ i h. c.first_positions.ensures.positions i (omega (arith, count)))
    (c.first_positions-2.ensures.count ∙ c.count-k.ensures)
    (λ i h. c.first_positions-2.ensures.positions i (omega (arith, c.count-k.ensures)))
    c.set_sums_in.ensures.sums)

pub returns-clause-word : goal.returns-clause-word
returns-clause-word c =
    let fit = fits c.args.c.now c.args.rows.now c.parities-r.ensures.coefficients c.parities-r.ensures.in_range c.requires.width in
    fit.0.make_words c.args.rows.now _ refl c.row_len.ensures.rows (returns-clause-sums c)

pub returns-clause-only : goal.returns-clause-only
returns-clause-only c others bytes word =
    let fit = fits c.args.c.now c.args.rows.now c.parities-r.ensures.coefficients c.parities-r.ensures.in_range c.requires.width in
    only_coded c.args.c.now c.args.rows.now _ others fit.0 fit.1 c.row_len.ensures.rows (returns-clause-sums c) bytes word
