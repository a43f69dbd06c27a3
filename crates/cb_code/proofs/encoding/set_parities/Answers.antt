use Rattle.std.proofs.Common.{◌≡◌, length, sym, refl, ◌∙◌, arith}
use Rattle.cb_code.proofs.Tables.{fits, only_coded, combinations_of_all}
use Rattle.cb_code.proofs.encoding.set_parities.Goals as goal

pub returns-clause-sums : goal.returns-clause-sums
returns-clause-sums c =
    let count : length c.set_sums.new.self ≡ c.parities-r.result =
    c.set_sums.ensures.count ∙ c.requires.count ∙ sym c.parities-r.ensures.count in
    combinations_of_all c.args.c.now c.factors.result.now c.args.rows.now c.set_sums.new.self
    c.first_positions.result.now c.first_positions-2.result.now
    (sym c.factors.ensures)
    (c.first_positions.ensures.count ∙ sym count)
    (λ i h. c.first_positions.ensures.positions i (omega (arith, count)))
    (c.first_positions-2.ensures.count ∙ c.count-k.ensures)
    (λ i h. c.first_positions-2.ensures.positions i (omega (arith, c.count-k.ensures)))
    c.set_sums.ensures.sums

pub returns-clause-word : goal.returns-clause-word
returns-clause-word c =
    let fit = fits c.args.c.now c.args.rows.now c.parities-r.ensures.coefficients
    c.parities-r.ensures.in_range c.requires.width in
    fit.0.make_words c.args.rows.now c.set_sums.new.self refl c.row_len.ensures.rows
    (returns-clause-sums c)

pub returns-clause-only : goal.returns-clause-only
returns-clause-only c others bytes word =
    let fit = fits c.args.c.now c.args.rows.now c.parities-r.ensures.coefficients
    c.parities-r.ensures.in_range c.requires.width in
    only_coded c.args.c.now c.args.rows.now c.set_sums.new.self others fit.0 fit.1
    c.row_len.ensures.rows (returns-clause-sums c) bytes word
