use Rattle.std.proofs.Common.{◌*◌, length, ap, sym, refl, ◌∙◌}
use Rattle.carbink_c.proofs.Making.{as_long, wide_enough, parities_put}
use Rattle.carbink_c.proofs.parities.put_parities.Goals as goal

pub encode_into-requires-clause-width : goal.encode_into-requires-clause-width
encode_into-requires-clause-width c =
    wide_enough c.args.k c.args.len c.args.given.now c.args.code.now c.of-rows.result
    (record { wide = c.requires.wide; coefficients = c.parities.ensures.coefficients; in_range = c.parities.ensures.in_range; sized = c.requires.given; are = c.of-rows.ensures })

pub encode_into-requires-clause-size : goal.encode_into-requires-clause-size
encode_into-requires-clause-size c =
    c.requires.parities
    ∙ ap (λ n. length c.args.code.now * n)
    (sym (as_long c.args.k c.args.len c.args.given.now c.args.code.now c.of-rows.result
    (record { wide = c.requires.wide; coefficients = c.parities.ensures.coefficients; in_range = c.parities.ensures.in_range; sized = c.requires.given; are = c.of-rows.ensures })))

pub returns : goal.returns
returns c =
    parities_put c.args.k c.args.len c.args.given.now c.args.code.now c.of-rows.result
    (record { wide = c.requires.wide; coefficients = c.parities.ensures.coefficients; in_range = c.parities.ensures.in_range; sized = c.requires.given; are = c.of-rows.ensures })
    _ c.encode_into.new.block refl c.encode_into.ensures.sums c.encode_into.ensures.word c.encode_into.ensures.only
