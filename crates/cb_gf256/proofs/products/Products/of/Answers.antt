use Rattle.std.proofs.Common.{subst, sym}
use Rattle.cb_gf256.specs.Halves.{AreHalfProducts}
use Rattle.cb_gf256.proofs.Halving.{half_products_of, entry_of_one}
use Rattle.cb_gf256.proofs.products.Products.of.Goals as goal

pub invariant_of-result : goal.invariant_of-result
invariant_of-result c =
    let halves = c.multiplied-halves.result in
    let made = half_products_of c.args.c halves c.ranges.c.fits c.multiplied-halves.ensures in
    subst (λ x. AreHalfProducts x halves) (sym (entry_of_one c.args.c halves made)) made

pub returns : goal.returns
returns c = entry_of_one c.args.c c.multiplied-halves.result (half_products_of c.args.c c.multiplied-halves.result c.ranges.c.fits c.multiplied-halves.ensures)
