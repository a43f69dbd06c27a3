use Rattle.std.proofs.Common.{◌+◌, ◌/◌, get_or, ap, ◌∙◌}
use Rattle.std.proofs.lemmas.Nat.{and_mask}
use Rattle.cb_gf256.specs.Sum.{◌⊕◌}
use Rattle.cb_gf256.specs.Product.{◌⊗◌}
use Rattle.cb_gf256.proofs.Halving.{looked_up}
use Rattle.cb_gf256.proofs.products.Products.times.Goals as goal

pub returns : goal.returns
returns c =
    let halves = c.self.inside.halves in
    let x = c.args.x in
    ap (λ n. get_or halves n 0 ⊕ get_or halves (16 + x / 16) 0) (and_mask x 4)
    ∙ looked_up (get_or halves 1 0) x halves c.self.invariant c.ranges.x.fits
    ∙ ap (λ a. a ⊗ x) c.self.view_is
