use Rattle.std.proofs.Common.{slice_index}
use Rattle.cb_gf256.specs.Sum.{sum_over}
use Rattle.cb_gf256.specs.Product.{◌⊗◌}
use Rattle.cb_gf256.specs.Power.{power}
use Rattle.cb_gf256.specs.Lanes.{AreLanes}
use Rattle.cb_gf256.proofs.Halving.{named_power}
use Rattle.cb_gf256.proofs.products.multiplied.Given as goal

abbrev pub invariant-loop-bit : goal.invariant-loop-bit
invariant-loop-bit l =
    AreLanes 32 l.sum (λ x. sum_over l.bit (named_power l.c) ⊗ slice_index l.fn.bytes x)
    × AreLanes 32 l.doubling (λ x. power 2 l.bit ⊗ slice_index l.fn.bytes x)
