use Rattle.std.proofs.Common.{◌≡◌, slice_index}
use Rattle.cb_gf256.specs.Lagrange.{differences, points}
use Rattle.cb_gf256.proofs.lagrange.product_of_differences.Given as goal

abbrev pub invariant-loop-m : goal.invariant-loop-m
invariant-loop-m l = l.product ≡ differences l.m (points (λ m. slice_index l.lost m)) l.e l.x
