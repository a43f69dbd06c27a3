use Rattle.std.proofs.Common.{◌≡◌, ℕ, ◌+◌, ◌*◌, ◌<◌, ◌≤◌}
use Rattle.cb_gf256.specs.Product.{◌⊗◌}
use Rattle.cb_gf256.specs.Power.{power}
use Rattle.cb_gf256.specs.CodeWord.{syndrome}
use Rattle.cb_scrub.proofs.fitting.block_fits.Given as goal

abbrev pub invariant-loop-j : goal.invariant-loop-j
invariant-loop-j l =
    (x m : ℕ) → x < 64 → 1 ≤ m → m < l.j
    → syndrome m l.rows (l.at + x) ≡ power 2 (l.position * m) ⊗ syndrome 0 l.rows (l.at + x)
