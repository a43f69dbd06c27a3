use Rattle.std.proofs.Common.{◌≡◌, ℕ, ◌/◌, ◌^◌, ◌<◌, List, length, get_or, arith, w8, Fits}
use Rattle.std.specs.Simd.Lanes.{Each1}
use Rattle.cb_gf256.proofs.LaneLemmas.{HasLanes-splat, SwzOk-halves, HasLanes-look_up, lane_fits}
use Rattle.cb_gf256.proofs.lanes.at_high_halves.Goals as goal

small : (v : List ℕ) → length v ≡ 64 → Each1 (Fits w8) v → (k : ℕ) → k < 64 → get_or v k 0 / 16 < 16
small v long fits k l = omega (arith, lane_fits v long fits k l)

pub swizzle : goal.swizzle
swizzle c = SwzOk-halves _ _ (HasLanes-splat (λ a b. a / 2 ^ b) c.args.block 4 c.fits-block.0) (small c.args.block c.fits-block.0 c.fits-block.1)

pub returns : goal.returns
returns c = HasLanes-look_up _ _ (HasLanes-splat (λ a b. a / 2 ^ b) c.args.block 4 c.fits-block.0) (small c.args.block c.fits-block.0 c.fits-block.1) c.args.table c.spread.ensures
