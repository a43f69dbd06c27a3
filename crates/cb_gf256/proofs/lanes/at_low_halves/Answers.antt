use Rattle.std.proofs.Common.{◌≡◌, ℕ, ◌%◌, List, length, get_or, replicate, ◌∙◌, arith, bit_and}
use Rattle.std.proofs.lemmas.Nat.{and_mask}
use Rattle.std.specs.Simd.Lanes.{zip2}
use Rattle.cb_gf256.specs.Lanes.{HasLanes}
use Rattle.cb_gf256.proofs.LaneLemmas.{HasLanes-splat, SwzOk-halves, HasLanes-look_up}
use Rattle.cb_gf256.proofs.lanes.at_low_halves.Goals as goal

low : (v : List ℕ) → length v ≡ 64 → HasLanes (zip2 bit_and v (replicate 64 15)) (λ k. get_or v k 0 % 16)
low v long =
    let h = HasLanes-splat bit_and v 15 long in
    record { count = h.count; each = λ k l. h.each k l ∙ and_mask (get_or v k 0) 4 }

pub swizzle : goal.swizzle
swizzle c = SwzOk-halves _ _ (low c.args.block c.fits-block.0) (λ k l. omega arith)

pub returns : goal.returns
returns c = HasLanes-look_up _ _ (low c.args.block c.fits-block.0) (λ k l. omega arith) c.args.table c.spread.ensures
