use Rattle.std.proofs.Common.{◌≡◌, ℕ, ◌+◌, ◌%◌, ◌^◌, leb, cond, get_or, List, length, map, replicate, sym, subst, ◌∙◌, w8, ap₂}
use Rattle.std.specs.Simd.Lanes.{zip2, sel_l, top}
use Rattle.std.proofs.lemmas.Simd.{tops_compared}
use Rattle.cb_gf256.specs.Sum.{◌⊕◌}
use Rattle.cb_gf256.specs.Lanes.{AreLanes}
use Rattle.cb_gf256.proofs.LaneLemmas.{HasLanes-zip2, HasLanes-select, lane_fits}
use Rattle.cb_gf256.proofs.Halving.{doubled_byte}
use Rattle.cb_gf256.proofs.lanes.doubled.Goals as goal

taken_out : (v : List ℕ) → length v ≡ 32 → AreLanes 32 (sel_l (map (top 7) (zip2 (λ a b. cond (leb a b) 255 0) (replicate 32 128) v)) (replicate 32 29) (replicate 32 0)) (λ l. cond (leb 128 (get_or v l 0)) 29 0)
taken_out v long =
    subst (λ ms. AreLanes 32 (sel_l ms (replicate 32 29) (replicate 32 0)) (λ l. cond (leb 128 (get_or v l 0)) 29 0))
    (sym (tops_compared w8 leb (replicate 32 128) v)) (HasLanes-select leb v 128 29 0 long)

pub returns : goal.returns
returns c =
    let v = c.args.bytes in
    let long = c.fits-bytes.0 in
    let out = taken_out v long in
    let twice = HasLanes-zip2 (λ a b. (a + b) % 2 ^ 8) v v long long in
    let both = HasLanes-zip2 (λ a b. a ⊕ b) _ _ twice.count out.count in
    record {
      count = both.count;
      each = λ k l.
          both.each k l ∙ ap₂ ◌⊕◌ (twice.each k l) (out.each k l) ∙ doubled_byte (get_or v k 0) (lane_fits v long c.fits-bytes.1 k l);
    }
