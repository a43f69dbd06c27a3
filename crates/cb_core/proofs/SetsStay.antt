-- The sets beside one that is put or replaced.
use Rattle.std.proofs.Common.{◌≡◌, ◌≢◌, ℕ, Bool, false, cond, Some, ap, ◌∙◌, arith}
use Rattle.std.specs.FinMap as map
use Rattle.std.specs.Cmp.{nat_cmp_total}
use Rattle.std.specs.Ordering.{nat_cmp, eq_by_cmp}
use Rattle.std.proofs.lemmas.Bool.Decides.{nat_tests}
use Rattle.cb_world.specs.Sets.{Kept, SetMap, if_committed, set_in}

by_cmp-other : (q k : ℕ) → q ≢ k → eq_by_cmp nat_cmp q k ≡ false
by_cmp-other q k other = grind (arith, nat_tests)

pub others_stay : (sets : SetMap) (id k : ℕ) (kept : Kept) → k ≢ id
    → set_in (map.insert sets id kept) k ≡ set_in sets k
others_stay sets id k kept off = ap if_committed (map.get-insert nat_cmp_total sets id kept k
    ∙ ap (λ (b : Bool). cond b (Some kept) (map.get sets k)) (by_cmp-other k id off))
