-- Worked examples of the sets from a number on.
use Rattle.std.proofs.Common.{◌≡◌, cond, [], ◌∷◌, None, Some, sym, ap, ◌∙◌, arith}
use Rattle.std.specs.Ordering.{nat_cmp, eq_by_cmp}
use Rattle.std.specs.Cmp.{nat_cmp_total}
use Rattle.std.specs.FinMap as map
use Rattle.cb_world.specs.Sets.{Kept, SetMap}
use Rattle.cb_world.specs.SetsFrom.{AreFrom}
use Rattle.cb_world.proofs.SetWalk.{other_key}

-- the sets 1 and 3
abbrev no_sets : SetMap
no_sets = map.empty

abbrev set_one : Kept → SetMap
set_one k = map.insert no_sets 1 k

abbrev two_sets : Kept → SetMap
two_sets k = map.insert (set_one k) 3 k

from_two : (k : Kept) → AreFrom (two_sets k) 2 ((3, k) ∷ [])
from_two k = record {
  ascend = (omega arith, tt);
  each = λ j low. map.get-insert nat_cmp_total (set_one k) 3 k j
      ∙ ap (cond (eq_by_cmp nat_cmp j 3) (Some k)) (map.get-insert nat_cmp_total no_sets 1 k j
      ∙ ap (λ b. cond b (Some k) (map.get no_sets j)) (other_key j 1 (λ e. omega (arith, e, low)))
      ∙ map.get-empty nat_cmp j);
}

no_set : (k : Kept) → Some k ≡ None → ⊥
no_set k e = cc

-- one is left out
left_out : (k : Kept) → AreFrom (two_sets k) 2 [] → ⊥
left_out k x = no_set k (sym (map.get-insert nat_cmp_total (set_one k) 3 k 3) ∙ x.each 3
    (omega arith))

-- one has a lesser number
too_early : (k : Kept) → AreFrom (two_sets k) 2 ((1, k) ∷ (3, k) ∷ []) → ⊥
too_early k x = let l = x.ascend.0 in omega (arith, l)

-- one comes twice
twice : (k : Kept) → AreFrom (two_sets k) 2 ((3, k) ∷ (3, k) ∷ []) → ⊥
twice k x = let l = x.ascend.1.0 in omega (arith, l)
