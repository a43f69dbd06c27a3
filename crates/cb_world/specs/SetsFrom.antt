-- The sets from a number on, in order.
use Rattle.std.specs.Prelude.{◌≡◌, ℕ, ◌+◌, ◌≤◌, List, [], ◌∷◌}
use Rattle.std.specs.Ordering.{nat_cmp}
use Rattle.std.specs.FinMap as map
use Rattle.std.specs.FinMap.Entries.{find}
use Rattle.cb_world.specs.Sets.{Kept, SetMap}

-- the numbers ascend, from this one on
abbrev pub Ascend : {X : Type 0} → ℕ → List (ℕ × X) → Type 0
Ascend from [] = Unit {0}
Ascend from (e ∷ es) = (from ≤ e.0) × Ascend (e.0 + 1) es

-- these are the sets with a number from this one on, in the order of their numbers
pub record AreFrom (sets : SetMap) (from : ℕ) (rest : List (ℕ × Kept)) : Type 0 where
  pub ascend : Ascend from rest
  pub each : (j : ℕ) → from ≤ j → map.get sets j ≡ find nat_cmp j rest
