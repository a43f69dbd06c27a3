-- Which committed set comes next.
use Rattle.std.specs.Prelude.{◌≡◌, ℕ, ◌^◌, ◌<◌, Option, None, Some, IsSome}
use Rattle.cb_types.specs.declared.handle.SetId.{SetId}
use Rattle.cb_world.specs.Sets.{SetMap, set_in}

-- the number is above the set's, where there is one
abbrev pub Above : Option SetId → ℕ → Type 0
Above None id = Unit {0}
Above (Some set) id = set.n < id

-- the committed set with the least number above
pub record IsNextSet (after : Option SetId) (sets : SetMap) (id : ℕ) : Type 0 where
  pub above : Above after id
  pub committed : IsSome (set_in sets id)
  pub least : (j : ℕ) → Above after j → j < id → set_in sets j ≡ None

-- no committed set has a number above
abbrev pub AreNone : Option SetId → SetMap → Type 0
AreNone after sets = (id : ℕ) → id < 2 ^ 64 → Above after id → set_in sets id ≡ None
