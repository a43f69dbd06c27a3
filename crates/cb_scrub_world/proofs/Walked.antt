-- The walk to the next committed set.
use Rattle.std.proofs.Common.{◌≡◌, ℕ, ◌<◌, ◌≤◌, Option, None}
use Rattle.cb_types.specs.declared.handle.SetId.{SetId}
use Rattle.cb_world.specs.Sets.{SetMap, set_in}
use Rattle.cb_scrub_world.specs.Next.{Above}

-- the committed sets above and below this number were passed, and from it on all are above
pub record Passed (after : Option SetId) (sets : SetMap) (from : ℕ) : Type 0 where
  pub none : (j : ℕ) → Above after j → j < from → set_in sets j ≡ None
  pub above : (j : ℕ) → from ≤ j → Above after j
