-- What the walk over the sets finds.
use Rattle.std.specs.Prelude.{◌≡◌, ℕ, true, Option, None, Some, length}
use Rattle.cb_member.specs.Membership.{Membership}
use Rattle.cb_set.specs.SetState.{SetState}
use Rattle.cb_set.specs.Lost.{lost}
use Rattle.cb_world.specs.Sets.{set_in}
use Rattle.cb_world.specs.SetWord.{IsWeak, is_broken}
use Rattle.cb_world.specs.Surveyed.{gone_below}
use Rattle.cb_world.specs.FarState.{FarState}
use Rattle.cb_rebuild.specs.declared.finding.Found.{Found}
use Rattle.cb_rebuild.specs.declared.finding.Found.TheVariants as found
use Rattle.cb_rebuild.specs.declared.finding.Health.{Health}
use Rattle.cb_rebuild.specs.declared.finding.Health.TheVariants as health
use Rattle.cb_rebuild.specs.RebuildStep.{IsFirstWeak, gone_count}

-- how a set stands: it lost nothing, or what can be made again, or more than that
abbrev pub HasHealth : Membership → SetState → Health → Type 0
HasHealth m set health.Whole = length (lost m set.shards) ≡ 0
HasHealth m set health.Weak = IsWeak m set
HasHealth m set health.Gone = is_broken m set ≡ true

-- the same of a set that may not be there; it lost nothing then
abbrev pub HealthAt : Membership → Option SetState → Health → Type 0
HealthAt m None x = x ≡ health.Whole
HealthAt m (Some set) x = HasHealth m set x

-- 1 for a set that is gone
abbrev pub gone_number : Health → ℕ
gone_number health.Whole = 0
gone_number health.Weak = 0
gone_number health.Gone = 1

-- the first set that is weak and how many before it are gone, or that none is weak and how many are
-- gone
abbrev pub FindsWeak : FarState → Found → Type 0
FindsWeak far (found.Weak id gone) =
    ((set : SetState) × IsFirstWeak far id set) × (gone ≡ gone_below far id)
FindsWeak far (found.Whole gone) =
    ((id : ℕ) (set : SetState) → set_in far.sets id ≡ Some set → ¬ (IsWeak far.members set))
    × (gone ≡ gone_count far)

-- the far state once this is known of its sets
abbrev pub with_found : FarState → Found → FarState
with_found far (found.Weak id gone) = record far { survey = record { below = id; gone = gone; no_pair = None } }
with_found far (found.Whole gone) =
    record far { survey = record { below = far.counts.sets; gone = gone; no_pair = None } }
