-- A survey of the committed sets holds.
use Rattle.std.specs.Prelude.{◌≡◌, ℕ, ◌<◌, ◌≤◌, Some}
use Rattle.std.specs.List.{count_by, range_with_len}
use Rattle.cb_set.specs.SetState.{SetState}
use Rattle.cb_world.specs.declared.survey.Survey.{Survey}
use Rattle.cb_world.specs.Now.{broken_set}
use Rattle.cb_world.specs.Sets.{set_in}
use Rattle.cb_world.specs.SetWord.{IsWeak}
use Rattle.cb_world.specs.FarState.{FarState}

-- how many committed sets with a number below this one have lost more shards than they have
-- parities
abbrev pub gone_below : FarState → ℕ → ℕ
gone_below far n =
    count_by (λ id. broken_set far.members (set_in far.sets id)) (range_with_len 0 n)

-- the numbers below were drawn, none of their committed sets is weak, and so many of them are gone
pub record IsSurvey (far : FarState) (survey : Survey) : Type 0 where
  pub drawn : survey.below ≤ far.counts.sets
  pub none : (id : ℕ) (set : SetState) → id < survey.below → set_in far.sets id ≡ Some set
      → ¬ (IsWeak far.members set)
  pub counted : survey.gone ≡ gone_below far survey.below
