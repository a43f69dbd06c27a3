-- What is known of how the committed sets stand, at the start, once a set is dropped and after a
-- crash.
use Rattle.std.specs.Prelude.{ℕ, ◌-◌, ◌&&◌, Bool, nat_eq, nat_lt, None, if◌then◌else◌}
use Rattle.cb_world.specs.declared.survey.Survey.{Survey}

-- nothing is known of any set
abbrev pub no_survey : Survey
no_survey = record { below = 0; gone = 0; no_pair = None }

-- the set of a number is dropped, which was broken or not: where it was counted it is no more
abbrev pub survey_without : Survey → ℕ → Bool → Survey
survey_without survey id broken =
    if nat_lt id survey.below && broken then record survey { gone = survey.gone - 1 } else survey

-- a node that held so many rows crashed: where it held none, each set stands as it did, and else
-- nothing is known
abbrev pub survey_after_crash : Survey → ℕ → Survey
survey_after_crash survey rows = if nat_eq rows 0 then survey else no_survey
