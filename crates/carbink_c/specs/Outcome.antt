-- How a call on a world ends, as a number.
use Rattle.std.specs.Prelude.{◌≡◌, ℕ, ◌+◌}
use Rattle.cb_types.specs.Config.{place}
use Rattle.carbink_c.specs.declared.outcome.Outcome.{Outcome}
use Rattle.carbink_c.specs.declared.outcome.Outcome.TheVariants.{Done, BadBuffer, NoMemory, NoWorld, HasWorld, BadVerb, BadSeat, BadArgument, BadSize}

-- the number by which C knows it
abbrev pub outcome_number : Outcome → ℕ
outcome_number Done = 0
outcome_number BadBuffer = 3
outcome_number NoMemory = 5
outcome_number NoWorld = 6
outcome_number HasWorld = 7
outcome_number BadVerb = 8
outcome_number BadSeat = 9
outcome_number BadArgument = 10
outcome_number (BadSize field) = 16 + place field

-- the number is that of an outcome with which a call may end
abbrev pub IsOutcomeOf : (Outcome → Type 0) → ℕ → Type 0
IsOutcomeOf ends n = (outcome : Outcome) × (n ≡ outcome_number outcome) × ends outcome
