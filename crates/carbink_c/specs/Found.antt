-- What an examination found, as C sees it.
use Rattle.std.specs.Prelude.{◌≡◌, ℕ, ◌≤◌, List}
use Rattle.cb_scrub.specs.declared.found.Found.{Found}
use Rattle.cb_scrub.specs.declared.found.Found.TheVariants.{Clean, One, Many}
use Rattle.cb_scrub.specs.Finds.{IsFinding, IsMended}
use Rattle.cb_scrub.specs.Wrong.{IsWordBut}
use Rattle.carbink_c.specs.declared.examining.CarbinkFound.{CarbinkFound}

-- what an examination of these rows finds, and nothing else
pub record IsOnlyFinding (r : ℕ) (rows : List (List ℕ)) (found : Found) : Type 0 where
  pub finding : IsFinding r rows found
  pub only : (other : Found) → IsFinding r rows other → other ≡ found
  pub near : (position : ℕ) (word : List (List ℕ)) → 2 ≤ r
      → IsWordBut r rows position word → IsMended rows position word found

-- a finding as C sees it: its kind, and 0 for what is not told of that kind
abbrev pub told_found : Found → CarbinkFound
told_found Clean = record { kind = 0; position = 0; power = 0; column = 0; sum = 0 }
told_found (One at) = record { kind = 1; position = at; power = 0; column = 0; sum = 0 }
told_found (Many j at s) = record { kind = 2; position = 0; power = j; column = at; sum = s }

-- the one finding of these rows is told
abbrev pub TellsFound : ℕ → List (List ℕ) → CarbinkFound → Type 0
TellsFound r rows told = (found : Found) × (told ≡ told_found found) × IsOnlyFinding r rows found
