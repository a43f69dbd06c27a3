-- The span-sets by their numbers.
use Rattle.std.specs.Prelude.{ℕ, Bool, Option, None, Some, refl, if◌then◌else◌}
use Rattle.std.specs.Coded.{Coded, code_by, coded×, coded_ℕ, coded_bool}
use Rattle.std.specs.Ordering.{nat_cmp}
use Rattle.std.specs.FinMap as map
use Rattle.cb_set.specs.SetState.{SetState, set_code}

-- a set, and whether it is committed: that of a batch which is leaving is kept before its commit
pub record Kept : Type 0 where
  pub set : SetState
  pub committed : Bool

abbrev pub kept_code : Coded Kept
kept_code = code_by (SetState × Bool) (coded× set_code coded_bool)
    (λ k. (k.set, k.committed)) (λ p. record { set = p.0; committed = p.1 }) (λ _. refl)

-- the kept sets, by number
abbrev pub SetMap : Type 0
SetMap = map.FinMap nat_cmp Kept

abbrev pub sets_code : Coded SetMap
sets_code = map.code coded_ℕ kept_code

-- the set, where it is committed
abbrev pub if_committed : Option Kept → Option SetState
if_committed None = None
if_committed (Some kept) = if kept.committed then Some kept.set else None

-- the committed set of that number
abbrev pub set_in : SetMap → ℕ → Option SetState
set_in sets id = if_committed (map.get sets id)
