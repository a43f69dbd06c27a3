-- Worked examples of what stands at a table between any two steps: what meets the definition, and what
-- breaks one part alone.
use Rattle.std.proofs.Common.{◌≡◌, ◌*◌, ◌≤◌, [], ◌∷◌, Some, replicate, refl, sym, inl, lit≤, arith}
use mathlib.Core.Option.{Option as Maybe, none, some, some-injective, some-ne-none}
use Rattle.atomic_table.specs.Table.{opening}
use Rattle.cb_types.specs.declared.job.Job.TheVariants as job
use Rattle.cb_world.specs.Empty.{empty_far}
use Rattle.cb_world.specs.FarState.{FarState}
use Rattle.cb_rule.specs.declared.view.View.{View}
use Rattle.cb_rule.specs.Slot.{LockSlot, Table}
use Rattle.cb_rule.specs.Steps.{opener}
use Rattle.cb_rule.proofs.Laws.{opens}
use Rattle.cb_shared.specs.Standing.{StandsNow}
use Rattle.cb_shared.specs.Turning.{Did}
use Rattle.cb_shared.proofs.Begun.{zeros_at}
use Rattle.cb_shared.proofs.Standing.{table_stands}
use Rattle.cb_shared.proofs.WorkedGround.{two}
use Rattle.cb_shared.proofs.WorkedTurns.{worn_turn}
use Rattle.cb_shared.proofs.WorkedUnder.{accepted}

-- ---- the table of a runtime that has just begun
abbrev begun : Table
begun = opening (replicate 517 0) (Some (empty_far 3 two) ∷ []) (opener two)

stands_at_first : StandsNow 3 two begun
stands_at_first = table_stands (record { config = two; first = 3 }) begun
    (opens 3 (lit≤ tt) two (replicate 517 0) refl (λ i. zeros_at (replicate 517 0) 517 0 i refl)
    Did accepted)

-- two passes have the whole share
two_have_all : StandsNow 3 two record begun { views = opener two ∷ opener two ∷ [] } → ⊥
two_have_all s = let e : 128 ≡ 64 = s.words.shares.whole in omega (arith, e)

-- the lock's word is odd, though no pass has the lock
odd_and_free : StandsNow 3 two record begun { words = 1 ∷ replicate 516 0 } → ⊥
odd_and_free s = let f = s.turns.free refl in let e : 1 ≡ 2 * f.count = f.word in omega (arith, e)

-- a turn ended before it began
abbrev hasty : View
hasty = record (opener two) { turns = record (worn_turn job.Evict) { since = 1; until = 0 } ∷ [] }

ended_too_early : StandsNow 3 two record begun { views = hasty ∷ [] } → ⊥
ended_too_early s = let e : 1 ≤ 0 = (s.told.told _ (hasty, (0, refl), inl refl)).lasted in
    omega (arith, e)

-- the slot is empty, though no pass has the lock
abbrev empty_slot : Maybe (Maybe LockSlot)
empty_slot = some none

nothing_at_home : StandsNow 3 two record begun { homes = none ∷ [] } → ⊥
nothing_at_home s = none_there (s.world refl).0 (s.world refl).1.home
  where
    none_there : (far : FarState) → empty_slot ≡ some (some (Some far)) → ⊥
    none_there far e = some-ne-none (Some far) (sym (some-injective none (some (Some far)) e))
