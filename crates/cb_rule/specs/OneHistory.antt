-- What stands of the lock, the slot of the far state and the turns of all views, between any two
-- steps.
use Rattle.std.specs.Prelude.{◌≡◌, ◌⊎◌, ℕ, ◌+◌, ◌*◌, ◌^◌, ◌<◌, ◌≤◌, List, Some, slice_index}
use mathlib.Core.Option.{some}
use lib.ListN.{get_elem?}
use Rattle.cb_types.specs.declared.config.Config.{Config}
use Rattle.cb_world.specs.Empty.{empty_far, empty_shown}
use Rattle.cb_world.specs.FarState.{FarState}
use Rattle.cb_world.specs.Orders.{KeepsOrder}
use Rattle.cb_rule.specs.declared.turn.Turn.{Turn}
use Rattle.cb_rule.specs.declared.view.View.{View}
use Rattle.cb_rule.specs.Lists.{total, Has}
use Rattle.cb_rule.specs.Locking.{Deeds, Stood, left_known, turn_number, turns_on}
use Rattle.cb_rule.specs.Promised.{Is}
use Rattle.cb_rule.specs.Seats.{holding}
use Rattle.cb_rule.specs.Slot.{Table}

-- the turn stands in a view
abbrev pub Made : List View → Turn → Type 0
Made views t = (u : View) × Is views u × Has t u.turns

-- one of the counted turns; or it was refused after 2^40 of them, and gave what it took
abbrev pub HasTurnNumber : ℕ → Turn → Type 0
HasTurnNumber count t = (turn_number t < count)
    ⊎ ((turn_number t ≡ 2 ^ 40) × (count ≡ 2 ^ 40) × (t.gave ≡ t.took))

-- So many turns are counted, and led from the empty world to this far state: each number stands
-- once, the first turn took the empty world's, each other one what the one before it gave, and the
-- last one gave this. Each took one that was sound for what it knew when it began, and that kept
-- its seat's order: nothing for the first turn, and for each other one what the one before it left.
-- Makes have one first version in all of them.
pub record IsOneHistory (deeds : Deeds) (first : ℕ) (c : Config) (views : List View) (count : ℕ)
    (last : FarState) : Type 0 where
  pub counted : last.counts.turns ≡ count
  pub once : (k : ℕ) → k < count → total (turns_on k) views ≡ 1
  pub none : count ≡ 0 → last ≡ empty_far first c
  pub begins : (t : Turn) → Made views t → turn_number t ≡ 0 → t.took ≡ empty_far first c
  pub follows : (t u : Turn) → Made views t → Made views u → turn_number u ≡ turn_number t + 1
      → u.took ≡ t.gave
  pub ends : (t : Turn) → Made views t → turn_number t + 1 ≡ count → t.gave ≡ last
  pub numbers : (t : Turn) → Made views t → HasTurnNumber count t
  pub unknown : (t : Turn) → Made views t → turn_number t ≡ 0 → t.start ≡ empty_shown first c
  pub knows : (t u : Turn) → Made views t → Made views u → turn_number u ≡ turn_number t + 1
      → turn_number u < 2 ^ 40 → u.start ≡ left_known t
  pub sound : (t : Turn) → Made views t → Stood c t.start t.took
  pub starts : (t : Turn) → Made views t → t.gave.first ≡ first
  pub kept : (t : Turn) → Made views t → KeepsOrder t.start t.took t.order
  pub did : (t : Turn) → Made views t → deeds c t

-- No seat holds the lock: its word is twice the count, and the slot has the last far state.
pub record IsLockFree (deeds : Deeds) (first : ℕ) (c : Config) (s : Table) : Type 0 where
  pub count : ℕ
  pub last : FarState
  pub word : slice_index s.words 0 ≡ 2 * count
  pub home : get_elem? s.homes 0 ≡ some (some (Some last))
  pub history : IsOneHistory deeds first c s.views count last

-- One seat at most holds the lock. Its word is 1 while one does, and else the turns are one
-- history.
pub record TurnsStand (deeds : Deeds) (first : ℕ) (c : Config) (s : Table) : Type 0 where
  pub one : total holding s.views ≤ 1
  pub held : total holding s.views ≡ 1 → slice_index s.words 0 ≡ 1
  pub free : total holding s.views ≡ 0 → IsLockFree deeds first c s
