-- The far lock, the far state in its slot, and the one history of all turns.
use Rattle.std.specs.Prelude.{◌≡◌, ◌⊎◌, ℕ, zero, suc, ◌+◌, ◌*◌, ◌^◌, ◌<◌, ◌≤◌, Bool, true, eqb}
use Rattle.std.specs.Prelude.{Some, length, slice_index}
use mathlib.Core.Option.{some}
use lib.ListN.{get_elem?}
use Rattle.cb_types.specs.declared.config.Config.{Config}
use Rattle.cb_world.specs.declared.shown.Shown.{Shown}
use Rattle.cb_world.specs.Empty.{empty_far, empty_shown}
use Rattle.cb_world.specs.FarState.{FarState}
use Rattle.cb_world.specs.Orders.{KeepsOrder}
use Rattle.cb_world.specs.Played.{played}
use Rattle.cb_world.specs.Sound.{Sound}
use Rattle.cb_world.specs.World.{AreCounted, IsConfigured}
use Rattle.cb_rule.specs.declared.turn.Turn.{Turn}
use Rattle.cb_rule.specs.declared.view.View.{View}
use Rattle.cb_rule.specs.Lists.{times, total, Each}
use Rattle.cb_rule.specs.Seats.{holding}
use Rattle.cb_rule.specs.Slot.{Table}

-- what a turn did, as the crate that runs it says
abbrev pub Deeds : Type 1
Deeds = Config → Turn → Type 0

-- what is known is sound for the far state
pub record Stood (c : Config) (known : Shown) (far : FarState) : Type 0 where
  pub sound : Sound known far
  pub configured : IsConfigured c far
  pub counted : AreCounted far

-- a turn has the number of those that were counted before it
abbrev pub turn_number : Turn → ℕ
turn_number t = t.took.counts.turns

abbrev pub is_turn : ℕ → Turn → Bool
is_turn k t = eqb (turn_number t) k

-- how many turns of this number stand in a view
abbrev pub turns_on : ℕ → View → ℕ
turns_on k v = times (is_turn k) v.turns

-- Far states by how many turns were counted, and how many are counted now: the turn took the one of
-- its number, which was sound for what it knew when it began and kept its seat's order, and gave the
-- next. One that was refused after 2^40 turns gave what it took.
pub record TurnStands (deeds : Deeds) (c : Config) (count : ℕ) (chain : ℕ → FarState) (t : Turn)
    : Type 0 where
  pub took : t.took ≡ chain (turn_number t)
  pub stood : Stood c t.start t.took
  pub gave : ((turn_number t < count) × (t.gave ≡ chain (turn_number t + 1)))
      ⊎ ((turn_number t ≡ 2 ^ 40) × (count ≡ 2 ^ 40) × (t.gave ≡ t.took))
  pub kept : KeepsOrder t.start t.took t.order
  pub did : deeds c t

-- what a turn left known: what it knew when it began, after its events
abbrev pub left_known : Turn → Shown
left_known t = played t.acts t.start

-- What was known when so many turns had ended: the turn knew it when it began, and left what the next
-- one knows. Turns after the first 2^40 are not numbered.
pub record IsHandedOn (knew : ℕ → Shown) (t : Turn) : Type 0 where
  pub began : turn_number t < 2 ^ 40 → t.start ≡ knew (turn_number t)
  pub left : turn_number t + 1 < 2 ^ 40 → left_known t ≡ knew (turn_number t + 1)

-- how many entries the history had when so many turns had ended, by how many it had at the end of
-- the turn of each number
abbrev pub when_ended : (ℕ → ℕ) → ℕ → ℕ
when_ended ends zero = 0
when_ended ends (suc n) = ends n

-- The turn began when the one before it had ended, and ended as is said of its number.
pub record IsTimed (count : ℕ) (ends : ℕ → ℕ) (t : Turn) : Type 0 where
  pub began : when_ended ends (turn_number t) ≤ t.since
  pub ended : turn_number t < count → t.until ≡ ends (turn_number t)

-- No seat holds the lock: its word is twice the count of turns, the far state is in its slot, and
-- what would be known if it were taken now is sound for it.
pub record IsUnlocked (c : Config) (s : Table) (known : Shown) (count : ℕ) (far : FarState)
    : Type 0 where
  pub word : slice_index s.words 0 ≡ 2 * count
  pub home : get_elem? s.homes 0 ≡ some (some (Some far))
  pub stood : Stood c known far

-- The lock, and the far states by how many turns were counted, from that of the empty world to the
-- last. While a seat holds the lock its word is 1.
pub record Locked (deeds : Deeds) (c : Config) (s : Table) (known : Shown) : Type 0 where
  pub count : ℕ
  pub chain : ℕ → FarState
  pub empty : chain 0 ≡ empty_far known.first c
  pub reached : (chain count).counts.turns ≡ count
  -- makes gave one first version
  pub starts : (i : ℕ) → i ≤ count → (chain i).first ≡ known.first
  pub free : total holding s.views ≡ 0 → IsUnlocked c s known count (chain count)
  pub held : 0 < total holding s.views → slice_index s.words 0 ≡ 1
  pub deep : 0 < length s.homes
  pub takers : (j : ℕ) (u : View) → get_elem? s.views j ≡ some u → u.holds ≡ true
      → u.took ≡ chain count
  pub began : (j : ℕ) (u : View) → get_elem? s.views j ≡ some u → u.holds ≡ true
      → Stood c u.start u.took
  -- each order that a view keeps is kept: by the far state in its slot and what would be known, or by
  -- those with which the holder's turn began
  pub resting : total holding s.views ≡ 0 → (j : ℕ) (u : View) → get_elem? s.views j ≡ some u
      → KeepsOrder known (chain count) u.order
  pub waiting : (i : ℕ) (v : View) → get_elem? s.views i ≡ some v → v.holds ≡ true
      → (j : ℕ) (u : View) → get_elem? s.views j ≡ some u → KeepsOrder v.start v.took u.order
  pub turns : (j : ℕ) (u : View) → get_elem? s.views j ≡ some u
      → Each (TurnStands deeds c count chain) u.turns
  -- each counted turn stands in one view, once
  pub once : (k : ℕ) → k < count → total (turns_on k) s.views ≡ 1
  -- a turn had ended when the next one began, and all had when that of the holder began
  pub ends : ℕ → ℕ
  pub knew : ℕ → Shown
  -- nothing was known of any object at first, and nobody changes what is known but in a turn
  pub unknown : knew 0 ≡ empty_shown known.first c
  pub known_now : total holding s.views ≡ 0 → count < 2 ^ 40 → known ≡ knew count
  pub known_then : (j : ℕ) (u : View) → get_elem? s.views j ≡ some u → u.holds ≡ true
      → count < 2 ^ 40 → u.start ≡ knew count
  pub handed : (j : ℕ) (u : View) → get_elem? s.views j ≡ some u → Each (IsHandedOn knew) u.turns
  pub timed : (j : ℕ) (u : View) → get_elem? s.views j ≡ some u → Each (IsTimed count ends) u.turns
  pub runs : (j : ℕ) (u : View) → get_elem? s.views j ≡ some u → u.holds ≡ true
      → when_ended ends count ≤ u.since
