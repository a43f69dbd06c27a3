-- Which two sets can be merged into one.
use Rattle.std.specs.Prelude.{◌≡◌, ℕ, ◌+◌, ◌*◌, true, List, [], ◌∷◌, if◌then◌else◌, slice_index_or}
use Rattle.cb_member.specs.Membership.{Membership}
use Rattle.cb_set.specs.SetState.{SetState, PositionState, dead_position}
use Rattle.cb_set.specs.Lost.{IsWhole}

-- no place is live in both lists
abbrev pub PositionsApart : List PositionState → List PositionState → Type 0
PositionsApart xs ys =
    (k : ℕ) → (slice_index_or xs k dead_position).live ≡ true
    → (slice_index_or ys k dead_position).live ≡ true → ⊥

-- both sets are whole and of one length, and no data position is live in both
pub record IsMatched (m : Membership) (a b : SetState) : Type 0 where
  pub whole_a : IsWhole m a
  pub whole_b : IsWhole m b
  pub pages : b.pages ≡ a.pages
  pub apart : PositionsApart a.positions b.positions

-- the live positions as a number: bit p, the lowest first, is 1 where position p is live
abbrev pub live_mask : List PositionState → ℕ
live_mask [] = 0
live_mask (position ∷ positions) = live_mask positions * 2 + (if position.live then 1 else 0)
