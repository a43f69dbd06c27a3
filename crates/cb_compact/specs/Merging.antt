-- How the merged set is made.
use Rattle.std.specs.Prelude.{◌≡◌, ℕ, ◌<◌, List, length, is_some, if◌then◌else◌}
use Rattle.std.specs.List.{list_any}
use Rattle.cb_member.specs.declared.names.Shard.{Shard}
use Rattle.cb_set.specs.SetState.{PositionState, SetState, live_at, position_of}
use Rattle.cb_world.specs.declared.shown.Shown.{Shown}
use Rattle.cb_world.specs.FarState.{FarState}
use Rattle.cb_world.specs.FarSound.{FarSound}
use Rattle.cb_world.specs.Joining.{JoiningState}
use Rattle.cb_compact.specs.PartStep.{IsFreshPair}
use Rattle.cb_compact.specs.PatchStep.{AreDone}

-- a position is live exactly where its slot table names an object
abbrev pub AreSlotTables : SetState → Type 0
AreSlotTables set = (p : ℕ)
    → live_at set p ≡ list_any (λ slot. is_some slot) (position_of set p).slots

-- what the merged set holds at a position: what b does where b is live there, and else what a does
abbrev pub chosen_position : SetState → SetState → ℕ → PositionState
chosen_position a b p = if live_at b p then position_of b p else position_of a p

-- the set has spans of so many pages, these shards and as many positions as a, and the first n of
-- them are the merged set's
pub record IsFilledBelow (id pages : ℕ) (shards : List Shard) (a b : SetState) (n : ℕ)
    (set : SetState) : Type 0 where
  pub name : set.id ≡ id
  pub long : set.pages ≡ pages
  pub shards_are : set.shards ≡ shards
  pub count : length set.positions ≡ length a.positions
  pub filled : (p : ℕ) → p < n → position_of set p ≡ chosen_position a b p

-- the pair can be committed: the far part is sound, both sets stand as they did, and each step
-- is done
pub record IsReadyToMerge (s : Shown) (far : FarState) (pair : JoiningState) (a b : SetState) :
    Type 0
  where
    pub sound : FarSound s far
    pub fresh : IsFreshPair far pair a b
    pub done : AreDone pair (length a.positions)
