-- A span-set: its number, the shard of each position, and what each data position holds.
use Rattle.std.specs.Prelude.{◌≡◌, ℕ, ◌-◌, ◌^◌, ◌<◌, ◌≤◌, Bool, length, false, None, Some, Option, List, [], if◌then◌else◌, replicate, is_some, refl, slice_index_or, slice_set}
use Rattle.std.specs.List.{list_any}
use Rattle.std.specs.Coded.{Coded, code_by, coded×, coded_bool, coded_list, coded_option, coded_ℕ}
use Rattle.cb_member.specs.declared.names.Code.{Code}
use Rattle.cb_member.specs.declared.names.Shard.{Shard}

-- A data position: whether it is live, and its span's slot table, with a handle at each taken slot.
pub record PositionState : Type 0 where
  pub live : Bool
  pub slots : List (Option ℕ)

-- The pages are those of each of its spans, and so of each of its rows. The shards are those of the
-- data positions and then those of the parities.
pub record SetState : Type 0 where
  pub id : ℕ
  pub pages : ℕ
  pub shards : List Shard
  pub positions : List PositionState

-- a position is stored as its flag and its slot table
abbrev pub position_code : Coded PositionState
position_code =
    code_by (Bool × List (Option ℕ)) (coded× coded_bool (coded_list (coded_option coded_ℕ)))
    (λ p. (p.live, p.slots)) (λ p. record { live = p.0; slots = p.1 }) (λ _. refl)

-- a shard is stored as its three numbers
abbrev pub shard_code : Coded Shard
shard_code =
    code_by (ℕ × (ℕ × ℕ)) (coded× coded_ℕ (coded× coded_ℕ coded_ℕ))
    (λ s. (s.node.n, (s.incarnation, s.key)))
    (λ p. record { node = record { n = p.0 }; incarnation = p.1.0; key = p.1.1 }) (λ _. refl)

-- a set is stored as these four
abbrev pub set_code : Coded SetState
set_code =
    code_by (ℕ × (ℕ × (List Shard × List PositionState)))
    (coded× coded_ℕ (coded× coded_ℕ (coded× (coded_list shard_code) (coded_list position_code))))
    (λ s. (s.id, (s.pages, (s.shards, s.positions))))
    (λ p. record { id = p.0; pages = p.1.0; shards = p.1.1.0; positions = p.1.1.1 }) (λ _. refl)

-- the set of these parts
abbrev pub set_of : ℕ → ℕ → List Shard → List PositionState → SetState
set_of id pages shards positions =
    record { id = id; pages = pages; shards = shards; positions = positions }

-- a position that is not live and has no slot table
abbrev pub dead_position : PositionState
dead_position = record { live = false; slots = [] }

-- a set of spans of so many pages with these shards, all of whose k data positions are dead
abbrev pub fresh_set : ℕ → ℕ → ℕ → List Shard → SetState
fresh_set id k pages shards = set_of id pages shards (replicate k dead_position)

-- the parities of a set: the positions beyond the data positions
abbrev pub parities : SetState → ℕ
parities set = length set.shards - length set.positions

-- the code of a set: its data positions and its parities
abbrev pub code_of : SetState → Code
code_of set = record { k = length set.positions; r = parities set }

-- what the data position holds
abbrev pub position_of : SetState → ℕ → PositionState
position_of set position = slice_index_or set.positions position dead_position

-- whether the data position is live
abbrev pub live_at : SetState → ℕ → Bool
live_at set position = (position_of set position).live

-- whether a data position is live
abbrev pub is_live : SetState → Bool
is_live set = list_any (λ position. position.live) set.positions

-- the handle at a slot of the data position, if the slot is taken
abbrev pub slot_at : SetState → ℕ → ℕ → Option ℕ
slot_at set position slot = slice_index_or (position_of set position).slots slot None

-- the set with another content of one data position, and all else the same
abbrev pub with_position : SetState → ℕ → PositionState → SetState
with_position set position content =
    record set { positions = slice_set set.positions position content }

-- a position with that slot table, live where the table names a handle
abbrev pub filled_position : List (Option ℕ) → PositionState
filled_position slots = record { live = list_any (λ slot. is_some slot) slots; slots = slots }

-- a position with one slot emptied, and the live flag that it had
abbrev pub with_cleared : PositionState → ℕ → PositionState
with_cleared content slot = record content { slots = slice_set content.slots slot None }

-- the position without the object of a slot; one that names no handle then is dead
abbrev pub without_object : PositionState → ℕ → PositionState
without_object content slot =
    let left = with_cleared content slot in
    if list_any (λ slot. is_some slot) left.slots then left else dead_position

-- What a position has that lost objects: some of those that it had, in the same slots, or none. It
-- is live where it names one.
pub record IsRestOf (old left : PositionState) : Type 0 where
  pub named : (slot h : ℕ) → slice_index_or left.slots slot None ≡ Some h
      → slice_index_or old.slots slot None ≡ Some h
  pub sized : (slot h : ℕ) → slice_index_or left.slots slot None ≡ Some h
      → length left.slots ≡ length old.slots
  pub live : left.live ≡ list_any (λ slot. is_some slot) left.slots

-- the set with another shard at one position, and all else the same
abbrev pub with_shard : SetState → ℕ → Shard → SetState
with_shard set position shard = record set { shards = slice_set set.shards position shard }

-- What holds of every set: there are at least as many positions as data positions, and a u32
-- numbers them.
pub record IsSet (set : SetState) : Type 0 where
  pub data_first : length set.positions ≤ length set.shards
  pub numbered : length set.shards < 2 ^ 32
