-- Which configurations are accepted.
use Rattle.std.specs.Prelude.{ℕ, ◌+◌, ◌<◌, ◌≤◌}
use Rattle.cb_types.specs.declared.config.Config.{Config}
use Rattle.cb_types.specs.declared.config.Field.{Field}
use Rattle.cb_types.specs.declared.config.Field.TheVariants.{K, R, Nodes, Frames, Room, Handles, Turns}

-- the most bytes of an object
abbrev pub most_bytes : ℕ
most_bytes = 4096

-- the field is in its range
abbrev pub IsFieldInRange : Config → Field → Type 0
IsFieldInRange c K = (1 ≤ c.k) × (c.k ≤ 16)
IsFieldInRange c R = (1 ≤ c.r) × (c.r ≤ 4)
IsFieldInRange c Nodes = (c.k + c.r ≤ c.nodes) × (c.nodes ≤ 64)
IsFieldInRange c Frames = (1 ≤ c.frames) × (c.frames ≤ 4096)
IsFieldInRange c Room = (1 ≤ c.room) × (c.room ≤ 4096)
IsFieldInRange c Handles = (1 ≤ c.handles) × (c.handles ≤ 65536)
IsFieldInRange c Turns = c.turns ≤ 2500

-- every field is in its range
abbrev pub IsAccepted : Config → Type 0
IsAccepted c = (field : Field) → IsFieldInRange c field

-- the place of a field in the order in which the fields are written
abbrev pub place : Field → ℕ
place K = 0
place R = 1
place Nodes = 2
place Frames = 3
place Room = 4
place Handles = 5
place Turns = 6

-- the field is out of its range, and every field before it is in its own
pub record IsFirstOutOfRange (c : Config) (field : Field) : Type 0 where
  pub out : IsFieldInRange c field → ⊥
  pub before : (earlier : Field) → place earlier < place field → IsFieldInRange c earlier
