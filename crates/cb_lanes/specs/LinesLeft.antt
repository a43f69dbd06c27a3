-- The lines that the lanes have left.
use Rattle.std.specs.Prelude.{◌≡◌, ℕ, ◌<◌, List, length, map, slice_index}
use Rattle.std.specs.List.{AllByRecursion}
use Rattle.cb_script.specs.declared.script.Line.{Line}
use Rattle.cb_lanes.specs.GivingBack.{lines_by}

-- the lines' lanes, in order
abbrev pub lanes_of : List Line → List ℕ
lanes_of lines = map (λ line. line.lane.n) lines

-- each of them is one of the 16 lanes
abbrev pub AreLanes : List ℕ → Type 0
AreLanes lanes = AllByRecursion (λ lane. lane < 16) lanes

-- the counts are those of each lane's lines among these
pub record AreLeft (lanes left : List ℕ) : Type 0 where
  pub sized : length left ≡ 16
  pub counts : (lane : ℕ) → lane < 16 → slice_index left lane ≡ lines_by lane lanes
