-- How many lanes have a line.
use Rattle.std.specs.Prelude.{ℕ, List, map, nat_eq}
use Rattle.std.specs.Set.{distinct_count}
use Rattle.cb_script.specs.declared.script.Line.{Line}

-- the lines' lanes, in order
abbrev pub lanes_of : List Line → List ℕ
lanes_of lines = map (λ l. l.lane.n) lines

-- the different lanes of the lines: one that stands twice counts once
abbrev pub lane_count : List Line → ℕ
lane_count lines = distinct_count nat_eq (lanes_of lines)
