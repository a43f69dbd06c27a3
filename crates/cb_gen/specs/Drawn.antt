-- The script that a seed draws: each line's lane, its action, and the parts of its request.
use Rattle.std.specs.Prelude.{ℕ, zero, suc, ◌+◌, ◌-◌, ◌==◌, ◌||◌, min, nat_lt, if◌then◌else◌, codes, get_or}
use Rattle.std.specs.Prelude.{List, [], ◌∷◌, ◌++◌, length}
use Rattle.std.specs.List.{flat_map}
use Rattle.std.specs.Fmt.{decimal}
use Rattle.cb_types.specs.declared.config.Config.{Config}
use Rattle.cb_types.specs.declared.request.Request.{Request}
use Rattle.cb_types.specs.declared.request.Request.TheVariants.{Make, Read, Write, Free, Filter, Evict, Crash, Join, Rebuild, Compact}
use Rattle.cb_script.specs.declared.script.Line.{Line}
use Rattle.cb_script.specs.declared.script.Script.{Script}
use Rattle.cb_gen.specs.Draws.{drawn, drawn_bytes, state_after}

-- the configuration of each drawn script
abbrev pub drawn_config : Config
drawn_config =
    record { k = 4; r = 2; nodes = 8; frames = 12; room = 4096; handles = 65536; turns = 0 }

-- a drawn request, and the state that its draws leave
pub record Drawn : Type 0 where
  pub request : Request
  pub left : ℕ

-- the name of the object that a lane makes after so many others, as in `l3n0`
abbrev pub object_name : (lane before : ℕ) → List ℕ
object_name lane before = codes "l" ++ decimal lane ++ codes "n" ++ decimal before

-- A make of the lane's next object: 1 to 120 bytes.
abbrev pub drawn_make : (x lane before : ℕ) → Drawn
drawn_make x lane before =
    let count = 1 + drawn x 0 120 in
    record {
      request = Make (object_name lane before) (drawn_bytes (state_after x 1) count);
      left = state_after (state_after x 1) count;
    }

-- A write within one of the lane's objects, which have these lengths: at most 32 bytes.
abbrev pub drawn_write : (x lane : ℕ) → List ℕ → Drawn
drawn_write x lane lengths =
    let object = drawn x 0 (length lengths) in
    let len = get_or lengths object 0 in
    let at = drawn x 1 (len + 1) in
    let count = drawn x 2 (min (len - at) 32 + 1) in
    record {
      request = Write (object_name lane object) at (drawn_bytes (state_after x 3) count);
      left = state_after (state_after x 3) count;
    }

-- one of the lane's objects, of so many
abbrev pub drawn_object : (x n lane count : ℕ) → List ℕ
drawn_object x n lane count = object_name lane (drawn x n count)

-- What is drawn seldom, by its number: a free, a filter, a crash of node 0 or 1, a join of one of
-- them, a rebuild or a compaction. The lane made so many objects.
abbrev pub drawn_seldom : (what x lane count : ℕ) → Drawn
drawn_seldom what x lane count =
    if what == 0 then record {
      request = Free (drawn_object x 0 lane count);
      left =
          state_after x 1;
    }
    else (if what == 1 then record { request = Filter (drawn_object x 0 lane count); left = state_after x 1 }
    else (if what == 2 then record { request = Crash (record { n = drawn x 0 2 }); left = state_after x 1 }
    else (if what == 3 then record {
      request = Join (record { n = drawn x 0 2 });
      left =
          state_after x 1;
    }
    else (if what == 4 then record { request = Rebuild; left = x }
    else record { request = Compact; left = x }))))

-- The request of an action of 0 to 15, of a lane that made objects of these lengths. A lane with
-- none makes one.
abbrev pub drawn_action : (action x lane : ℕ) → List ℕ → Drawn
drawn_action action x lane lengths =
    if nat_lt action 4 || (length lengths == 0) then drawn_make x lane (length lengths)
    else (if nat_lt action 10 then record { request = Read (drawn_object x 0 lane (length lengths)); left = state_after x 1 }
    else (if nat_lt action 14 then drawn_write x lane lengths
    else (if action == 14 then record { request = Evict; left = x }
    else drawn_seldom (drawn x 0 6) (state_after x 1) lane (length lengths))))

-- the length of what a request makes, where it makes something
abbrev pub length_made : Request → List ℕ
length_made (Make name bytes) = length bytes ∷ []
length_made _ = []

-- the lengths of the objects that the lane makes on these lines, in order
abbrev pub lengths_of : List Line → ℕ → List ℕ
lengths_of lines lane = flat_map (λ l. if l.lane.n == lane then length_made l.request else []) lines

-- the lines of a script, and the state that their draws leave
pub record DrawnLines : Type 0 where
  pub lines : List Line
  pub left : ℕ

-- one line more: its lane of so many is drawn, then its action, then what belongs to it
abbrev pub with_line : ℕ → DrawnLines → DrawnLines
with_line lanes d =
    let lane = 1 + drawn d.left 0 lanes in
    let action = drawn d.left 1 16 in
    let more = drawn_action action (state_after d.left 2) lane (lengths_of d.lines lane) in
    record {
      lines = d.lines ++ record { lane = record { n = lane }; line = length d.lines + 2; request = more.request } ∷ [];
      left = more.left;
    }

-- so many lines
abbrev pub drawn_lines : (seed lanes count : ℕ) → DrawnLines
drawn_lines seed lanes zero = record { lines = []; left = seed }
drawn_lines seed lanes (suc count) = with_line lanes (drawn_lines seed lanes count)

-- the script that a seed draws, of so many lines on so many lanes
abbrev pub made_script : (seed lines lanes : ℕ) → Script
made_script seed lines lanes =
    record { config = drawn_config; lines = (drawn_lines seed lanes lines).lines }
