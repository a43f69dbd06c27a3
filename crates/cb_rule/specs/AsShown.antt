-- The world that a table shows while no step of the holder of the lock is under way.
use Rattle.std.specs.Prelude.{ℕ, ◌*◌, List, map}
use Rattle.cb_types.specs.declared.config.Config.{Config}
use Rattle.cb_ptr.specs.Word.{hot_of}
use Rattle.cb_world.specs.declared.shown.Shown.{Shown}
use Rattle.cb_world.specs.Memory.{window}
use Rattle.cb_rule.specs.Words.{base, stamps}

-- what is known of the objects, and each word as it is
abbrev pub as_shown : Config → List ℕ → Shown → Shown
as_shown c ws known = record known {
  hots = map hot_of (window ws 1 c.handles);
  versions = window ws (stamps c) c.handles;
  memory = window ws (base c) (512 * c.frames);
}
