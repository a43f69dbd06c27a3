-- The empty world of a configuration.
use Rattle.std.specs.Prelude.{ℕ, ◌*◌, false, None, replicate}
use Rattle.std.specs.FinMap as map
use Rattle.cb_types.specs.declared.config.Config.{Config}
use Rattle.cb_frame.specs.FreeFrames.{all_free}
use Rattle.cb_member.specs.Membership.{fresh_members}
use Rattle.cb_node.specs.NodesState.{empty_nodes}
use Rattle.cb_world.specs.declared.shown.Shown.{Shown}
use Rattle.cb_world.specs.Shown.{never}
use Rattle.cb_world.specs.FarState.{FarState}
use Rattle.cb_world.specs.Survey.{no_survey}
use Rattle.cb_world.specs.Plain.{Words}

-- all frames are free, no object was made and all nodes are up without rows; the configured code is
-- in force, and makes give this version
abbrev pub empty_far : ℕ → Config → FarState
empty_far first c = record {
  first = first;
  made = 0;
  frames = all_free c.frames;
  spans = replicate c.frames None;
  sets = map.empty;
  homes = replicate c.handles None;
  nodes = empty_nodes c.nodes c.room;
  members = fresh_members c.nodes;
  code = record { k = c.k; r = c.r };
  leaving = None;
  joining = None;
  counts = record { turns = 0; by_job = replicate 24 0; sets = 0; keys = 0 };
  survey = no_survey;
}

-- no object was made, and every word is 0
abbrev pub empty_shown : ℕ → Config → Shown
empty_shown first c = record {
  first = first;
  objects = replicate c.handles never;
  hots = replicate c.handles false;
  versions = replicate c.handles 0;
  memory = replicate (512 * c.frames) 0;
}

-- the desk where every word is 0
abbrev pub empty_words : Config → Words
empty_words c = record {
  settings = c;
  words = replicate c.handles 0;
  versions = replicate c.handles 0;
  memory = replicate (512 * c.frames) 0;
}
