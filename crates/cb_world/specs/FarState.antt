-- The far state as contracts see it.
use Rattle.std.specs.Prelude.{ℕ, Bool, List, Option, None, Some, slice_index_or}
use Rattle.cb_span.specs.Contents.{Contents, handle_at, least_empty}
use Rattle.cb_class.specs.declared.class.Class.{Class}
use Rattle.cb_class.specs.Class.{pages_of}
use Rattle.cb_node.specs.NodesState.{NodesState}
use Rattle.cb_member.specs.declared.names.Code.{Code}
use Rattle.cb_member.specs.Membership.{Membership}
use Rattle.cb_world.specs.declared.homes.Home.{Home}
use Rattle.cb_world.specs.Sets.{SetMap}
use Rattle.cb_world.specs.Leaving.{LeavingState}
use Rattle.cb_world.specs.Joining.{JoiningState}
use Rattle.cb_world.specs.Counts.{CountsState}
use Rattle.cb_world.specs.declared.survey.Survey.{Survey}

-- the version that a make gives, and how many handles were made; free frames and the spans in the
-- others; span-sets, homes of far objects, nodes and their membership; the code in force, which is
-- that of the next set; the batch that is leaving and the pair that is joining; what is counted, and
-- what is known of how the sets stand
pub record FarState : Type 0 where
  pub first : ℕ
  pub made : ℕ
  pub frames : List Bool
  pub spans : List (Option Contents)
  pub sets : SetMap
  pub homes : List (Option Home)
  pub nodes : NodesState
  pub members : Membership
  pub code : Code
  pub leaving : Option LeavingState
  pub joining : Option JoiningState
  pub counts : CountsState
  pub survey : Survey

-- the span in a frame
abbrev pub span_in : List (Option Contents) → ℕ → Option Contents
span_in spans f = slice_index_or spans f None

abbrev pub pages_if : Option Contents → ℕ
pages_if None = 0
pages_if (Some span) = pages_of span.class

-- how many frames the span that stands at a frame has, and none where none stands there
abbrev pub pages_at : List (Option Contents) → ℕ → ℕ
pages_at spans f = pages_if (span_in spans f)

-- the handle in a slot, where there is a span
abbrev pub handle_in : Option Contents → ℕ → Option ℕ
handle_in None slot = None
handle_in (Some span) slot = handle_at span slot

-- the handle in a slot of the span in a frame
abbrev pub resident : List (Option Contents) → ℕ → ℕ → Option ℕ
resident spans f slot = handle_in (span_in spans f) slot

abbrev pub class_of : Option Contents → Option Class
class_of None = None
class_of (Some span) = Some span.class

-- the class of the span in a frame
abbrev pub class_in : List (Option Contents) → ℕ → Option Class
class_in spans f = class_of (span_in spans f)

-- the least empty slot, where there is a span that has one
abbrev pub empty_slot : Option Contents → Option ℕ
empty_slot None = None
empty_slot (Some span) = least_empty span

-- the least empty slot of the span in a frame
abbrev pub empty_slot_in : List (Option Contents) → ℕ → Option ℕ
empty_slot_in spans f = empty_slot (span_in spans f)
