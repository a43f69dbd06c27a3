-- Worked examples of what a turn that finds no room counts: loose spans, and nodes with room.
use Rattle.std.proofs.Common.{◌≡◌, ℕ, true, false, List, [], ◌∷◌, Option, None, Some, refl, arith}
use Rattle.std.specs.FinMap as map
use Rattle.cb_class.specs.declared.class.Class.{Class}
use Rattle.cb_class.specs.Class.{pages_of}
use Rattle.cb_member.specs.Membership.{Membership, fresh_node, fresh_members}
use Rattle.cb_node.specs.NodesState.{empty_nodes}
use Rattle.cb_span.specs.declared.temp.Temp.TheVariants.{Hot}
use Rattle.cb_span.specs.Contents.{Contents, span_of}
use Rattle.cb_world.specs.Choices.{room_count}
use Rattle.cb_world.specs.Counts.{CountsState}
use Rattle.cb_world.specs.FarState.{FarState}
use Rattle.cb_world.specs.Leaving.{LeavingState}
use Rattle.cb_world.specs.Plain.{Words}
use Rattle.cb_world.specs.Survey.{no_survey}
use Rattle.cb_evict.specs.EvictStep.{loose_frames}
use Rattle.cb_core.proofs.WorkedPins.{settings, calm, hot, pinned, moving}

-- slots of 1,024 bytes, four a span
abbrev pub of_four : Class
of_four = record { index = 11 }

-- a span of this class has one page, and so has one of the smallest class
pub one_page : pages_of of_four ≡ 1
unfolding pages_of
one_page = refl

pub one_small_page : pages_of (record { index = 0 }) ≡ 1
unfolding pages_of
one_small_page = refl

-- a span with these objects in its first two slots
abbrev pub span_with : Option ℕ → Option ℕ → Option Contents
span_with first second = Some (span_of of_four Hot (first ∷ second ∷ None ∷ None ∷ []))

-- two objects with these words
abbrev pub words_are : ℕ → ℕ → Words
words_are first second = record {
  settings = settings;
  words = first ∷ second ∷ [];
  versions = 3 ∷ 3 ∷ [];
  memory = [];
}

-- turns were counted, by their kinds
abbrev pub counts : ℕ → List ℕ → CountsState
counts turns by_job = record { turns = turns; by_job = by_job; sets = 0; keys = 0 }

-- two frames with these spans, of which a batch is leaving, and these members
abbrev pub far_of : Option Contents → Option Contents → Option LeavingState → Membership
    → CountsState → FarState
far_of first second leaving members c = record {
  first = 1;
  made = 1;
  frames = false ∷ false ∷ [];
  spans = first ∷ second ∷ [];
  sets = map.empty;
  homes = None ∷ None ∷ [];
  nodes = empty_nodes 2 4;
  members = members;
  code = record { k = 1; r = 1 };
  leaving = leaving;
  joining = None;
  counts = c;
  survey = no_survey;
}

abbrev pub first_down : Membership
first_down = record {
  epoch = 1;
  nodes = record { up = false; incarnation = 0; crashes = record { n = 1 } ∷ [] } ∷ fresh_node ∷ [];
}

-- object 0 is in the first span, and object 1 in the second one
abbrev both : Option LeavingState → FarState
both leaving = far_of (span_with (Some 0) None) (span_with None (Some 1)) leaving (fresh_members 2)
    (counts 0 [])

-- ---- the loose spans, of which a refusal tells how many there are
both_loose : loose_frames (words_are calm hot) (both None) ≡ 0 ∷ 1 ∷ []
both_loose = refl

-- an object that is pinned or claimed keeps its span, and no other span
first_pinned : loose_frames (words_are pinned calm) (both None) ≡ 1 ∷ []
first_pinned = refl

first_claimed : loose_frames (words_are moving calm) (both None) ≡ 1 ∷ []
first_claimed = refl

second_pinned : loose_frames (words_are calm pinned) (both None) ≡ 0 ∷ []
second_pinned = refl

none_loose : loose_frames (words_are moving pinned) (both None) ≡ []
none_loose = refl

-- a span that is leaving is not loose, and one beside it is
abbrev batch : ℕ → LeavingState
batch f = record {
  set = 0;
  pages = 1;
  frames = f ∷ [];
  words = [];
  made = true;
  parities = [];
  shards = [];
}

first_is_leaving : loose_frames (words_are calm hot) (both (Some (batch 0))) ≡ 1 ∷ []
first_is_leaving = refl

-- a frame without a span is none of them
no_span : loose_frames (words_are calm calm)
    (far_of None (span_with None None) None (fresh_members 2) (counts 0 [])) ≡ 1 ∷ []
no_span = refl

-- ---- the nodes with room
pub two_open : room_count (empty_nodes 2 4) (fresh_members 2) ≡ 2
two_open = grind (arith, map.gets)

one_open : room_count (empty_nodes 2 4) first_down ≡ 1
one_open = grind (arith, map.gets)
