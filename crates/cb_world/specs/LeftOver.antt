-- What becomes of a set whose position gave objects up, and of its rows.
use Rattle.std.specs.Prelude.{◌≡◌, ℕ, None, Some, true, if◌then◌else◌, slice_set}
use Rattle.std.specs.FinMap as map
use Rattle.cb_set.specs.SetState.{SetState, is_live, position_of, with_position, without_object}
use Rattle.cb_node.specs.NodesState.{NodesState}
use Rattle.cb_world.specs.declared.homes.Home.{Home}
use Rattle.cb_world.specs.declared.survey.Survey.{Survey}
use Rattle.cb_world.specs.Homes.{home_at}
use Rattle.cb_world.specs.Sets.{SetMap, set_in}
use Rattle.cb_world.specs.FarState.{FarState}
use Rattle.cb_world.specs.SetWord.{is_broken}
use Rattle.cb_world.specs.Survey.{survey_without}
use Rattle.cb_world.specs.Stored.{all_dropped}

-- the sets once the set of a number is left so: without it where no position is live
abbrev pub sets_left : SetMap → ℕ → SetState → SetMap
sets_left sets id rest =
    if is_live rest
    then map.insert sets id (record { set = rest; committed = true })
    else map.remove sets id

-- the nodes then: the rows of a set without a live position are dropped
abbrev pub nodes_left : NodesState → SetState → NodesState
nodes_left nodes rest = if is_live rest then nodes else all_dropped nodes rest.shards

-- what is known of the sets then
abbrev pub survey_left : FarState → ℕ → SetState → Survey
survey_left far id rest =
    if is_live rest
    then far.survey
    else survey_without far.survey id (is_broken far.members rest)

-- The far state once the committed set of a number is dropped: its rows are too, and it is counted
-- no more.
abbrev pub with_set_dropped : FarState → ℕ → SetState → FarState
with_set_dropped far id set = record far {
  sets = map.remove far.sets id;
  nodes = all_dropped far.nodes set.shards;
  survey = survey_without far.survey id (is_broken far.members set);
}

-- the far state once the set of a number is left so: it is dropped where no position is live
abbrev pub with_left : FarState → ℕ → SetState → FarState
with_left far id rest = record far {
  sets = sets_left far.sets id rest;
  nodes = nodes_left far.nodes rest;
  survey = survey_left far id rest;
}

-- the set without the object of a home; its position is dead where it names no other
abbrev pub set_without : SetState → Home → SetState
set_without set home = with_position set home.position
    (without_object (position_of set home.position) home.slot)

-- The far state without a far object: it has no home, its slot in its set is empty, and a set with
-- no live position is dropped with its rows.
abbrev pub without_far : FarState → ℕ → Home → SetState → FarState
without_far far h home set =
    record (with_left far home.set (set_without set home)) { homes = slice_set far.homes h None }

-- the object has this home, in this committed set
pub record LiesIn (far : FarState) (h : ℕ) (home : Home) (set : SetState) : Type 0 where
  pub at : home_at far.homes h ≡ Some home
  pub there : set_in far.sets home.set ≡ Some set
