-- The far state after a node crashed or joined.
use Rattle.std.specs.FinMap as map
use Rattle.cb_member.specs.declared.names.NodeId.{NodeId}
use Rattle.cb_member.specs.Membership.{with_crash, with_join}
use Rattle.cb_node.specs.NodesState.{held, with_rows}
use Rattle.cb_world.specs.FarState.{FarState}
use Rattle.cb_world.specs.Survey.{survey_after_crash}

-- the node is down, and has no row; where it had one, nothing more is known of how the sets stand
abbrev pub crashed_far : FarState → NodeId → FarState
crashed_far far node =
    record far {
      nodes = with_rows far.nodes node map.empty;
      members = with_crash far.members node;
      survey = survey_after_crash far.survey (held far.nodes node);
    }

-- the node is up again
abbrev pub joined_far : FarState → NodeId → FarState
joined_far far node = record far { members = with_join far.members node }
