-- What a crash and a join of a node are answered, and what they do to the far state.
use Rattle.std.specs.Prelude.{◌≡◌, true, false}
use Rattle.cb_member.specs.declared.names.NodeId.{NodeId}
use Rattle.cb_member.specs.Membership.{alive, next_epoch}
use Rattle.cb_types.specs.declared.reply.Reply.{Reply}
use Rattle.cb_types.specs.declared.reply.Reply.TheVariants as answer
use Rattle.cb_world.specs.FarState.{FarState}
use Rattle.cb_world.specs.NodeChanges.{crashed_far, joined_far}

-- A node that is up crashes at the next epoch and loses its rows; of one that is down nothing
-- changes.
pub data CrashTurn (node : NodeId) (far : FarState) (r : Reply) (new : FarState) : Type 0 where
  crashed : alive far.members node ≡ true → r ≡ answer.EpochAt (next_epoch far.members)
      → new ≡ crashed_far far node → CrashTurn node far r new
  is_down : alive far.members node ≡ false → r ≡ answer.Down node → new ≡ far
      → CrashTurn node far r new

-- A node that is down joins at the next epoch; of one that is up nothing changes.
pub data JoinTurn (node : NodeId) (far : FarState) (r : Reply) (new : FarState) : Type 0 where
  joined : alive far.members node ≡ false → r ≡ answer.EpochAt (next_epoch far.members)
      → new ≡ joined_far far node → JoinTurn node far r new
  is_up : alive far.members node ≡ true → r ≡ answer.Up node → new ≡ far → JoinTurn node far r new
