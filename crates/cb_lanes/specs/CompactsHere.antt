-- Two span-sets are joined in one turn, and the compute side makes the parities.
use Rattle.std.specs.Prelude.{◌≡◌, ℕ, ◌^◌, ◌<◌, ◌≤◌}
use Rattle.cb_member.specs.declared.names.NodeId.{NodeId}
use Rattle.cb_types.specs.declared.job.Job.TheVariants.{Compact}
use Rattle.cb_types.specs.declared.reply.Reply.{Reply}
use Rattle.cb_types.specs.declared.reply.Reply.TheVariants as answer
use Rattle.cb_world.specs.World.{WorldState}
use Rattle.cb_core.specs.declared.event.Event.TheVariants.{Turn}
use Rattle.cb_core.specs.Holding.{NoOtherHolds}
use Rattle.cb_core.specs.Step.{Step}
use Rattle.cb_core.specs.Turned.{counted}
use Rattle.cb_local.specs.Fetching.{far_given}
use Rattle.cb_local.specs.LocalStep.{IsBesideNodes}

-- It is counted and answered as the turn in which the nodes make them, which would lead to `mid`.
-- The world is `mid` but for two counts of the far state: more rows were given where sets were
-- merged, and a node that is full leaves no key drawn, and the far state as it was counted.
pub record CompactsHere (seat : ℕ) (w : WorldState) (r : Reply) (new : WorldState) : Type 0 where
  pub mid : WorldState
  pub there : Step w (Turn seat Compact) r mid
  pub desk : new.desk ≡ mid.desk
  pub seats : new.seats ≡ mid.seats
  pub beside : IsBesideNodes (counted w.far Compact) mid.far new.far r
  pub full : (node : NodeId) → r ≡ answer.NodeFull node → new.far ≡ counted w.far Compact

-- What one leaves that found no memory: it was counted, and rows of a pair may have been given out,
-- both at each position that is taken, of which a code has 16 at the most, and up to 4 parities.
pub record StopsHere (seat : ℕ) (w new : WorldState) : Type 0 where
  pub few : w.far.counts.turns < 2 ^ 40
  pub free : NoOtherHolds w.seats seat
  pub rows : ℕ
  pub most : rows ≤ 36
  pub state : new ≡ record w { far = far_given (counted w.far Compact) rows }
