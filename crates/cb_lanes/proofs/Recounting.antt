-- A world that is another but for two counts of the far state: a turn of a line leads to one that
-- is so beside the world to which the core's turn would lead.
use Rattle.std.proofs.Common.{◌≡◌, ℕ, refl, inl, inr}
use Rattle.cb_types.specs.declared.job.Job.{Job}
use Rattle.cb_types.specs.declared.job.Job.TheVariants as job
use Rattle.cb_types.specs.declared.reply.Reply.{Reply}
use Rattle.cb_world.specs.FarState.{FarState}
use Rattle.cb_world.specs.World.{WorldState}
use Rattle.cb_core.specs.declared.event.Event.TheVariants.{Turn}
use Rattle.cb_core.specs.Step.{Step}
use Rattle.cb_core.specs.Turned.{counted}
use Rattle.cb_local.specs.LocalStep.{IsBesideNodes}
use Rattle.cb_lanes.specs.CompactsHere.{CompactsHere}
use Rattle.cb_lanes.specs.LineStep.{CompactsAt, TurnAt}
use Rattle.cb_lanes.specs.declared.side.Side.{Side}
use Rattle.cb_lanes.specs.declared.side.Side.TheVariants as parities

-- the far state with other counts of rows given and of keys drawn
abbrev pub retallied : FarState → ℕ → ℕ → FarState
retallied far given keys = record far {
  nodes = record far.nodes { given = given };
  counts = record far.counts { keys = keys };
}

pub record IsRecounted (w new : WorldState) : Type 0 where
  pub desk : new.desk ≡ w.desk
  pub seats : new.seats ≡ w.seats
  pub given : ℕ
  pub keys : ℕ
  pub far : new.far ≡ retallied w.far given keys

same_counts : (w : WorldState) → IsRecounted w w
same_counts w = record {
  desk = refl;
  seats = refl;
  given = w.far.nodes.given;
  keys = w.far.counts.keys;
  far = refl;
}

here_recounts : (seat : ℕ) (w new : WorldState) (r : Reply) → (x : CompactsHere seat w r new)
    → IsRecounted x.mid new
here_recounts seat w new r x = by x.beside
  where
    by : IsBesideNodes (counted w.far job.Compact) x.mid.far new.far r → IsRecounted x.mid new
    by (inl y) = record {
      desk = x.desk;
      seats = x.seats;
      given = x.mid.far.nodes.given;
      keys = w.far.counts.keys;
      far = y.state;
    }
    by (inr y) = record {
      desk = x.desk;
      seats = x.seats;
      given = _;
      keys = x.mid.far.counts.keys;
      far = y.state;
    }

-- the core's turn, and the world beside the one to which it leads
pub record StandsBesideTurn (j : Job) (seat : ℕ) (w : WorldState) (r : Reply)
    (new : WorldState) : Type 0
  where
    pub mid : WorldState
    pub step : Step w (Turn seat j) r mid
    pub counts : IsRecounted mid new

pub turn_beside : (j : Job) (side : Side) (seat : ℕ) (w new : WorldState) (r : Reply)
    → TurnAt j side seat w r new → StandsBesideTurn j seat w r new
turn_beside job.Compact side seat w new r x = by side x
  where
    by : (which : Side) → CompactsAt which seat w r new → StandsBesideTurn job.Compact seat w r new
    by parities.Nodes step = record { mid = new; step = step; counts = same_counts new }
    by parities.Compute x = record {
      mid = x.mid;
      step = x.there;
      counts = here_recounts seat w new r x;
    }
turn_beside j side seat w new r x = record { mid = new; step = x; counts = same_counts new }
