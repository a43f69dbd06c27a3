-- A turn whose job is done beside the turns of the core: it is refused, or it is counted.
use Rattle.std.specs.Prelude.{◌≡◌, ℕ, ◌^◌, ◌<◌}
use Rattle.cb_types.specs.declared.job.Job.{Job}
use Rattle.cb_types.specs.declared.reply.Reply.{Reply}
use Rattle.cb_types.specs.declared.reply.Reply.TheVariants as answer
use Rattle.cb_world.specs.Seats.{Holds}
use Rattle.cb_world.specs.World.{WorldState}
use Rattle.cb_core.specs.Holding.{NoOtherHolds}
use Rattle.cb_core.specs.Turned.{counted}

-- why it is refused: another seat holds the far lock, or 2^40 turns were counted
pub data IsTurnRefused (seat : ℕ) (w : WorldState) (r : Reply) : Type 0 where
  other_holds : (holder : ℕ) → (holder ≡ seat → ⊥) → Holds w.seats holder
      → r ≡ answer.Held holder → IsTurnRefused seat w r
  all_counted : NoOtherHolds w.seats seat → w.far.counts.turns ≡ 2 ^ 40 → r ≡ answer.Worn
      → IsTurnRefused seat w r

-- it is counted, as one of the job's kind: fewer than 2^40 were before, and no other seat holds
-- the far lock
pub record IsAdmitted (seat : ℕ) (job : Job) (w new : WorldState) : Type 0 where
  pub few : w.far.counts.turns < 2 ^ 40
  pub free : NoOtherHolds w.seats seat
  pub state : new ≡ record w { far = counted w.far job }
