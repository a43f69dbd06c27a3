-- What the world holds is what the map has.
use Rattle.std.specs.Prelude.{List}
use Rattle.cb_model.specs.Called.{calls_of}
use Rattle.cb_types.specs.declared.answer.Answer.{Answer}
use Rattle.cb_mutate.specs.MapBeside.{IsMapBeside}
use Rattle.cb_world.specs.declared.shown.Shown.{Shown}
use Rattle.cb_world.specs.World.{WorldState, IsKnown}
use Rattle.cb_core.specs.NowIn.{AreGone}

-- Whoever holds the world knows of each object what the plain map has at its handle after these
-- answers, or that it is gone: exactly where it is far, and its set has lost more shards than it
-- has parities.
pub record HoldsAnswers (w : WorldState) (answers : List Answer) : Type 0 where
  pub shown : Shown
  pub known : IsKnown w.desk w.far shown
  pub beside : IsMapBeside (calls_of answers) shown w.far
  pub gone : AreGone w shown
