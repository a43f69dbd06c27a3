-- What commands on one list and one map of numbers leave, and why one of them is refused.
use Rattle.std.specs.Prelude.{◌≡◌, ◌⊎◌, ◌+◌, ◌^◌, ◌<◌, ◌≤◌, true, List, [], ◌∷◌, ◌++◌, Some}
use Rattle.cb_types.specs.declared.config.Config.{Config}
use Rattle.cb_types.specs.declared.job.Job.{Job}
use Rattle.cb_types.specs.declared.reply.Reply.{Reply}
use Rattle.cb_types.specs.declared.reply.Reply.TheVariants.{Full, NoRoom, Worn}
use Rattle.cb_world.specs.World.{WorldState}
use Rattle.cb_rule.specs.declared.turn.Turn.{Turn}
use Rattle.cb_rule.specs.declared.view.View.{View}
use Rattle.cb_rule.specs.Closing.{IsClosed}
use Rattle.cb_rule.specs.Lists.{Each}
use Rattle.cb_rule.specs.Steps.{opener}
use Rattle.cb_rule.specs.TriesAgain.{tries_again}
use Rattle.cb_map_text.specs.Plain.{Plain, after_all, after_said, calls_something, fresh, needs_object, objects, plain_said}
use Rattle.cb_map_text.specs.declared.command.FarAnswer.{FarAnswer}
use Rattle.cb_map_text.specs.declared.command.FarAnswer.TheVariants.{Refused}
use Rattle.cb_map_text.specs.declared.command.FarCommand.{FarCommand}
use Rattle.cb_farmap.specs.Commands.{HaveGone, IsMake, IsOnObject}
use Rattle.cb_shared.specs.Calls.{IsAnswerTo}
use Rattle.cb_shared.specs.Sealing.{sealed_record, sealed_world}
use Rattle.cb_shared.specs.Turning.{Did}
use Rattle.cb_shared.specs.declared.seal.Seal.{Seal}
use Rattle.cb_app.specs.declared.ending.Ending.{Ending}

-- The newest of these turns has such a job and was told this reply, which answers its call.
pub record IsNewestTold (more : List Turn) (asked : Job → Type 0) (reply : Reply) : Type 0 where
  pub turn : Turn
  pub before : List Turn
  pub newest : more ≡ turn ∷ before
  pub job_is : asked turn.job
  pub told : turn.reply ≡ Some reply
  pub answers : IsAnswerTo (tries_again turn) turn.job reply

-- Why a command is refused that finds the list and the map so and makes these turns: no object is
-- left to be made, and it needs one; or there is no room, and as many objects as frames were made;
-- or the turns are worn. The newest of its turns tells so. That one makes an object, where the
-- command needs one, or is on an object.
abbrev pub IsCause : Config → View → WorldState → Plain → FarCommand → List Turn → Reply → Type 0
IsCause c v w s a more (Full n) =
    (n ≡ c.handles) × (needs_object s a ≡ true) × (objects s ≡ c.handles)
    × IsNewestTold more IsMake (Full n)
IsCause c v w s a more (NoRoom frames loose nodes) =
    (frames ≡ c.frames) × ((loose < c.k) ⊎ (nodes < c.k + c.r)) × (c.frames ≤ objects s)
    × (IsNewestTold more (IsOnObject v) (NoRoom frames loose nodes)
    ⊎ ((needs_object s a ≡ true) × (objects s < c.handles)
    × IsNewestTold more IsMake (NoRoom frames loose nodes)))
IsCause c v w s a more Worn =
    (2 ^ 40 ≤ w.far.counts.turns) × (IsNewestTold more (IsOnObject v) Worn
    ⊎ ((needs_object s a ≡ true) × IsNewestTold more IsMake Worn))
IsCause c v w s a more other = ⊥

-- What is said to a command that makes these turns: why it was refused, where it calls the runtime
-- at all; else what the plain list and map say, and one that needs an object found one left to be
-- made.
abbrev pub IsTold : Config → View → WorldState → Plain → FarCommand → List Turn → FarAnswer → Type 0
IsTold c v w s a more (Refused reply) =
    (calls_something s a ≡ true) × IsCause c v w s a more reply
IsTold c v w s a more said =
    (said ≡ plain_said s a) × (needs_object s a ≡ true → objects s < c.handles)

-- So to each of them, one after another, where these are the turns before the first. All turns of
-- the record are theirs, one command's after the other's.
abbrev pub AreTold : Config → View → WorldState → Plain → List Turn → List FarCommand
    → List FarAnswer → Type 0
AreTold c v w s turns [] [] = v.turns ≡ turns
AreTold c v w s turns (a ∷ asks) (said ∷ saids) = (more : List Turn)
    × IsTold c v w s a more said × AreTold c v w (after_said s a said) (more ++ turns) asks saids
AreTold c v w s turns asks saids = ⊥

-- Commands were answered by calls on a runtime that was closed with this world and this seal.
pub record AreAnswered (c : Config) (asks : List FarCommand) (saids : List FarAnswer)
    (w : WorldState) (seal : Seal) : Type 0 where
  -- the seal is that of the world and of a record that closed such a runtime
  pub shows : sealed_world seal ≡ w
  pub closed : IsClosed Did 1 c (sealed_record seal) w
  -- the commands made the calls of one array and one map, each its own, from the runtime that was
  -- just begun to that record, in which these are the plain list and the plain map after them all
  pub gone : HaveGone c 1 asks saids (opener c) (sealed_record seal)
  -- each turn of the record makes an object or is on one
  pub turns_are : Each (λ (t : Turn). IsMake t.job ⊎ IsOnObject (sealed_record seal) t.job)
      (sealed_record seal).turns
  -- each command is told what the plain list and map say, or why it was refused
  pub told : AreTold c (sealed_record seal) w fresh [] asks saids
  -- as many objects were made as the list and the map need at their fullest
  pub made : w.far.made ≡ objects (after_all fresh asks saids)

-- the ending of commands that were told so
pub record IsMapped (c : Config) (asks : List FarCommand) (saids : List FarAnswer) (end : Ending)
    : Type 0 where
  pub world : WorldState
  pub seal : Seal
  pub answered : AreAnswered c asks saids world seal
  pub config : end.config ≡ Some c
  pub no_answers : end.answers ≡ []
  pub no_losses : end.losses ≡ []
  pub left : end.world ≡ Some world
  pub sealed : end.seal ≡ Some seal
