-- What a script is answered, what the check of one leaves, and how its fault is told.
use Rattle.std.specs.Prelude.{◌≡◌, ℕ, List, [], ◌++◌, map, Option, None, Some}
use Rattle.std.specs.List.{AllByRecursion}
use Rattle.cb_script.specs.declared.script.Script.{Script}
use Rattle.cb_script.specs.declared.fault.Reason.{Reason}
use Rattle.cb_script.specs.Roomy.{IsAtEase}
use Rattle.cb_model.specs.Legal.{IsLegalInOrder}
use Rattle.cb_text.specs.Line.{text_of}
use Rattle.cb_lanes.specs.Alone.{HasOwnLines, IsCalmReply, KeepAlone, fresh_lane}
use Rattle.cb_lanes.specs.Asked.{asked, HasLineReply}
use Rattle.cb_lanes.specs.declared.side.Side.{Side}
use Rattle.cb_lanes.specs.declared.side.Side.TheVariants.{Nodes, Compute}
use Rattle.cb_lanes.specs.Held.{HoldsAnswers}
use Rattle.cb_lanes.specs.LineStep.{LinesLead}
use Rattle.cb_lanes.specs.LinesSoundly.{AreOnlyAnswers, LinesLeadSoundly}
use Rattle.cb_lanes.specs.Lost.{AreInOrder, losses_of}
use Rattle.cb_lanes.specs.Scopes.{KeepScopes}
use Rattle.cb_world.specs.Seats.{pins_of_seat}
use Rattle.cb_world.specs.World.{WorldState, IsSoundWorld, empty_world}
use Rattle.cb_cli.specs.Texts.{fault_text, given_line}
use Rattle.cb_cli.specs.declared.words.Plan.{Plan}
use Rattle.cb_gen.specs.Drawn.{made_script}
use Rattle.cb_gen.specs.Summary.{summary}
use Rattle.cb_app.specs.declared.ending.Ending.{Ending}

-- The ending of a script that was answered, where this side makes the parities of a compaction.
pub record IsAnswered (side : Side) (script : Script) (end : Ending) : Type 0 where
  pub config : end.config ≡ Some script.config
  -- one answer a line, in order, each with the line's lane, number and request
  pub lines : map asked end.answers ≡ script.lines
  -- the answers are legal, each of them the plain map's after all before it
  pub legal : IsLegalInOrder 1 script.config.handles end.answers
  -- each of them is one that its line may have
  pub replies : AllByRecursion HasLineReply end.answers
  -- by these answers the lines lead from the empty world to the one that is left
  pub world : WorldState
  pub left : end.world ≡ Some world
  pub leads : LinesLead side [] (empty_world script.config) end.answers world
  -- each world on that way is sound; and the lines have no other answers, and lead to no other
  -- world
  pub along : LinesLeadSoundly side [] (empty_world script.config) end.answers world
  pub fixes : AreOnlyAnswers side (empty_world script.config) end.answers world
  -- which is sound, and holds at each handle what the plain map has
  pub sound : IsSoundWorld world
  pub holds : HoldsAnswers world end.answers
  -- the crashes that took place, in the order of their epochs
  pub losses : end.losses ≡ losses_of end.answers
  pub in_order : AreInOrder end.losses
  -- no runtime was closed
  pub no_seal : end.seal ≡ None
  -- each answer is as its lane's pins say, and at the end no lane has one
  pub scopes : KeepScopes [] end.answers
  pub idle : (seat : ℕ) → pins_of_seat world.seats seat ≡ []
  -- at ease no line is told of a want of room or of a loss, and the own lines of each lane are
  -- answered as if it were alone
  pub calm : IsAtEase script → AllByRecursion (λ a. IsCalmReply a.reply) end.answers
  pub alone : IsAtEase script → (lane : ℕ) → HasOwnLines script.lines lane
      → KeepAlone script.lines lane fresh_lane end.answers

-- how many rows the nodes of a world gave out, where there is one
abbrev pub given_by_nodes : Option WorldState → ℕ
given_by_nodes None = 0
given_by_nodes (Some world) = world.far.nodes.given

-- The text that tells an ending: the answers. Where the compute side makes the parities, one line
-- more tells how many rows the nodes gave out.
abbrev pub ending_text : Side → Ending → List ℕ
ending_text Nodes end = text_of end.answers
ending_text Compute end = text_of end.answers ++ given_line (given_by_nodes end.world)

-- The ending of a script that was checked: its configuration, and nothing else.
pub record IsChecked (script : Script) (end : Ending) : Type 0 where
  pub config : end.config ≡ Some script.config
  pub no_answers : end.answers ≡ []
  pub no_losses : end.losses ≡ []
  pub no_world : end.world ≡ None
  pub no_seal : end.seal ≡ None

-- The script that the plan draws was answered, no line of it with want of room, and this is the
-- summary of its answers.
pub record IsSummed (plan : Plan) (end : Ending) (text : List ℕ) : Type 0 where
  pub answered : IsAnswered Nodes (made_script plan.seed plan.lines plan.lanes) end
  pub calm : AllByRecursion (λ a. IsCalmReply a.reply) end.answers
  pub text_is : text ≡ summary plan.seed plan.lines plan.lanes end.answers

-- the text tells a line and a reason for which this holds
abbrev pub TellsFault : (ℕ → Reason → Type 0) → List ℕ → Type 0
TellsFault holds text = (line : ℕ) × (reason : Reason) × holds line reason
    × (text ≡ fault_text line reason)
