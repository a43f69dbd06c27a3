-- A step that was tried.
use Rattle.std.specs.Prelude.{ℕ, Option, None, Some}
use Rattle.cb_member.specs.declared.names.NodeId.{NodeId}
use Rattle.cb_set.specs.SetState.{SetState}
use Rattle.cb_types.specs.declared.reply.Reply.{Reply}
use Rattle.cb_types.specs.declared.reply.Reply.TheVariants as answer
use Rattle.cb_world.specs.Joining.{JoiningState}
use Rattle.cb_world.specs.FarState.{FarState}
use Rattle.cb_compact.specs.PatchStep.{IsNodeFull, IsOneStep}

-- what is answered when the step of a position was tried, at whose node there is no room or some
abbrev pub step_reply : ℕ → Option NodeId → Reply
step_reply position None = answer.Stepped position
step_reply position (Some node) = answer.NodeFull node

-- the position's step is done, or its node is full
abbrev pub TakesOne : FarState → JoiningState → SetState → SetState → ℕ → FarState → Option NodeId
    → Type 0
TakesOne far pair a b p new None = IsOneStep far pair a b new (answer.Stepped p)
TakesOne far pair a b p new (Some node) = IsNodeFull far pair a new (answer.NodeFull node)
