-- What a turn rests on where it does a step on the far state alone: one record of laws, whichever
-- step it is.
use Rattle.std.proofs.Common.{◌≡◌, ℕ}
use Rattle.cb_types.specs.declared.config.Config.{Config}
use Rattle.cb_types.specs.declared.reply.Reply.{Reply}
use Rattle.cb_types.specs.declared.reply.Reply.TheVariants as answer
use Rattle.cb_types.specs.declared.request.Request.{Request}
use Rattle.cb_types.specs.Table.{IsReplyOf}
use Rattle.cb_world.specs.declared.shown.Shown.{Shown}
use Rattle.cb_world.specs.FarState.{FarState}
use Rattle.cb_world.specs.Sound.{Sound}
use Rattle.cb_world.proofs.Laws.{StaysIfBy}
use Rattle.cb_compact.proofs.CompactKeeps.{JoinKeeps, LeavesLocal}

-- Of a step whose numbers rise by at most so many, which does so to what is noted of a search for a
-- pair, and which such a line does. What is configured stays; the world stays sound, and `now` of
-- every handle is as before; local memory stays; a sound far state has one reply and leads to one
-- far state; and the reply is one of the line's, and never that there is no frame.
pub record AreFarLaws (N : FarState → FarState → Type 0) (most : ℕ) (line : Request)
    (step : FarState → FarState → Reply → Type 0) : Type 0 where
  pub stays : (c : Config) (s : Shown) (far new : FarState) (r : Reply) → Sound s far
      → step far new r → StaysIfBy N c most far new
  pub keeps : (s : Shown) (far new : FarState) (r : Reply) → Sound s far → step far new r
      → JoinKeeps s far new
  pub leaves : (far new : FarState) (r : Reply) → step far new r → LeavesLocal far new
  pub fixes : (s : Shown) (far new other : FarState) (r q : Reply) → Sound s far
      → step far new r → step far other q → (r ≡ q) × (new ≡ other)
  pub answers : (far new : FarState) (r : Reply) → step far new r → IsReplyOf line r
  pub framed : (far new : FarState) (r : Reply) → step far new r → r ≡ answer.NoFrame → ⊥
