-- What is known at an exit of a turn's parts: the configuration and the far state, and which case of
-- the whole it is.
use Rattle.std.proofs.Common.{◌≡◌, ℕ, List, [], length, Option, sym, subst}
use Rattle.cb_types.specs.declared.config.Config.{Config}
use Rattle.cb_types.specs.declared.reply.Reply.{Reply}
use Rattle.cb_types.specs.declared.reply.Reply.TheVariants as answer
use Rattle.cb_world.specs.declared.access.Access.{Access}
use Rattle.cb_world.specs.FarState.{FarState}
use Rattle.cb_world.specs.World.{IsConfigured}
use Rattle.cb_mutate.specs.MakeRule.{NeedsNewSpan}
use Rattle.cb_core.specs.Parts.{Holding, WhereItIs}
use Rattle.cb_core.specs.Parts.WhereItIs.{near}
use Rattle.cb_core.specs.Turned.{MakeLacks}

-- a far state that stayed is configured as before
pub configured_as : (c d : Config) (far new : FarState) → d ≡ c → new ≡ far → IsConfigured c far
    → IsConfigured d new
configured_as c d far new same is x = subst (λ (e : Config). IsConfigured e new) (sym same)
    (subst (λ (f : FarState). IsConfigured c f) (sym is) x)

-- a make that lacked memory
pub make_lacks : {D : Type 0} (run : D → List Access → D → Type 0) (c d : Config) (bytes : List ℕ)
    (a b : Holding D) → ((x : D) → run x [] x) → d ≡ c
    → (b.desk ≡ a.desk) × (b.far ≡ a.far) × NeedsNewSpan d.handles (length bytes) a.far
    → MakeLacks run c bytes a b
make_lacks {D = D} run c d bytes a b nothing same lacked = (
  subst (λ (u : D). run a.desk [] u) (sym lacked.0) (nothing a.desk),
  lacked.1,
  subst (λ (e : Config). NeedsNewSpan e.handles (length bytes) a.far) same lacked.2,
)

-- a call on an object that is not far
pub is_near : {D : Type 0} (call : Holding D → Reply → Holding D → Type 0)
    (look : Holding D → Option Reply → Holding D → Type 0)
    (bringing : Holding D → Reply → Holding D → Type 0) (a b : Holding D) (q : Reply) → call a q b
    → (q ≡ answer.NotHere → ⊥) → WhereItIs call look bringing a q b
is_near call look bringing a b q x left = near x left
