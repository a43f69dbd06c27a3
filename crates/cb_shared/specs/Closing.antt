-- What the closing of a runtime comes to.
use Rattle.std.specs.Prelude.{◌≡◌, ◌<◌}
use Rattle.cb_world.specs.World.{WorldState}
use Rattle.cb_rule.specs.Closing.{IsClosed}
use Rattle.cb_shared.specs.declared.pass.Pass.{Pass}
use Rattle.cb_shared.specs.declared.refused.CloseRefused.{CloseRefused}
use Rattle.cb_shared.specs.declared.refused.CloseRefused.TheVariants.{Out, NoMemory}
use Rattle.cb_shared.specs.declared.runtime.Shared.{Shared}
use Rattle.cb_shared.specs.declared.seal.Seal.{Seal}
use Rattle.cb_shared.specs.Joining.{unpinned_all}
use Rattle.cb_shared.specs.OrdersKept.{AreOfPasses}
use Rattle.cb_shared.specs.Passes.{record_of}
use Rattle.cb_shared.specs.Sealing.{sealed_record, sealed_world}
use Rattle.cb_shared.specs.Turning.{Did}

-- The pass has the whole share, and its record, with the pins given back, closed the runtime. The
-- seal has that record and the world that is answered. Each turn of the record began with the order
-- that the turn before it in its pass left.
pub record IsClosedBy (s : Shared) (p : Pass) (w : WorldState) (seal : Seal) : Type 0 where
  pub whole : (record_of p).share ≡ 64
  pub view : sealed_record seal ≡ unpinned_all (record_of p)
  pub world : sealed_world seal ≡ w
  pub closed : IsClosed Did s.board.shared.key.first s.config (unpinned_all (record_of p)) w
  pub orders : AreOfPasses (record_of p).turns (record_of p).order

-- Other passes are out, exactly where the share is below the whole one; or there is no memory. The
-- runtime and the pass are as they were.
abbrev pub RefusesToClose : Shared → Pass → CloseRefused → Type 0
RefusesToClose s p (Out shared pass share) =
    (shared ≡ s) × (pass ≡ p) × (share ≡ (record_of p).share) × (share < 64)
RefusesToClose s p (NoMemory shared pass) = (shared ≡ s) × (pass ≡ p) × ((record_of p).share ≡ 64)
