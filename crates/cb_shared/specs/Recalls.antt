-- A look that tells what a record has of objects, its own and others.
use Rattle.std.specs.Prelude.{◌≡◌, ℕ, false, List, [], ◌∷◌, Some}
use Rattle.atomic_table.specs.Table.{Step}
use Rattle.cb_types.specs.declared.handle.Handle.{Handle}
use Rattle.cb_types.specs.declared.job.Job.TheVariants.{Make}
use Rattle.cb_types.specs.declared.reply.Reply.TheVariants.{Made}
use Rattle.cb_world.specs.FarState.{FarState}
use Rattle.cb_rule.specs.declared.turn.Turn.{Turn}
use Rattle.cb_rule.specs.declared.view.View.{View}
use Rattle.cb_rule.specs.Lists.{Has}
use Rattle.cb_rule.specs.OneHistory.{IsOneHistory}
use Rattle.cb_rule.specs.OwnStands.{OwnStands}
use Rattle.cb_rule.specs.RecordStands.{RecordStands}
use Rattle.cb_rule.specs.Slot.{LockSlot, Sat}
use Rattle.cb_shared.specs.declared.runtime.Shared.{Shared}
use Rattle.cb_shared.specs.Turning.{Did}

-- the version that makes give in the runtime
abbrev pub first_version_of : Shared → ℕ
first_version_of s = s.board.shared.key.first

-- each of these turns that made an object told this version
abbrev pub MakesFirst : ℕ → List Turn → Type 0
MakesFirst first turns = (t : Turn) → Has t turns → (bytes : List ℕ) (handle : Handle) (version : ℕ)
    → t.job ≡ Make bytes → t.reply ≡ Some (Made handle version) → version ≡ first

-- What a record has of its own objects, and what its makes told; what it has of any object; and
-- that all turns are one history, where it has the whole share and no turn is under way.
pub record Recalls (first : ℕ) (v : View) : Type 0 where
  pub own : OwnStands first v
  pub makes : MakesFirst first v.turns
  pub stands : RecordStands v
  pub whole : v.share ≡ 64 → v.holds ≡ false
      → (count : ℕ) × (last : FarState) × IsOneHistory Did first v.config (v ∷ []) count last

-- a step that changes nothing, and tells so of the record
abbrev pub recalled : ℕ → Step LockSlot → Sat → ℕ → Sat → Type 0
recalled first st m n m' = (m' ≡ m) × Recalls first m.0
