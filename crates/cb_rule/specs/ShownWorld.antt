-- The world that the table shows while no seat holds the lock.
use Rattle.std.specs.Prelude.{◌≡◌, ◌≢◌, ◌⊎◌, ℕ, ◌<◌, ◌≤◌, Some}
use mathlib.Core.Option.{some}
use lib.ListN.{get_elem?}
use Rattle.cb_types.specs.declared.config.Config.{Config}
use Rattle.cb_ptr.specs.declared.word.State.TheVariants as word
use Rattle.cb_ptr.specs.Word.{state_of}
use Rattle.cb_world.specs.declared.entry.Entry.{Entry}
use Rattle.cb_world.specs.declared.shown.Shown.{Shown}
use Rattle.cb_world.specs.FarState.{FarState}
use Rattle.cb_world.specs.Now.{is_gone, now}
use Rattle.cb_world.specs.Now.Now.{never}
use Rattle.cb_world.specs.OpenWrites.{IsLeavingNow}
use Rattle.cb_world.specs.Orders.{KeepsOrder}
use Rattle.cb_world.specs.World.{AreCounted, IsConfigured, IsKnown}
use Rattle.cb_rule.specs.declared.view.View.{View}
use Rattle.cb_rule.specs.Closing.{desk_of, now_of}
use Rattle.cb_rule.specs.Lists.{total}
use Rattle.cb_rule.specs.Promised.{IsLast, Wrote}
use Rattle.cb_rule.specs.Seats.{claims_on}
use Rattle.cb_rule.specs.Slot.{Table}
use Rattle.cb_rule.specs.Words.{pointer}

-- The word is Moving exactly where a view claims the object or it stands in the leaving batch, and
-- it stands in one of these only.
pub record IsMovedByOne (s : Table) (far : FarState) (h : ℕ) : Type 0 where
  pub moves : state_of (pointer s.words h) ≡ word.Moving
      → (total (claims_on h) s.views ≡ 1) ⊎ IsLeavingNow far h
  pub claimed : 1 ≤ total (claims_on h) s.views → state_of (pointer s.words h) ≡ word.Moving
  pub leaves : IsLeavingNow far h
      → (state_of (pointer s.words h) ≡ word.Moving) × (total (claims_on h) s.views ≡ 0)

-- The words of the table and the far state in its slot are a sound world, whatever is pinned or
-- claimed. It holds of each object that no view claims what the last entry left, and an object
-- without an entry was never made. Each order that a view keeps is kept by it.
pub record ShowsWorld (c : Config) (s : Table) (far : FarState) : Type 0 where
  pub home : get_elem? s.homes 0 ≡ some (some (Some far))
  pub configured : IsConfigured c far
  pub counted : AreCounted far
  pub shown : Shown
  pub known : IsKnown (desk_of c s.words) far shown
  pub moved : (h : ℕ) → h < c.handles → IsMovedByOne s far h
  pub last : (e : Entry) → IsLast s.views e → total (claims_on e.handle) s.views ≡ 0
      → now shown far e.handle ≡ now_of (is_gone far e.handle) e
  pub none : (h : ℕ) → h < c.handles → ((e : Entry) → Wrote s.views e → e.handle ≢ h)
      → now shown far h ≡ never
  pub orders : (j : ℕ) (u : View) → get_elem? s.views j ≡ some u → KeepsOrder shown far u.order
