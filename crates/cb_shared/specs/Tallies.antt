-- A look at how large a share may be.
use Rattle.std.specs.Prelude.{◌≡◌, ℕ, ◌≤◌}
use Rattle.atomic_table.specs.Table.{Step}
use Rattle.cb_rule.specs.Slot.{LockSlot, Sat}

-- the shares of all seats sum to 64, so that of this one is no larger
abbrev pub tallied : Step LockSlot → Sat → ℕ → Sat → Type 0
tallied st m n m' = (m' ≡ m) × (m.0.share ≤ 64)
