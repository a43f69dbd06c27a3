use Rattle.std.proofs.Common.{◌≡◌, take}
use Rattle.cb_types.proofs.positions.Positions.copy_of.Given as goal

-- the earlier positions were copied
abbrev pub invariant-loop-item : goal.invariant-loop-item
invariant-loop-item l = l.copy.items ≡ take l.item-index l.items
