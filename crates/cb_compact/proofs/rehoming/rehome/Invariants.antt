use Rattle.cb_compact.proofs.Homing.{HaveSome}
use Rattle.cb_compact.proofs.rehoming.rehome.Given as goal

-- the objects at the earlier positions have their homes
abbrev pub invariant-loop-position : goal.invariant-loop-position
invariant-loop-position l = HaveSome l.id l.set l.position l.fn.homes l.homes
