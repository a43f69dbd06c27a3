use Rattle.cb_world.proofs.Homing.{HasSome}
use Rattle.cb_world.proofs.rehoming.put_homes.Given as goal

-- the objects in the earlier slots have their homes
abbrev pub invariant-loop-slot : goal.invariant-loop-slot
invariant-loop-slot l = HasSome l.slots l.slot l.set l.position l.fn.homes l.homes
