use Rattle.std.proofs.Common.{rules, length}
use Rattle.cb_world.proofs.Homing.{homes_all, homes_step, object_below}
use Rattle.cb_world.proofs.rehoming.put_homes.Goals as goal

pub put_home-requires : goal.put_home-requires
put_home-requires c = record {
  below = object_below c.args.slots.now c.loop-slot.slot (length c.args.homes.now) _
      c.requires.below c.loop-slot.invariant.count;
}

pub loop-slot-preserved : goal.loop-slot-preserved
loop-slot-preserved c =
    homes_step c.args.slots.now c.loop-slot.slot c.args.set c.args.position
    c.args.homes.now c.loop-slot.homes c.put_home.new.homes c.loop-slot.invariant
    c.requires.below c.requires.apart c.put_home.ensures.put c.put_home.ensures.none

pub returns : goal.returns
returns c = homes_all c.args.slots.now c.loop-slot.slot c.args.set c.args.position
    c.args.homes.now c.loop-slot.homes c.loop-slot.invariant (search rules)
