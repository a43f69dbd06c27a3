use Rattle.cb_shared.specs.Joining.{unpinned_all}
use Rattle.cb_shared.proofs.Laws.{right_keeps}
use Rattle.cb_world_tests.proofs.SplitArrays.{array_joined, array_known, array_left, has_object}
use Rattle.cb_world_tests.proofs.values.foul_first.Goals as goal

pub object_of-object-requires : goal.object_of-object-requires
object_of-object-requires g c = record {
  within = has_object c.args.first.now.seat.me.0 c.args.array.now c.requires.array c.requires.some;
}

pub foul_by-is_done-requires-clause-knows : goal.foul_by-is_done-requires-clause-knows
foul_by-is_done-requires-clause-knows g c = right_keeps 1 c.args.first.now.seat.me.0
    c.split-second.result.seat.me.0 c.split-second.ensures.right _
    (array_known c.args.first.now.seat.me.0 c.args.array.now c.requires.array c.requires.some
    c.object_of-object.result c.object_of-object.ensures)

pub returns : goal.returns
returns g c = record {
  of = c.join_pass.ensures.of;
  array = array_joined c.split-second.new.pass.seat.me.0
      (unpinned_all c.foul_by-is_done.new.pass.seat.me.0) c.join_pass.new.pass.seat.me.0
      c.args.array.now c.join_pass.ensures.joined
      (array_left 1 c.args.first.now.seat.me.0 c.split-second.new.pass.seat.me.0 c.args.array.now
      c.split-second.ensures.left c.requires.array);
}
