use Rattle.std.proofs.Common.{◌≡◌, ◌+◌, cond, ap, arith}
use Rattle.cb_world.proofs.Choices.{number, node_counted}
use Rattle.cb_world.proofs.choosing.nodes_with_room.Goals.{then-has_room, else-has_room}
use Rattle.cb_world.proofs.choosing.nodes_with_room.Goals as goal

pub loop-n-preserved : goal.loop-n-preserved
loop-n-preserved c =
    let step : c.if-has_room.count ≡ c.loop-n.count + cond c.has_room.result 1 0 =
    elim c.if-has_room.branch [
      | then-has_room w ↦ let e = ap number w.if-has_room.true in omega (arith, w.count-is, e)
      | else-has_room w ↦ let e = ap number w.if-has_room.false in omega (arith, w.count-is, e)
    ] in
    node_counted c.args.nodes.now c.args.members.now c.loop-n.n c.loop-n.count c.if-has_room.count
    c.has_room.result c.loop-n.invariant c.has_room.ensures step
