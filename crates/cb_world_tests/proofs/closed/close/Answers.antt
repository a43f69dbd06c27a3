use Rattle.cb_world_tests.proofs.closed.close.Goals as goal

pub is_world-requires : goal.is_world-requires
is_world-requires c = c.in-Ok.ensures.closed.closed.sound
