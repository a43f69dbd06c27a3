use Rattle.std.proofs.Common.{refl}
use Rattle.cb_world_tests.proofs.values.are_rows.Goals as goal

pub is_row-all-requires : goal.is_row-all-requires
is_row-all-requires g c = (c.loop-foul.invariant, (c.new-array.ensures.array _).0, refl, refl, refl)
