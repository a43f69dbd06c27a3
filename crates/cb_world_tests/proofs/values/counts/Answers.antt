use Rattle.std.proofs.Common.{refl}
use Rattle.cb_world_tests.proofs.values.counts.Goals as goal

pub is_filled-is_filled-requires : goal.is_filled-is_filled-requires
is_filled-is_filled-requires g c =
    (c.requires.of, (c.new-array.ensures.array _).0, refl, refl, refl)

pub count_all-requires-clause-map : goal.count_all-requires-clause-map
count_all-requires-clause-map g c = (c.in_ok-counts.ensures.map _).0
