use Rattle.std.proofs.Common.{◌<◌, length, sym, subst}
use Rattle.cb_world.specs.World.{WorldState}
use Rattle.cb_world_tests.proofs.SmallWorlds.{within_memory}
use Rattle.cb_world_tests.proofs.seats.looked.Goals as goal

pub load_word-requires : goal.load_word-requires
load_word-requires c =
    subst (λ (w : WorldState). c.args.h.n < length w.desk.memory) (sym c.world.view_is)
    (within_memory c.args.world.now c.args.h.n c.requires.sound c.requires.frame)
