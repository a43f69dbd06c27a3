use Rattle.cb_world_tests.proofs.SmallWorlds.{small_behind}
use Rattle.cb_world_tests.proofs.worlds.turn_of.Goals as goal

pub returns : goal.returns
returns c = record {
  world = small_behind c.args.world.now c.step.new.world c.args.job c.step.result c.requires.world
      c.step.ensures.sound c.step.ensures.step;
}
