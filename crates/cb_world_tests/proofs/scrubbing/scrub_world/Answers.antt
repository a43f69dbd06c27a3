use Rattle.std.proofs.Common.{sym, subst}
use Rattle.cb_world.specs.World.{WorldState, IsSoundWorld}
use Rattle.cb_scrub_world.specs.Scrub.{MayScrub}
use Rattle.cb_world_tests.proofs.ScrubbedWorld.{both_ok, world_again, world_may}
use Rattle.cb_world_tests.proofs.scrubbing.scrub_world.Goals as goal

pub scrub_twice-requires : goal.scrub_twice-requires
scrub_twice-requires c = record {
  may = subst (λ (w : WorldState). MayScrub w.far) (sym c.world.view_is)
      (world_may c.args.world.now c.requires);
}

pub returns : goal.returns
returns c =
    let sound = subst IsSoundWorld (sym c.world.view_is) c.requires in
    both_ok c.scrub_twice.result (λ given again. world_again _ c.scrub_twice.new.far sound given again)
    c.scrub_twice.ensures.given c.scrub_twice.ensures.sound
