use Rattle.std.proofs.Common.{◌≡◌, ap, sym, subst}
use Rattle.std.proofs.lemmas.Result.{IfOk-weaker}
use Rattle.cb_world.specs.World.{WorldState, IsSoundWorld, empty_world}
use Rattle.cb_world.proofs.Laws.{empty_world_sound}
use Rattle.cb_world_tests.proofs.worlds.empty_world.Goals as goal

pub returns-clause-sound : goal.returns-clause-sound
returns-clause-sound c = IfOk-weaker c.new.result (λ world. world ≡ empty_world c.args.config)
    IsSoundWorld (λ world is. subst IsSoundWorld (sym is) (empty_world_sound _ c.in-Ok.ensures))
    c.new.ensures.empty

pub returns-clause-settings : goal.returns-clause-settings
returns-clause-settings c = IfOk-weaker c.new.result (λ world. world ≡ empty_world c.args.config)
    (λ world. world.desk.settings ≡ c.args.config)
    (λ world is. ap (λ (w : WorldState). w.desk.settings) is) c.new.ensures.empty
