use Rattle.std.proofs.Common.{refl, subst, sym}
use Rattle.std.proofs.lemmas.Result.{IfOk-weaker}
use Rattle.cb_world.proofs.Laws.{empty_world_sound}
use Rattle.cb_shared_bench.specs.Callers.{IsBenchWorld, the_config}
use Rattle.cb_shared_bench.proofs.still.empty.Goals as goal

pub returns : goal.returns
returns c = IfOk-weaker c.new.result _ _ (λ w e. subst IsBenchWorld (sym e)
    (record { sound = empty_world_sound the_config c.in-Ok.ensures; settings = refl }))
    c.new.ensures.empty
