use Rattle.std.proofs.Common.{arith}
use Rattle.carbink_c.proofs.StepFew.{step_short}
use Rattle.carbink_c.proofs.stepping.answered.Goals as goal

pub put_bytes-requires : goal.put_bytes-requires
put_bytes-requires c =
    omega (
      arith,
      c.requires.large,
      step_short c.args.world.now c.step.new.world c.args.event.now c.in-Ok.answer c.requires.sound c.step.ensures.sound (rw c.in-Ok.is at c.step.ensures.step) (rw c.in-Ok.is at c.step.ensures.unavailable),
    )
