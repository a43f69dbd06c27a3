-- A turn leaves a small world small; and a sound world has a memory word for each frame.
use Rattle.std.proofs.Common.{ℕ, ◌<◌, Result, Ok, Err, length, ◌∙◌, arith}
use Rattle.std.specs.Prelude.{IfOk, OnOk}
use Rattle.cb_member.specs.declared.no_memory.NoMemory.{NoMemory}
use Rattle.cb_types.specs.declared.job.Job.{Job}
use Rattle.cb_types.specs.declared.reply.Reply.{Reply}
use Rattle.cb_world.specs.World.{WorldState, IsSoundWorld}
use Rattle.cb_core.specs.declared.event.Event.TheVariants.{Turn}
use Rattle.cb_core.specs.Step.{Step}
use Rattle.cb_core.proofs.Laws.{step_settings}
use Rattle.cb_world_tests.specs.Worlds.{IsSmallWorld}

pub small_behind : (old new : WorldState) (job : Job) (r : Result Reply NoMemory)
    → IsSmallWorld old → IsSoundWorld new → IfOk r (λ reply. Step old (Turn 0 job) reply new)
    → OnOk r (IsSmallWorld new)
small_behind old new job (Ok reply) was sound step = record {
  sound = sound;
  settings = step_settings old new (Turn 0 job) reply step ∙ was.settings;
}
small_behind old new job (Err e) was sound step = tt

pub within_memory : (w : WorldState) (n : ℕ) → IsSoundWorld w → n < w.desk.settings.frames
    → n < length w.desk.memory
within_memory w n sound frame = let sized = sound.known.sized.memory in omega (arith, sized, frame)
