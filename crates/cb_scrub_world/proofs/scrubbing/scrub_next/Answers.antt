use Rattle.cb_scrub_world.proofs.Again.{few_given, may_again}
use Rattle.cb_scrub_world.proofs.Restored.{restores, stays_sound}
use Rattle.cb_scrub_world.proofs.scrubbing.scrub_next.Goals as goal

pub returns-clause-again : goal.returns-clause-again
returns-clause-again c = λ few.
    may_again c.args.after c.args.far.now c.scrub_least.new.far c.scrub_least.result c.requires c.scrub_least.ensures.scrubs c.scrub_least.ensures.error few

pub returns-clause-given : goal.returns-clause-given
returns-clause-given c =
    few_given c.args.after c.args.far.now c.scrub_least.new.far c.scrub_least.result c.requires c.scrub_least.ensures.scrubs c.scrub_least.ensures.error

pub returns-clause-sound : goal.returns-clause-sound
returns-clause-sound c = λ s sound.
    stays_sound c.args.after s c.args.far.now c.scrub_least.new.far c.scrub_least.result c.scrub_least.ensures.scrubs c.scrub_least.ensures.error sound

pub returns-clause-restored : goal.returns-clause-restored
returns-clause-restored c =
    restores c.args.after c.args.far.now c.scrub_least.new.far c.scrub_least.result c.scrub_least.ensures.scrubs c.scrub_least.ensures.word
