use Rattle.std.proofs.Common.{refl, subst}
use Rattle.cb_scrub_world.specs.Spoilt.{RestoresWorld}
use Rattle.cb_scrub_world.specs.declared.scrubbed.Scrubbed.{Scrubbed}
use Rattle.cb_world_tests.proofs.scrubbing.spoil_and_scrub.Goals as goal

pub returns-clause-sound : goal.returns-clause-sound
returns-clause-sound c = λ s sound.
    subst (λ (x : Scrubbed). RestoresWorld c.spoil.new.far x c.scrub_next.new.far)
    (c.if-not-tells_the_row.ensures refl) c.in_ok-scrubbed.ensures.restored s c.args.far.now sound
    (c.if-not-spoil.ensures.spoilt refl)
