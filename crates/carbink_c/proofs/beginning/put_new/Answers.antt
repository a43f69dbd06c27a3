use Rattle.carbink_c.proofs.Worlds.{new_sound}
use Rattle.carbink_c.proofs.beginning.put_new.Goals as goal

pub returns-in-Ok-clause-sound : goal.returns-in-Ok-clause-sound
returns-in-Ok-clause-sound c =
    new_sound c.put.new.self.kept.world c.in-Ok.held.value c.args.config c.requires.config c.put.ensures c.in-Ok.ensures
