use Rattle.cb_world.specs.Sound.{Sound}
use Rattle.cb_evict.proofs.Composed.{replied}
use Rattle.cb_evict.proofs.evicting.evict_now.Goals as goal

pub returns-in-Ok-clause-evict : goal.returns-in-Ok-clause-evict
returns-in-Ok-clause-evict g c =
    replied c.args.far.now c.evict_counted.new.far c.in-Ok.eviction
    c.reply_of.result (λ es. g.D.Desk.run c.args.desk.now es c.evict_counted.new.desk)
    (λ s. g.D.Desk.shows c.args.desk.now s × Sound s c.args.far.now)
    (λ t. Sound t c.evict_counted.new.far) c.reply_of.ensures c.in-Ok.ensures.evict
