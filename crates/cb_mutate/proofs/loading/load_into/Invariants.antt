use Rattle.cb_world.specs.Claimed.{OwnsAll}
use Rattle.cb_mutate.proofs.Loaded.{LoadsBelow}
use Rattle.cb_mutate.proofs.loading.load_into.Given as goal

abbrev pub invariant-loop-i : goal.invariant-loop-i
invariant-loop-i g l = LoadsBelow (λ es. g.D.Desk.run l.fn.desk es l.desk)
    (λ s. g.D.Desk.shows l.fn.desk s × OwnsAll s l.place l.len) l.place l.len l.i l.room
