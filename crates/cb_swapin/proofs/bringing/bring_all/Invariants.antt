use Rattle.cb_swapin.specs.Waiting.{AreStored}
use Rattle.cb_swapin.proofs.SlotNames.{ClearedBelow}
use Rattle.cb_swapin.proofs.SlotsBrought.{BroughtBelow}
use Rattle.cb_swapin.proofs.bringing.bring_all.Given as goal

abbrev pub invariant-loop-slot : goal.invariant-loop-slot
invariant-loop-slot g l = ClearedBelow l.slot l.slots l.fn.homes l.homes
    × BroughtBelow (λ es. g.D.Desk.run l.fn.desk es l.desk)
    (λ s. g.D.Desk.shows l.fn.desk s × AreStored s l.frame l.class l.slots) l.slot l.slots l.class
    l.frame
