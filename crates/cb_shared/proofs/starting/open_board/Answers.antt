use Rattle.cb_rule.proofs.Laws.{opens}
use Rattle.std.proofs.Common.{sym, subst}
use Rattle.std.proofs.Common.{List}
use Rattle.atomic_table.specs.Table.{opening}
use Rattle.cb_rule.specs.Locking.{Locked}
use Rattle.cb_rule.specs.Ruled.{Ruled}
use Rattle.cb_rule.specs.Slot.{LockSlot}
use Rattle.cb_rule.specs.Steps.{opener}
use Rattle.cb_shared.specs.Turning.{Did}
use Rattle.cb_shared.proofs.starting.open_board.Goals as goal

pub new-requires : goal.new-requires
new-requires c = let a = c.args.about.now in
    subst (λ (xs : List LockSlot). Ruled (Locked Did) a.first a.config
    (opening c.args.words.now xs (opener a.config))) (sym c.in_ok-slots.ensures)
    (opens a.first c.requires.first a.config c.args.words.now c.requires.long c.requires.zeros
    Did c.requires.accepted)
