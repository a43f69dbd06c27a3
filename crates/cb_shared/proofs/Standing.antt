-- The rule of the table of a runtime says what stands between any two steps.
use Rattle.cb_rule.specs.Locking.{Locked}
use Rattle.cb_rule.specs.Ruled.{Ruled}
use Rattle.cb_rule.specs.Slot.{Table}
use Rattle.cb_rule.proofs.Laws.{are_told, promises, turns_stand, world_shown}
use Rattle.cb_shared.specs.declared.setup.Setup.{Setup}
use Rattle.cb_shared.specs.Standing.{TableStands}
use Rattle.cb_shared.specs.Turning.{Did}

pub table_stands : TableStands (λ (k : Setup) (s : Table). Ruled (Locked Did) k.first k.config s)
table_stands k s r = record {
  words = promises (Locked Did) k.first k.config s r;
  turns = turns_stand Did k.first k.config s r;
  told = are_told Did k.first k.config s r;
  world = λ nobody. (r.far.chain r.far.count, world_shown Did k.first k.config s r nobody);
}
