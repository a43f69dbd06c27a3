use Rattle.std.proofs.Common.{◌≡◌, List, ℕ}
use Rattle.std.specs.Slots.{slots_items}
use Rattle.cb_rule.specs.Words.{base}
use Rattle.cb_shared.proofs.Filled.{AreWordsFilled}
use Rattle.cb_shared.proofs.filling.fill_memory.Given as goal

abbrev pub invariant-loop-place : goal.invariant-loop-place
invariant-loop-place l = (xs : List ℕ) × (l.desk ≡ record l.fn.desk { memory = xs })
    × AreWordsFilled (slots_items l.rows.words) (base l.config) l.place l.fn.desk.memory xs
