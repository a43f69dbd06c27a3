use Rattle.std.proofs.Common.{◌≡◌, List, ℕ}
use Rattle.std.specs.Slots.{slots_items}
use Rattle.cb_rule.specs.Words.{stamps}
use Rattle.cb_shared.proofs.Filled.{AreWordsFilled}
use Rattle.cb_shared.proofs.filling.fill_objects.Given as goal

abbrev pub invariant-loop-h : goal.invariant-loop-h
invariant-loop-h l = (xs ys : List ℕ) × (l.desk ≡ record l.fn.desk { words = xs; versions = ys })
    × AreWordsFilled (slots_items l.rows.words) 1 l.h l.fn.desk.words xs
    × AreWordsFilled (slots_items l.rows.words) (stamps l.config) l.h l.fn.desk.versions ys
