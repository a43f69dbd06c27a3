use Rattle.std.proofs.Common.{◌≡◌, ℕ, List, length}
use Rattle.cb_filter.specs.Copies.{copied_from}
use Rattle.cb_filter.proofs.copying.copy_words.Given as goal

abbrev pub invariant-loop-i : goal.invariant-loop-i
invariant-loop-i g l = (words : List ℕ) × (length words ≡ l.i)
    × g.D.Desk.run l.fn.desk (copied_from l.from l.to words) l.desk
