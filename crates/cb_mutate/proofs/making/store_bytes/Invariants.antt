use Rattle.std.proofs.Common.{ℕ, List}
use Rattle.cb_mutate.specs.Stores.{stores_from}
use Rattle.cb_mutate.proofs.Packing.{AreFirstWords}
use Rattle.cb_mutate.proofs.making.store_bytes.Given as goal

abbrev pub invariant-loop-i : goal.invariant-loop-i
invariant-loop-i g l = (words : List ℕ) × AreFirstWords l.bytes words l.i
    × g.D.Desk.run l.fn.desk (stores_from l.place words) l.desk
