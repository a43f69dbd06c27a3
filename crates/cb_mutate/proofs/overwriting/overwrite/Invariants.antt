use Rattle.std.proofs.Common.{◌≡◌, ℕ, ◌*◌, List, length}
use Rattle.cb_world.specs.declared.access.Access.{Access}
use Rattle.cb_world.specs.Memory.{window, put, words_for}
use Rattle.cb_world.specs.declared.shown.Shown.{Shown}
use Rattle.cb_world.specs.Played.{played}
use Rattle.cb_world.specs.Touches.{Touches}
use Rattle.cb_world.specs.Allowed.{Allowed}
use Rattle.cb_mutate.specs.Stores.{AreStores}
use Rattle.cb_world.specs.Claimed.{OwnsAll}
use Rattle.cb_world.specs.Write.{IsWriteBelow}
use Rattle.cb_mutate.proofs.Bytes.{IsWordwiseBelow}
use Rattle.cb_mutate.proofs.overwriting.overwrite.Given as goal

abbrev pub invariant-loop-i : goal.invariant-loop-i
invariant-loop-i g l = (es : List Access) × g.D.Desk.run l.fn.desk es l.desk × AreStores es
    × ((h : ℕ) → Touches h l.place l.len es)
    × ((s : Shown) → g.D.Desk.shows l.fn.desk s → OwnsAll s l.place l.len → (new : List ℕ)
    × IsWriteBelow (8 * l.i) (window s.memory l.place (words_for l.len)) l.at l.bytes new
    × IsWordwiseBelow l.i (window s.memory l.place (words_for l.len)) l.at (length l.bytes) new
    × (played es s ≡ record s { memory = put s.memory l.place new }) × Allowed s es)
