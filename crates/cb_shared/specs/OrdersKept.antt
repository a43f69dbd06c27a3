-- What turns leave of the order that their pass keeps.
use Rattle.std.specs.Prelude.{◌≡◌, List, [], ◌∷◌, ◌++◌, Option, None, Some}
use Rattle.cb_types.specs.declared.job.Job.{Job}
use Rattle.cb_types.specs.declared.job.Job.TheVariants as jobs
use Rattle.cb_types.specs.declared.order.DecodeOrder.{DecodeOrder}
use Rattle.cb_types.specs.declared.order.EncodeOrder.{EncodeOrder}
use Rattle.cb_types.specs.declared.order.Kept.{Kept}
use Rattle.cb_types.specs.declared.order.Kept.TheVariants.{Encode, Decode}
use Rattle.cb_types.specs.declared.reply.Reply.{Reply}
use Rattle.cb_types.specs.declared.reply.Reply.TheVariants as answer
use Rattle.cb_evict.specs.InstallRule.{kept_behind}
use Rattle.cb_core.specs.OrderParts.{landed_order}
use Rattle.cb_rule.specs.declared.turn.Turn.{Turn}
use Rattle.cb_record.specs.Parts.{keeps_after}

-- the order that a gather hands out replaces the one before
abbrev pub GatherKeeps : Reply → Option Kept → Option Kept → Type 0
GatherKeeps (answer.Batch id) order keeps =
    (o : EncodeOrder) × (keeps ≡ Some (Encode o)) × (o.set ≡ id.n)
GatherKeeps r order keeps = keeps ≡ order

-- so does the one that a fetch hands out
abbrev pub FetchKeeps : Reply → Option Kept → Option Kept → Type 0
FetchKeeps (answer.Fetched id position) order keeps =
    (o : DecodeOrder) × (keeps ≡ Some (Decode o)) × (o.set ≡ id.n) × (o.position ≡ position)
FetchKeeps r order keeps = keeps ≡ order

-- What is kept after a turn of this job with this reply: an order that is handed out; none after an
-- install or a landing that is done; and else, and after every other job, the order that was kept
-- before.
abbrev pub LeavesOrder : Job → Reply → Option Kept → Option Kept → Type 0
LeavesOrder jobs.Gather r order keeps = GatherKeeps r order keeps
LeavesOrder jobs.Install r order keeps = keeps ≡ kept_behind r order
LeavesOrder (jobs.Fetch handle) r order keeps = FetchKeeps r order keeps
LeavesOrder jobs.Land r order keeps = keeps ≡ landed_order order r
LeavesOrder job r order keeps = keeps ≡ order

-- each of these turns, the newest first, began with the order that the one before it kept, and the
-- first one with this
abbrev pub KeepInTurn : Option Kept → List Turn → Type 0
KeepInTurn order [] = Unit {0}
KeepInTurn order (t ∷ ts) = (t.order ≡ keeps_after ts order) × KeepInTurn order ts

-- The turns of a whole record, and the order that its pass keeps. A pass begins with none of both.
-- Each of its turns begins with the order that the pass keeps, which from there on is the one that
-- the turn leaves. A pass that took another one in has the turns of both, and keeps its own order.
pub data AreOfPasses : List Turn → Option Kept → Type 0 where
  begun : AreOfPasses [] None
  turned : (t : Turn) (ts : List Turn) → AreOfPasses ts t.order → AreOfPasses (t ∷ ts) t.keeps
  took_in : (us ts : List Turn) (other own : Option Kept) → AreOfPasses us other
      → AreOfPasses ts own → AreOfPasses (us ++ ts) own
