use Rattle.std.proofs.Common.{ℕ, subst, arith}
use Rattle.cb_shared.specs.Recalls.{Recalls}
use Rattle.cb_shared.specs.Seats.{record_at}
use Rattle.cb_shared.proofs.Recalled.{recalls_at}
use Rattle.cb_shared.proofs.recalling.recall_at.Goals as goal

pub load-requires : goal.load-requires
load-requires g c = let o = c.requires.of in (
  o.table,
  (let z = o.words in omega arith),
  recalls_at c.args.top.now.key.first _ c.requires.picks c.args.top.now.key.config _ _ _ _,
)

pub returns-clause-same : goal.returns-clause-same
returns-clause-same g c = (c.load.ensures.0, c.load.ensures.1, c.load.ensures.2.0)

pub returns-clause-own : goal.returns-clause-own
returns-clause-own g c =
    subst (λ (n : ℕ). Recalls n (record_at c.args.seat.now)) c.requires.picks c.load.ensures.2.1
