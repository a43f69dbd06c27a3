use Rattle.std.proofs.Common.{ℕ, Option, sym, subst}
use Rattle.cb_record.specs.Parts.{Grows, Part}
use Rattle.cb_shared.specs.Passes.{record_of}
use Rattle.cb_shared.specs.Seeking.{FindsKnown}
use Rattle.cb_shared.specs.UnderLock.{IsBelow}
use Rattle.cb_shared.proofs.Seeking.{swapped_below}
use Rattle.cb_shared.proofs.runtime.Shared.turn.Goals as goal

pub find_swapped-requires-clause-handle : goal.find_swapped-requires-clause-handle
find_swapped-requires-clause-handle g c = subst (IsBelow c.args.self.now.config)
    (sym c.swapped_of.ensures) (swapped_below c.args.self.now.config c.args.job.now
    c.turn_within-reply.result c.requires.job)

pub returns-clause-turn : goal.returns-clause-turn
returns-clause-turn g c = (
  record_of c.turn_within-reply.new.pass,
  c.turn_within-reply.ensures.turn,
  subst (λ (o : Option ℕ). (d : Part)
      × Grows (record_of c.turn_within-reply.new.pass) d (record_of c.find_swapped.new.pass)
      × FindsKnown o (record_of c.turn_within-reply.new.pass) d) c.swapped_of.ensures
      c.find_swapped.ensures.finds,
)
