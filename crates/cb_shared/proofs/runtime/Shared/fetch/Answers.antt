use Rattle.std.proofs.Common.{ℕ, ◌∙◌, Option, subst, sym}
use Rattle.cb_types.specs.declared.order.Kept.{Kept}
use Rattle.cb_record.specs.Parts.{Grows, Part}
use Rattle.cb_core.specs.Ordered.{fetch_answer}
use Rattle.cb_shared.specs.Passes.{record_of}
use Rattle.cb_shared.specs.Seeking.{FindsKnown}
use Rattle.cb_shared.specs.UnderLock.{IsBelow}
use Rattle.cb_shared.proofs.Handed.{fetch_handed, fetched_below}
use Rattle.cb_shared.proofs.runtime.Shared.fetch.Goals as goal

pub find_swapped-requires-clause-handle : goal.find_swapped-requires-clause-handle
find_swapped-requires-clause-handle g c = subst (IsBelow c.args.self.now.config)
    (sym c.fetched_of.ensures) (fetched_below c.args.self.now.config c.args.h.n
    (fetch_answer c.fetch_within-fetching.result) c.requires.handle)

pub returns-clause-turn : goal.returns-clause-turn
returns-clause-turn g c = (
  record_of c.fetch_within-fetching.new.pass,
  c.fetch_within-fetching.ensures.turn,
  subst (λ (o : Option ℕ). (d : Part)
      × Grows (record_of c.fetch_within-fetching.new.pass) d (record_of c.find_swapped.new.pass)
      × FindsKnown o (record_of c.fetch_within-fetching.new.pass) d) c.fetched_of.ensures
      c.find_swapped.ensures.finds,
)

pub returns-clause-keeps : goal.returns-clause-keeps
returns-clause-keeps g c =
    ◌∙◌ {A = Option Kept} c.find_swapped.ensures.order c.fetch_within-fetching.ensures.keeps

pub returns-clause-handed : goal.returns-clause-handed
returns-clause-handed g c = fetch_handed c.fetch_within-fetching.result
    (record_of c.args.pass.now).order (record_of c.find_swapped.new.pass).order
    (returns-clause-keeps g c)

pub returns-clause-plain : goal.returns-clause-plain
returns-clause-plain g c = c.fetch_within-fetching.ensures.plain

pub returns-clause-runs : goal.returns-clause-runs
returns-clause-runs g c = c.fetch_within-fetching.ensures.runs
