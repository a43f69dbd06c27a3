use Rattle.std.proofs.Common.{sym, ◌∙◌}
use Rattle.std.proofs.lemmas.Result.{on_ok_weaker}
use Rattle.cb_evict.proofs.ShipParts.{due_for, puts_parity}
use Rattle.cb_evict.proofs.shipping.ship_due.Goals as goal

pub ship_parity-requires-clause-there : goal.ship_parity-requires-clause-there
ship_parity-requires-clause-there g c =
    let x = c.requires.there in (
      x.0,
      x.1,
      sym (c.are_made.ensures x.0 x.1) ∙ c.if-are_made.true,
      x.2.behind,
      x.2.within,
      x.2.count,
      x.2.few,
    )

pub ship_unmade-requires-clause-unmade : goal.ship_unmade-requires-clause-unmade
ship_unmade-requires-clause-unmade g c = λ batch there.
    sym (c.are_made.ensures batch there) ∙ c.if-are_made.false

pub returns-then-are_made-clause-ok : goal.returns-then-are_made-clause-ok
returns-then-are_made-clause-ok g c =
    on_ok_weaker c.ship_parity.result (λ is batch there.
    let x = c.requires.there in
    let due = due_for _ c.args.far.now x.0 batch c.args.position x.1 there x.2 in
    puts_parity (λ es. g.D.Desk.run c.args.desk.now es c.args.desk.now)
    (λ s. g.D.Desk.shows c.args.desk.now s) c.args.far.now c.ship_parity.new.far batch
    c.args.position c.args.shard (sym (c.are_made.ensures batch there) ∙ c.if-are_made.true)
    due.behind (g.met.D.Desk.none _) (is batch there)) c.ship_parity.ensures.ok
