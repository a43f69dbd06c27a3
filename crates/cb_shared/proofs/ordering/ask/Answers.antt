use Rattle.std.proofs.Common.{subst}
use Rattle.cb_world.specs.Orders.{KeepsOrder}
use Rattle.cb_shared.specs.declared.asked.Asked.{Asked}
use Rattle.cb_shared.specs.Ordering.{AsksBelow, order_run}
use Rattle.cb_shared.proofs.Asks.{fetch_asks, gather_asks, install_asks, land_asks}
use Rattle.cb_shared.proofs.ordering.ask.Goals as goal

pub install-requires-clause-kept : goal.install-requires-clause-kept
install-requires-clause-kept g c = let s = c.requires.sound in (
  s.0,
  s.2,
  subst (λ (k : Asked). KeepsOrder s.0 c.args.far.now (order_run k)) c.in-Install.is
      (c.requires.kept s.0 s.1 s.2),
)

pub fetch-requires-clause-handle : goal.fetch-requires-clause-handle
fetch-requires-clause-handle g c =
    subst (AsksBelow (g.D.Desk.settings c.args.desk.now)) c.in-Fetch.is c.requires.below

pub land-requires-clause-kept : goal.land-requires-clause-kept
land-requires-clause-kept g c = let s = c.requires.sound in (
  s.0,
  s.1,
  s.2,
  subst (λ (k : Asked). KeepsOrder s.0 c.args.far.now (order_run k)) c.in-Land.is
      (c.requires.kept s.0 s.1 s.2),
)

pub returns-in-Gather : goal.returns-in-Gather
returns-in-Gather g c = gather_asks g.D.Desk.run g.D.Desk.shows
    (g.D.Desk.settings c.args.desk.now) (record { desk = c.args.desk.now; far = c.args.far.now })
    (record { desk = c.gather.new.desk; far = c.gather.new.far })
    c.args.asked.now c.in-Gather.is c.gather.result
    c.gather.ensures.turned c.gather.ensures.error c.gather.ensures.leaves

pub returns-in-Install : goal.returns-in-Install
returns-in-Install g c = install_asks g.D.Desk.run g.D.Desk.shows
    (g.D.Desk.settings c.args.desk.now) (record { desk = c.args.desk.now; far = c.args.far.now })
    (record { desk = c.args.desk.now; far = c.install.new.far })
    c.args.asked.now _ c.in-Install.is c.install.result
    (g.met.D.Desk.none c.args.desk.now) c.install.ensures.turned
    (c.install.ensures.leaves (g.D.Desk.settings c.args.desk.now) c.requires.configured)
    (λ s shown sound. subst (λ (k : Asked). KeepsOrder s c.args.far.now (order_run k))
    c.in-Install.is (c.requires.kept s shown sound))

pub returns-in-Fetch : goal.returns-in-Fetch
returns-in-Fetch g c = fetch_asks g.D.Desk.run g.D.Desk.shows
    (g.D.Desk.settings c.args.desk.now) (record { desk = c.args.desk.now; far = c.args.far.now })
    (record { desk = c.fetch.new.desk; far = c.fetch.new.far })
    c.args.asked.now _ c.in-Fetch.is c.fetch.result c.fetch.ensures.turned
    c.fetch.ensures.unavailable c.fetch.ensures.error c.fetch.ensures.leaves

pub returns-in-Land : goal.returns-in-Land
returns-in-Land g c = land_asks g.D.Desk.run g.D.Desk.shows
    (g.D.Desk.settings c.args.desk.now) (record { desk = c.args.desk.now; far = c.args.far.now })
    (record { desk = c.land.new.desk; far = c.land.new.far })
    c.args.asked.now _ c.in-Land.is c.land.result c.land.ensures.turned
    c.land.ensures.no_frame c.land.ensures.unavailable c.land.ensures.error c.land.ensures.leaves
