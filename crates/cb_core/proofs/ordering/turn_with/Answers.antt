use Rattle.std.proofs.Common.{sym, subst}
use Rattle.cb_types.specs.declared.job.Job.{Job}
use Rattle.cb_core.specs.Ordered.{EndsWith}
use Rattle.cb_core.proofs.Composing.{holding}
use Rattle.cb_core.proofs.OrderEnds.{install_ends, install_left, no_order}
use Rattle.cb_core.proofs.ordering.turn_with.Goals as goal

pub install_with-requires-clause-kept : goal.install_with-requires-clause-kept
install_with-requires-clause-kept g c = let s = c.requires.sound in
    (s.0, s.2, c.requires.kept s.0 s.1 s.2)

pub fetch_with-requires-clause-handle : goal.fetch_with-requires-clause-handle
fetch_with-requires-clause-handle g c = rw c.in-Fetch.is at c.requires.job

pub land_with-requires-clause-kept : goal.land_with-requires-clause-kept
land_with-requires-clause-kept g c = let s = c.requires.sound in
    (s.0, s.1, s.2, c.requires.kept s.0 s.1 s.2)

pub returns-in-Gather-clause-ends : goal.returns-in-Gather-clause-ends
returns-in-Gather-clause-ends g c = subst (λ (j : Job). EndsWith g.D.Desk.run g.D.Desk.shows
    (g.D.Desk.settings c.args.desk.now)
    j c.args.order (holding c.args.desk.now c.args.far.now) c.gather_with.result.0 c.gather_with.result.1
    (holding c.gather_with.new.desk c.gather_with.new.far)) (sym c.in-Gather.is) c.gather_with.ensures.turned.ends

pub returns-in-Gather-clause-leaves : goal.returns-in-Gather-clause-leaves
returns-in-Gather-clause-leaves g c = c.gather_with.ensures.turned.leaves

pub returns-in-Fetch-clause-ends : goal.returns-in-Fetch-clause-ends
returns-in-Fetch-clause-ends g c = subst (λ (j : Job). EndsWith g.D.Desk.run g.D.Desk.shows
    (g.D.Desk.settings c.args.desk.now)
    j c.args.order (holding c.args.desk.now c.args.far.now) c.fetch_with.result.0 c.fetch_with.result.1
    (holding c.fetch_with.new.desk c.fetch_with.new.far)) (sym c.in-Fetch.is) c.fetch_with.ensures.turned.ends

pub returns-in-Fetch-clause-leaves : goal.returns-in-Fetch-clause-leaves
returns-in-Fetch-clause-leaves g c = c.fetch_with.ensures.turned.leaves

pub returns-in-Land-clause-ends : goal.returns-in-Land-clause-ends
returns-in-Land-clause-ends g c = subst (λ (j : Job). EndsWith g.D.Desk.run g.D.Desk.shows
    (g.D.Desk.settings c.args.desk.now)
    j c.args.order (holding c.args.desk.now c.args.far.now) c.land_with.result.0 c.land_with.result.1
    (holding c.land_with.new.desk c.land_with.new.far)) (sym c.in-Land.is) c.land_with.ensures.turned.ends

pub returns-in-Land-clause-leaves : goal.returns-in-Land-clause-leaves
returns-in-Land-clause-leaves g c = c.land_with.ensures.turned.leaves

pub returns-in-Install-clause-ends : goal.returns-in-Install-clause-ends
returns-in-Install-clause-ends g c = subst (λ (j : Job). EndsWith g.D.Desk.run g.D.Desk.shows
    (g.D.Desk.settings c.args.desk.now)
    j c.args.order (holding c.args.desk.now c.args.far.now) c.install_with.result.0 c.install_with.result.1
    (holding c.args.desk.now c.install_with.new.far)) (sym c.in-Install.is)
    (install_ends g.D.Desk.run g.D.Desk.shows
    (g.D.Desk.settings c.args.desk.now) (holding c.args.desk.now c.args.far.now)
    (holding c.args.desk.now c.install_with.new.far) c.args.order c.install_with.result.0 c.install_with.result.1
    (g.met.D.Desk.none c.args.desk.now) c.install_with.ensures.ends)

pub returns-in-Install-clause-leaves : goal.returns-in-Install-clause-leaves
returns-in-Install-clause-leaves g c = install_left g.D.Desk.run g.D.Desk.shows
    (g.D.Desk.settings c.args.desk.now) (holding c.args.desk.now c.args.far.now)
    (holding c.args.desk.now c.install_with.new.far) c.args.order c.install_with.result.0 c.install_with.result.1
    (g.met.D.Desk.none c.args.desk.now) c.install_with.ensures.ends
    (c.install_with.ensures.leaves (g.D.Desk.settings c.args.desk.now) c.requires.configured)
    c.requires.kept

pub unreachable-requires : goal.unreachable-requires
unreachable-requires g c = c.requires.needs (no_order c.args.job.now c.in_default.not-Gather
    c.in_default.not-Install c.in_default.not-Fetch c.in_default.not-Land)
