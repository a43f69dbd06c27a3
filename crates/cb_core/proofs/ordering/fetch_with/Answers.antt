use Rattle.cb_types.specs.declared.job.Job.TheVariants as job
use Rattle.cb_core.proofs.Composing.{holding}
use Rattle.cb_core.proofs.OrderEnds.{ends_as, fetch_ends, fetch_left, left_as}
use Rattle.cb_core.proofs.ordering.fetch_with.Goals as goal

pub returns : goal.returns
returns g c = record {
  turned = record {
    ends = ends_as g.D.Desk.run g.D.Desk.shows
        (g.D.Desk.settings c.args.desk.now) (holding c.args.desk.now c.args.far.now)
        (holding c.fetch-fetched.new.desk c.fetch-fetched.new.far) (job.Fetch c.args.h) c.args.order _ _ _ _
        c.behind_fetch.ensures.keeps c.behind_fetch.ensures.answer
        (fetch_ends g.D.Desk.run g.D.Desk.shows
        (g.D.Desk.settings c.args.desk.now) (holding c.args.desk.now c.args.far.now)
        (holding c.fetch-fetched.new.desk c.fetch-fetched.new.far) c.args.h c.args.order c.fetch-fetched.result c.fetch-fetched.ensures.turned
        c.fetch-fetched.ensures.error);
    leaves = left_as g.D.Desk.run g.D.Desk.shows
        (g.D.Desk.settings c.args.desk.now) (holding c.args.desk.now c.args.far.now)
        (holding c.fetch-fetched.new.desk c.fetch-fetched.new.far) c.args.order _ _ c.behind_fetch.ensures.keeps
        (fetch_left g.D.Desk.run g.D.Desk.shows
        (g.D.Desk.settings c.args.desk.now) (holding c.args.desk.now c.args.far.now)
        (holding c.fetch-fetched.new.desk c.fetch-fetched.new.far) c.args.order c.fetch-fetched.result c.fetch-fetched.ensures.leaves);
  };
}
