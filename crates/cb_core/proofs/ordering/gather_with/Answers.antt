use Rattle.cb_types.specs.declared.job.Job.TheVariants as job
use Rattle.cb_core.proofs.Composing.{holding}
use Rattle.cb_core.proofs.OrderEnds.{ends_as, gather_ends, gather_left, left_as}
use Rattle.cb_core.proofs.ordering.gather_with.Goals as goal

pub returns : goal.returns
returns g c = record {
  turned = record {
    ends = ends_as g.D.Desk.run g.D.Desk.shows
        (g.D.Desk.settings c.args.desk.now) (holding c.args.desk.now c.args.far.now)
        (holding c.gather-gathered.new.desk c.gather-gathered.new.far) job.Gather c.args.order _ _ _ _
        c.behind_gather.ensures.keeps c.behind_gather.ensures.answer
        (gather_ends g.D.Desk.run g.D.Desk.shows
        (g.D.Desk.settings c.args.desk.now) (holding c.args.desk.now c.args.far.now)
        (holding c.gather-gathered.new.desk c.gather-gathered.new.far) c.args.order c.gather-gathered.result c.gather-gathered.ensures.turned
        c.gather-gathered.ensures.error);
    leaves = left_as g.D.Desk.run g.D.Desk.shows
        (g.D.Desk.settings c.args.desk.now) (holding c.args.desk.now c.args.far.now)
        (holding c.gather-gathered.new.desk c.gather-gathered.new.far) c.args.order _ _ c.behind_gather.ensures.keeps
        (gather_left g.D.Desk.run g.D.Desk.shows
        (g.D.Desk.settings c.args.desk.now) (holding c.args.desk.now c.args.far.now)
        (holding c.gather-gathered.new.desk c.gather-gathered.new.far) c.args.order c.gather-gathered.result c.gather-gathered.ensures.leaves);
  };
}
