use Rattle.std.proofs.Common.{refl, ap, ◌∙◌, Some}
use Rattle.cb_types.specs.declared.job.Job.TheVariants as job
use Rattle.cb_types.specs.declared.order.DecodeOrder.{DecodeOrder}
use Rattle.cb_types.specs.declared.order.Kept.TheVariants.{Decode}
use Rattle.cb_core.specs.Ordered.{land_keeps}
use Rattle.cb_core.proofs.Composing.{holding}
use Rattle.cb_core.proofs.OrderEnds.{ends_as, land_ends, land_left, left_as}
use Rattle.cb_core.proofs.ordering.land_made.Goals as goal

pub returns : goal.returns
returns g c = record {
  turned = record {
    ends = ends_as g.D.Desk.run g.D.Desk.shows
        (g.D.Desk.settings c.args.desk.now) (holding c.args.desk.now c.args.far.now)
        (holding c.land-ended.new.desk c.land-ended.new.far) job.Land (Some (Decode c.args.done.order)) _ _ _ _
        (c.behind_land.ensures.keeps ∙ ap (λ (o : DecodeOrder).
        land_keeps (Some (Decode o)) c.land-ended.result) c.into_order.ensures)
        c.behind_land.ensures.answer
        (land_ends g.D.Desk.run g.D.Desk.shows
        (g.D.Desk.settings c.args.desk.now) (holding c.args.desk.now c.args.far.now)
        (holding c.land-ended.new.desk c.land-ended.new.far) (Some (Decode c.args.done.order)) _ c.land-ended.result refl
        c.land-ended.ensures.turned c.land-ended.ensures.error);
    leaves = left_as g.D.Desk.run g.D.Desk.shows
        (g.D.Desk.settings c.args.desk.now) (holding c.args.desk.now c.args.far.now)
        (holding c.land-ended.new.desk c.land-ended.new.far) (Some (Decode c.args.done.order)) _ _
        (c.behind_land.ensures.keeps ∙ ap (λ (o : DecodeOrder).
        land_keeps (Some (Decode o)) c.land-ended.result) c.into_order.ensures)
        (land_left g.D.Desk.run g.D.Desk.shows
        (g.D.Desk.settings c.args.desk.now) (holding c.args.desk.now c.args.far.now)
        (holding c.land-ended.new.desk c.land-ended.new.far) (Some (Decode c.args.done.order)) c.land-ended.result
        c.land-ended.ensures.leaves);
  };
}
