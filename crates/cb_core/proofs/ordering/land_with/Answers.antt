use Rattle.std.proofs.Common.{refl, sym, ap, ◌∙◌, subst, None, Option, Some}
use Rattle.cb_types.specs.declared.job.Job.TheVariants as job
use Rattle.cb_types.specs.declared.order.Kept.{Kept}
use Rattle.cb_world.specs.Orders.{KeepsOrder}
use Rattle.cb_core.specs.Ordered.{EndsWith}
use Rattle.cb_core.specs.OrderLeaves.{LeavesWith}
use Rattle.cb_core.proofs.Composing.{holding}
use Rattle.cb_core.proofs.OrderEnds.{ends_as, land_ends, land_left, left_as}
use Rattle.cb_core.proofs.ordering.land_with.Goals as goal

pub land_run-requires-clause-kept : goal.land_run-requires-clause-kept
land_run-requires-clause-kept g c = let k = c.requires.kept in
    (k.0, k.1, k.2, subst (KeepsOrder k.0 c.args.far.now) (c.in-Some-Decode.is ∙ ap Some c.in-Some-Decode.field-0-is) k.3)

pub returns-in-Some-Decode : goal.returns-in-Some-Decode
returns-in-Some-Decode g c = record {
  turned = record {
    ends = subst (λ (o : Option Kept). EndsWith g.D.Desk.run g.D.Desk.shows
        (g.D.Desk.settings c.args.desk.now)
        job.Land o (holding c.args.desk.now c.args.far.now) c.land_run.result.0 c.land_run.result.1
        (holding c.land_run.new.desk c.land_run.new.far)) (sym (c.in-Some-Decode.is ∙ ap Some c.in-Some-Decode.field-0-is)) c.land_run.ensures.turned.ends;
    leaves = subst (λ (o : Option Kept). LeavesWith g.D.Desk.run g.D.Desk.shows
        (g.D.Desk.settings c.args.desk.now)
        (holding c.args.desk.now c.args.far.now) (holding c.land_run.new.desk c.land_run.new.far) o c.land_run.result.0) (sym (c.in-Some-Decode.is ∙ ap Some c.in-Some-Decode.field-0-is))
        c.land_run.ensures.turned.leaves;
  };
}

pub returns-in-Some-Encode : goal.returns-in-Some-Encode
returns-in-Some-Encode g c = record {
  turned = record {
    ends = subst (λ (o : Option Kept). EndsWith g.D.Desk.run g.D.Desk.shows
        (g.D.Desk.settings c.args.desk.now)
        job.Land o (holding c.args.desk.now c.args.far.now) c.behind_land.result.0 c.behind_land.result.1
        (holding c.land-ended.new.desk c.land-ended.new.far)) (sym (c.in-Some-Encode.is ∙ ap Some c.in-Some-Encode.field-0-is))
        (ends_as g.D.Desk.run g.D.Desk.shows
        (g.D.Desk.settings c.args.desk.now) (holding c.args.desk.now c.args.far.now)
        (holding c.land-ended.new.desk c.land-ended.new.far) job.Land _ _ _ _ _
        c.behind_land.ensures.keeps c.behind_land.ensures.answer
        (land_ends g.D.Desk.run g.D.Desk.shows
        (g.D.Desk.settings c.args.desk.now) (holding c.args.desk.now c.args.far.now)
        (holding c.land-ended.new.desk c.land-ended.new.far) _ None c.land-ended.result refl c.land-ended.ensures.turned
        c.land-ended.ensures.error));
    leaves = subst (λ (o : Option Kept). LeavesWith g.D.Desk.run g.D.Desk.shows
        (g.D.Desk.settings c.args.desk.now)
        (holding c.args.desk.now c.args.far.now) (holding c.land-ended.new.desk c.land-ended.new.far) o c.behind_land.result.0) (sym (c.in-Some-Encode.is ∙ ap Some c.in-Some-Encode.field-0-is))
        (left_as g.D.Desk.run g.D.Desk.shows
        (g.D.Desk.settings c.args.desk.now) (holding c.args.desk.now c.args.far.now)
        (holding c.land-ended.new.desk c.land-ended.new.far) _ _ _ c.behind_land.ensures.keeps
        (land_left g.D.Desk.run g.D.Desk.shows
        (g.D.Desk.settings c.args.desk.now) (holding c.args.desk.now c.args.far.now)
        (holding c.land-ended.new.desk c.land-ended.new.far) _ c.land-ended.result c.land-ended.ensures.leaves));
  };
}

pub returns-in-None : goal.returns-in-None
returns-in-None g c = record {
  turned = record {
    ends = subst (λ (o : Option Kept). EndsWith g.D.Desk.run g.D.Desk.shows
        (g.D.Desk.settings c.args.desk.now)
        job.Land o (holding c.args.desk.now c.args.far.now) c.behind_land-in-None.result.0 c.behind_land-in-None.result.1
        (holding c.land-ended-in-None.new.desk c.land-ended-in-None.new.far)) (sym c.in-None.is)
        (ends_as g.D.Desk.run g.D.Desk.shows
        (g.D.Desk.settings c.args.desk.now) (holding c.args.desk.now c.args.far.now)
        (holding c.land-ended-in-None.new.desk c.land-ended-in-None.new.far) job.Land _ _ _ _ _
        c.behind_land-in-None.ensures.keeps c.behind_land-in-None.ensures.answer
        (land_ends g.D.Desk.run g.D.Desk.shows
        (g.D.Desk.settings c.args.desk.now) (holding c.args.desk.now c.args.far.now)
        (holding c.land-ended-in-None.new.desk c.land-ended-in-None.new.far) _ None c.land-ended-in-None.result refl c.land-ended-in-None.ensures.turned
        c.land-ended-in-None.ensures.error));
    leaves = subst (λ (o : Option Kept). LeavesWith g.D.Desk.run g.D.Desk.shows
        (g.D.Desk.settings c.args.desk.now)
        (holding c.args.desk.now c.args.far.now) (holding c.land-ended-in-None.new.desk c.land-ended-in-None.new.far) o c.behind_land-in-None.result.0) (sym c.in-None.is)
        (left_as g.D.Desk.run g.D.Desk.shows
        (g.D.Desk.settings c.args.desk.now) (holding c.args.desk.now c.args.far.now)
        (holding c.land-ended-in-None.new.desk c.land-ended-in-None.new.far) _ _ _ c.behind_land-in-None.ensures.keeps
        (land_left g.D.Desk.run g.D.Desk.shows
        (g.D.Desk.settings c.args.desk.now) (holding c.args.desk.now c.args.far.now)
        (holding c.land-ended-in-None.new.desk c.land-ended-in-None.new.far) _ c.land-ended-in-None.result c.land-ended-in-None.ensures.leaves));
  };
}
