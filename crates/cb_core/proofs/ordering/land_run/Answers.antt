use Rattle.std.proofs.Common.{sym, ap, ◌∙◌, subst, Some}
use Rattle.cb_types.specs.declared.job.Job.TheVariants as job
use Rattle.cb_types.specs.declared.order.DecodeOrder.{DecodeOrder}
use Rattle.cb_types.specs.declared.order.Kept.TheVariants.{Decode}
use Rattle.cb_world.specs.Orders.{IsDecodeKept}
use Rattle.cb_core.specs.Ordered.{EndsWith}
use Rattle.cb_core.specs.OrderLeaves.{LeavesWith}
use Rattle.cb_core.proofs.Composing.{holding}
use Rattle.cb_core.proofs.OrderEnds.{as_not_run, land_left_unrun, land_not_run}
use Rattle.cb_core.proofs.TurnLeft.{laws_of}
use Rattle.cb_core.proofs.ordering.land_run.Goals as goal

pub run_decode-requires : goal.run_decode-requires
run_decode-requires g c = c.requires.kept.3.fits

pub land_made-requires-clause-kept : goal.land_made-requires-clause-kept
land_made-requires-clause-kept g c = let k = c.requires.kept in (
  k.0,
  k.1,
  k.2,
  subst (IsDecodeKept c.args.far.now) (sym (rw c.in-Ok.is at (c.run_decode.ensures.order))) k.3,
)

pub returns-in-Ok : goal.returns-in-Ok
returns-in-Ok g c = record {
  turned = record {
    ends = subst (λ (o : DecodeOrder). EndsWith g.D.Desk.run g.D.Desk.shows
        (g.D.Desk.settings c.args.desk.now)
        job.Land (Some (Decode o)) (holding c.args.desk.now c.args.far.now) c.land_made.result.0 c.land_made.result.1
        (holding c.land_made.new.desk c.land_made.new.far)) (rw c.in-Ok.is at (c.run_decode.ensures.order)) c.land_made.ensures.turned.ends;
    leaves = subst (λ (o : DecodeOrder). LeavesWith g.D.Desk.run g.D.Desk.shows
        (g.D.Desk.settings c.args.desk.now)
        (holding c.args.desk.now c.args.far.now) (holding c.land_made.new.desk c.land_made.new.far) (Some (Decode o)) c.land_made.result.0)
        (rw c.in-Ok.is at (c.run_decode.ensures.order)) c.land_made.ensures.turned.leaves;
  };
}

pub returns-in-Err : goal.returns-in-Err
returns-in-Err g c = record {
  turned = record {
    ends = let laws = laws_of g.D.Desk.run g.D.Desk.shows g.met.D.Desk.none
        g.met.D.Desk.more g.met.D.Desk.follows in
        land_not_run g.D.Desk.run g.D.Desk.shows laws (g.D.Desk.settings c.args.desk.now) c.requires.config
        (holding c.args.desk.now c.args.far.now) (holding c.args.desk.now c.not_run.new.far) c.args.order _ c.not_run.result.1
        (c.not_run.ensures.keeps ∙ ap (λ (o : DecodeOrder). Some (Decode o))
        (rw c.in-Err.is at (c.run_decode.ensures.back))) (g.met.D.Desk.none c.args.desk.now)
        (as_not_run c.args.far.now job.Land c.not_run.result.1 c.not_run.new.far c.not_run.ensures.late
        c.not_run.ensures.lacks);
    leaves = let laws = laws_of g.D.Desk.run g.D.Desk.shows g.met.D.Desk.none
        g.met.D.Desk.more g.met.D.Desk.follows in
        let k = c.requires.kept in
        land_left_unrun g.D.Desk.run g.D.Desk.shows laws (g.D.Desk.settings c.args.desk.now) c.requires.config
        (holding c.args.desk.now c.args.far.now) (holding c.args.desk.now c.not_run.new.far) c.args.order _ c.not_run.result.1
        (record { configured = c.requires.configured; shown = (k.0, k.1, k.2) }) c.requires.counted
        (c.not_run.ensures.keeps ∙ ap (λ (o : DecodeOrder). Some (Decode o))
        (rw c.in-Err.is at (c.run_decode.ensures.back))) (g.met.D.Desk.none c.args.desk.now)
        (as_not_run c.args.far.now job.Land c.not_run.result.1 c.not_run.new.far c.not_run.ensures.late
        c.not_run.ensures.lacks);
  };
}
