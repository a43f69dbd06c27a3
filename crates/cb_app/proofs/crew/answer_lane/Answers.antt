use Rattle.std.proofs.Common.{◌≡◌, List, [], sym, ◌∙◌, subst}
use Rattle.std.proofs.lemmas.Result.{IfOk-weaker}
use Rattle.cb_script.specs.declared.script.Line.{Line}
use Rattle.cb_shared.specs.Passes.{record_of}
use Rattle.cb_shared.specs.Recalls.{first_version_of}
use Rattle.cb_lanes.specs.AloneUntil.{LaneKeepsAlone}
use Rattle.cb_app.specs.ByLane.{of_lane}
use Rattle.cb_app.specs.Crew.{IsLaneTold}
use Rattle.cb_app.proofs.Records.{lane_told}
use Rattle.cb_app.proofs.ScopesTold.{no_scope}
use Rattle.cb_app.proofs.crew.answer_lane.Goals as goal

pub lane_body-requires-clause-lines : goal.lane_body-requires-clause-lines
lane_body-requires-clause-lines g c = λ κs within.
    rw (c.as_slice.ensures.items, c.in_ok-own.ensures) c.requires.lines

pub returns-in-Ok : goal.returns-in-Ok
returns-in-Ok g c = record {
  told = λ given named known.
      let s = c.args.shared.now in
      let lines = of_lane c.args.lane.n c.args.lines.now in
      let end = c.in-Ok.ensures in
      let own : c.as_slice.result.now ≡ lines = c.as_slice.ensures.items ∙ c.in_ok-own.ensures in
      let told : IsLaneTold s given lines c.in-Ok.end =
      lane_told s c.args.lane.n c.args.names.now (record_of c.args.pass) lines c.in-Ok.end
      c.requires.fresh c.requires.names end.of.0 (end.lines ∙ own) end.answered end.last
      end.part end.goes end.rises end.scoped
      (subst (λ (ls : List Line). first_version_of s ≡ 1 → (record_of c.args.pass).written ≡ []
      → LaneKeepsAlone s.config.nodes c.args.lane.n c.args.names.now ls c.in-Ok.end.answers)
      own end.alone) c.requires.lines given named known
      (no_scope c.args.lane.n given known.3 c.requires.other) in
      IfOk-weaker c.with_text.result (λ t. t.end ≡ c.in-Ok.end)
      (λ t. IsLaneTold s given lines t.end)
      (λ t same. subst (IsLaneTold s given lines) (sym same) told) c.with_text.ensures.end;
  text = c.with_text.ensures.text;
}
