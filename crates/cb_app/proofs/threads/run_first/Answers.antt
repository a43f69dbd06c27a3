use Rattle.std.proofs.Common.{◌≡◌, List, [], refl, sym, ap, ◌∙◌, subst}
use Rattle.cb_script.specs.declared.script.Line.{Line}
use Rattle.cb_script.specs.Form.{AreLines}
use Rattle.cb_shared.specs.Passes.{record_of}
use Rattle.cb_shared.specs.Recalls.{first_version_of}
use Rattle.cb_lanes.specs.declared.body.Named.{Named}
use Rattle.cb_lanes.specs.AloneUntil.{LaneKeepsAlone}
use Rattle.cb_lanes.specs.Bodies.{AreNamesOf, KnowsNames}
use Rattle.cb_lanes.proofs.Laws.{lane_on_record}
use Rattle.cb_app.specs.ByLane.{of_lane}
use Rattle.cb_app.specs.Crew.{IsFreshRecord}
use Rattle.cb_app.proofs.AnswersRise.{none_known}
use Rattle.cb_app.proofs.Crews.{of_lane_lines}
use Rattle.cb_app.proofs.Records.{first_known, lane_told, opener_fresh}
use Rattle.cb_app.proofs.threads.run_first.Goals as goal

pub lane_body-requires-clause-lines : goal.lane_body-requires-clause-lines
lane_body-requires-clause-lines g c = λ κs within.
    let are : AreLines c.args.shared.now.config.nodes [] c.args.s.now.lines =
    rw c.requires.begun.config c.requires.lines in
    rw (c.as_slice-2.ensures.items, c.in_ok-lines.ensures, c.as_slice.ensures.items)
    (of_lane_lines c.args.shared.now.config.nodes 0 [] c.args.s.now.lines are)

pub returns-in-Ok-clause-told : goal.returns-in-Ok-clause-told
returns-in-Ok-clause-told g c =
    let named = subst (λ (ns : List Named). AreNamesOf ns []) (sym c.new-names.ensures.empty) (λ name. refl) in
    let fresh = subst IsFreshRecord (sym c.requires.begun.begun)
    (opener_fresh c.args.s.now.config) in
    let nodes = c.args.shared.now.config.nodes in
    let are : AreLines nodes [] c.args.s.now.lines = rw c.requires.begun.config c.requires.lines in
    let lines : c.as_slice-2.result.now ≡ of_lane 0 c.args.s.now.lines =
    c.as_slice-2.ensures.items ∙ c.in_ok-lines.ensures ∙ ap (of_lane 0) c.as_slice.ensures.items in
    lane_told c.args.shared.now 0 c.new-names.result (record_of c.args.pass) (of_lane 0 c.args.s.now.lines) c.in-Ok.end
    fresh (subst (KnowsNames (record_of c.args.pass)) (sym c.new-names.ensures.empty) tt) c.in-Ok.ensures.of.0
    (c.in-Ok.ensures.lines ∙ lines)
    c.in-Ok.ensures.answered c.in-Ok.ensures.last c.in-Ok.ensures.part c.in-Ok.ensures.goes c.in-Ok.ensures.rises
    c.in-Ok.ensures.scoped (subst (λ (ls : List Line). first_version_of c.args.shared.now ≡ 1 → (record_of c.args.pass).written ≡ []
    → LaneKeepsAlone nodes 0 c.new-names.result ls c.in-Ok.end.answers) lines c.in-Ok.ensures.alone)
    (of_lane_lines nodes 0 [] c.args.s.now.lines are) [] named (none_known (record_of c.args.pass)) refl

pub returns-in-Ok-clause-known : goal.returns-in-Ok-clause-known
returns-in-Ok-clause-known g c =
    let named = subst (λ (ns : List Named). AreNamesOf ns []) (sym c.new-names.ensures.empty) (λ name. refl) in
    first_known c.new-names.result c.in-Ok.end.answers (record_of c.args.pass) (record_of c.in-Ok.end.pass)
    c.in-Ok.ensures.part named

pub returns-in-Ok-clause-stand : goal.returns-in-Ok-clause-stand
returns-in-Ok-clause-stand g c =
    let named = subst (λ (ns : List Named). AreNamesOf ns []) (sym c.new-names.ensures.empty) (λ name. refl) in
    let fresh = subst IsFreshRecord (sym c.requires.begun.begun)
    (opener_fresh c.args.s.now.config) in
    lane_on_record c.args.shared.now.config c.new-names.result c.in-Ok.end.answers (record_of c.args.pass)
    (record_of c.in-Ok.end.pass) fresh.pins c.in-Ok.ensures.goes [] named
