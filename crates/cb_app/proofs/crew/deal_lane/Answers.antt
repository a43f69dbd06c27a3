use Rattle.std.proofs.Common.{◌+◌, ◌≤◌, ◌∙◌, refl, arith}
use Rattle.std.proofs.lemmas.Result.{IfOk-weaker}
use Rattle.cb_shared.specs.Passes.{record_of}
use Rattle.cb_app.specs.Crew.{IsDealt}
use Rattle.std.specs.List.{AllByRecursion}
use Rattle.cb_app.specs.CrewTurns.{IsLane, bodies_of}
use Rattle.cb_app.proofs.CrewTaken.{bodies_more, lanes_more}
use Rattle.cb_app.proofs.Crews.{dealt_lane, dealt_over}
use Rattle.cb_app.proofs.crew.deal_lane.Goals as goal

pub returns : goal.returns
returns c = record {
  dealt = λ lines v some d.
      let s = c.args.shared.now in
      let n = c.args.before in
      let p = c.args.pass.now in
      let enough : 2 ≤ (record_of p).share = omega (arith, c.requires.share, c.requires.before) in
      IfOk-weaker c.deal_one.result _ (λ x. IsDealt s lines (n + 1) (n + 1) v c.deal_one.new.tasks.items c.deal_one.new.pass)
      (λ x one. dealt_lane s lines n n v c.args.tasks.now.items c.deal_one.new.tasks.items p
      c.deal_one.new.pass _ d one c.deal_one.ensures.of c.deal_one.ensures.left enough refl) c.deal_one.ensures.task;
  lane = λ all.
      let old = c.args.tasks.now.items in
      let new = c.deal_one.new.tasks.items in
      IfOk-weaker c.deal_one.result _ (λ x. AllByRecursion IsLane (bodies_of new))
      (λ x one. lanes_more (bodies_of old) (bodies_of new) _
      (bodies_more c.args.shared.now _ _ old new one) tt all) c.deal_one.ensures.task;
}

pub returns-then-not-used : goal.returns-then-not-used
returns-then-not-used c = record {
  dealt = λ lines v some d.
      dealt_over c.args.shared.now lines c.args.before c.args.before v c.args.tasks.now.items c.args.pass.now d
      (some ∙ c.if-not-used.true);
  lane = λ all. all;
}
