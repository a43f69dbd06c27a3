use Rattle.std.proofs.Common.{◌≡◌, ◌+◌}
use Rattle.std.proofs.lemmas.Result.{IfOk-weaker}
use Rattle.cb_shared.specs.Passes.{record_of}
use Rattle.cb_lanes.specs.declared.body.LaneEnd.{LaneEnd}
use Rattle.cb_app.specs.Crew.{TakesIn, work_in}
use Rattle.cb_app.specs.CrewTurns.{Joins}
use Rattle.cb_app.proofs.Crews.{taken_in}
use Rattle.cb_app.proofs.WorkDone.{work_joined}
use Rattle.cb_app.proofs.crew.take_end.Goals as goal

pub returns : goal.returns
returns c = record {
  told = λ given others lines are told ended apart none first.
      let s = c.args.shared.now in
      let b : LaneEnd = record { answers = c.append.new.answers; pass = c.join_pass.new.pass } in
      IfOk-weaker c.append.result _ (λ x. TakesIn s given others lines b)
      (λ x same. taken_in s given others lines c.args.first.now c.args.end b are told ended apart none first
      c.join_pass.ensures.of c.join_pass.ensures.joined same) c.append.ensures;
  work = λ w.
      let v = record_of c.args.first.now.pass in
      let u = record_of c.args.end.pass in
      let t = record_of c.join_pass.new.pass in
      IfOk-weaker c.append.result _ (λ x. work_in w t ≡ work_in w v + work_in w u)
      (λ x same. work_joined w v u t c.join_pass.ensures.joined) c.append.ensures;
  answers = c.append.ensures;
  joins =
      let b : LaneEnd = record { answers = c.append.new.answers; pass = c.join_pass.new.pass } in
      IfOk-weaker c.append.result _ (λ x. Joins c.args.first.now c.args.end b)
      (λ x same. record { record_is = c.join_pass.ensures.joined; answers = same }) c.append.ensures;
}
