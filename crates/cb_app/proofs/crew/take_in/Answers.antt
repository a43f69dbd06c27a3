use Rattle.std.proofs.Common.{◌+◌, ◌≤◌}
use Rattle.std.proofs.lemmas.Result.{IfOk-weaker}
use Rattle.cb_shared.specs.Passes.{record_of}
use Rattle.cb_app.specs.Crew.{lines_left, turns_due, work_in}
use Rattle.cb_app.specs.CrewTurns.{JoinsEnded}
use Rattle.cb_app.proofs.WorkDone.{work_taken}
use Rattle.cb_app.proofs.crew.take_in.Goals as goal

pub returns-in-Ok : goal.returns-in-Ok
returns-in-Ok c = record {
  told = λ given others lines are told ended apart none first.
      c.take_told.ensures.told given others (lines_left lines c.args.ended) are told (rw c.in-Ok.is at ended) apart none first;
  work = λ w t made.
      let old = work_in w (record_of c.args.first.now.pass) in
      let new = work_in w (record_of c.take_told.new.first.pass) in
      IfOk-weaker c.take_told.result _ (λ x. old + turns_due w t ≤ new)
      (λ x sum. work_taken w t c.args.ended c.in-Ok.told old new c.in-Ok.is made sum)
      (c.take_told.ensures.work w);
  text = λ old text. c.take_told.ensures.text old (rw c.in-Ok.is at text);
  joins = IfOk-weaker c.take_told.result _
      (λ x. JoinsEnded c.args.ended c.args.first.now c.take_told.new.first)
      (λ x joins. (c.in-Ok.told, c.in-Ok.is, joins)) c.take_told.ensures.joins;
}
