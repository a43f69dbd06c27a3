use Rattle.std.proofs.Common.{◌≡◌, ◌++◌}
use Rattle.std.proofs.lemmas.Result.{IfOk-weaker}
use Rattle.cb_text.specs.Line.{text_of}
use Rattle.cb_app.proofs.Crews.{text_behind}
use Rattle.cb_app.proofs.crew.take_told.Goals as goal

pub returns : goal.returns
returns c = record {
  told = c.take_end.ensures.told;
  work = c.take_end.ensures.work;
  text = λ old text.
      let before = c.args.first.now.answers in
      let more = c.args.told.end.answers in
      let after = c.take_end.new.first.answers in
      IfOk-weaker c.take_end.result (λ x. after ≡ before ++ more) (λ x. c.append.new.self ≡ text_of after)
      (λ x all. text_behind before more after c.args.text.now c.args.told.text c.append.new.self old text
      c.in_ok-append.ensures.text all) c.take_end.ensures.answers;
  joins = c.take_end.ensures.joins;
}
