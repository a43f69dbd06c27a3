use Rattle.std.proofs.Common.{rules, arith}
use Rattle.cb_shared.specs.Passes.{record_of}
use Rattle.cb_farmap.proofs.Running.{all_gone, begins, goes_next}
use Rattle.cb_farmap.proofs.commands.run_commands.Goals as goal

pub loop-ask-init : goal.loop-ask-init
loop-ask-init g c = record {
  of = c.requires.begun.of;
  run = rw c.new-saids.ensures.empty (begins c.args.shared.now.config c.args.asks.now
      c.in_ok-far.far.array c.in_ok-far.ensures.array c.in_ok-far.far.map c.in_ok-far.ensures.map
      (record_of c.args.pass.now) c.requires.begun.begun);
}

pub answer_one-requires-clause-first : goal.answer_one-requires-clause-first
answer_one-requires-clause-first g c = c.requires.begun.first_is

pub answer_one-requires-clause-ready : goal.answer_one-requires-clause-ready
answer_one-requires-clause-ready g c =
    let run = c.loop-ask.invariant.run in
    (c.loop-ask.ask-index, run.s, run.stands, omega (arith, c.requires.few, c.loop-ask-test.true))

pub loop-ask-preserved : goal.loop-ask-preserved
loop-ask-preserved g c = record {
  of = c.answer_one.ensures.of;
  run = goes_next c.args.shared.now.config c.args.asks.now (record_of c.args.pass.now)
      c.loop-ask.ask-index c.loop-ask.saids (record_of c.loop-ask.pass) c.loop-ask.far.array
      c.loop-ask.far.map c.loop-ask.invariant.run _ c.requires.few c.loop-ask-test.true
      c.in_ok-said.said (record_of c.answer_one.new.pass) c.answer_one.new.far.array
      c.answer_one.new.far.map c.in_ok-said.ensures.goes c.push.new.self c.in_ok-push.ensures.ok;
}

pub returns-clause-go : goal.returns-clause-go
returns-clause-go g c = all_gone c.args.shared.now.config c.args.asks.now (record_of c.args.pass.now)
    c.loop-ask.ask-index c.loop-ask.saids (record_of c.loop-ask.pass) c.loop-ask.far.array
    c.loop-ask.far.map c.loop-ask.invariant.run (search rules)

pub returns-clause-loose : goal.returns-clause-loose
returns-clause-loose g c = c.loop-ask.invariant.run.stands.record_is.loose
