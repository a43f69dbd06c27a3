use Rattle.cb_core.specs.Ordered.{fetch_answer}
use Rattle.cb_shared_bench.proofs.Orders.{fetched_caller}
use Rattle.cb_shared_bench.proofs.rounds.fetch.Goals as goal

pub land-requires-clause-caller : goal.land-requires-clause-caller
land-requires-clause-caller g c = fetched_caller c.args.shared.now c.args.h c.args.far
    (fetch_answer c.fetch.result) c.args.pass.now c.fetch.new.pass c.requires.caller
    c.fetch.ensures.of c.fetch.ensures.turn

pub returns-in-Ok-Order : goal.returns-in-Ok-Order
returns-in-Ok-Order g c = record {
  caller = fetched_caller c.args.shared.now c.args.h c.args.far (fetch_answer c.fetch.result)
      c.args.pass.now c.fetch.new.pass c.requires.caller c.fetch.ensures.of
      c.fetch.ensures.turn;
}

pub returns : goal.returns
returns g c = record {
  caller = fetched_caller c.args.shared.now c.args.h c.args.far (fetch_answer c.fetch.result)
      c.args.pass.now c.fetch.new.pass c.requires.caller c.fetch.ensures.of
      c.fetch.ensures.turn;
}
