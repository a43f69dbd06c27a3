use Rattle.cb_core.specs.Ordered.{fetch_answer}
use Rattle.cb_shared.specs.Passes.{record_of}
use Rattle.cb_shared.proofs.Laws.{fetch_keeps}
use Rattle.cb_world_tests.proofs.Calling.{caller_keeps, known_in_range}
use Rattle.cb_world_tests.proofs.Orders.{fetch_found}
use Rattle.cb_world_tests.proofs.coding.fetched.Goals as goal

pub fetch-answer-requires-clause-handle : goal.fetch-answer-requires-clause-handle
fetch-answer-requires-clause-handle g c = known_in_range c.args.shared.now c.args.pass.now
    c.args.h.n c.requires.caller.of
    (c.requires.among c.args.pass.now.seat.me.0 c.requires.caller.knows)

pub returns-clause-caller : goal.returns-clause-caller
returns-clause-caller g c = caller_keeps c.args.shared.now c.args.objects.now c.args.pass.now
    c.fetch-answer.new.pass c.requires.caller c.fetch-answer.ensures.of
    (fetch_keeps c.args.shared.now.config c.args.h (fetch_answer c.fetch-answer.result) _ _ c.fetch-answer.ensures.turn)

pub returns-clause-kept : goal.returns-clause-kept
returns-clause-kept g c = fetch_found c.fetch-answer.result c.decode_in.result
    (record_of c.fetch-answer.new.pass).order c.fetch-answer.ensures.handed
    c.fetch-answer.ensures.runs c.decode_in.ensures
