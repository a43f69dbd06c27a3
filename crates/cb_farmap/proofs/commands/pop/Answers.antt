use Rattle.cb_shared.specs.Passes.{record_of}
use Rattle.cb_farmap.proofs.Answering.{pop_so, quiet_array}
use Rattle.cb_farmap.proofs.commands.pop.Goals as goal

pub pop-popped-requires-clause-array : goal.pop-popped-requires-clause-array
pop-popped-requires-clause-array g c = c.requires.ready.2.array_is.array

pub said_found-requires : goal.said_found-requires
said_found-requires g c = record {
  calm = quiet_array c.requires.ready c.pop-popped.ensures.keeps;
}

pub returns-clause-goes : goal.returns-clause-goes
returns-clause-goes g c = pop_so c.args.shared.now c.requires.first c.pop-popped.new.pass
    c.recall.new.pass c.recall.ensures.of c.recall.ensures.same c.recall.ensures.own
    (record_of c.args.pass.now) c.args.far.now.array c.pop-popped.new.self c.args.far.now.map
    c.pop-popped.result c.pop-popped.ensures.ok c.pop-popped.ensures.stays c.pop-popped.ensures.keeps
    c.said_found.result c.said_found.ensures
