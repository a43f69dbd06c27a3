use Rattle.cb_shared.specs.Passes.{record_of}
use Rattle.cb_farmap.proofs.Answering.{few_numbers, push_so, quiet_array}
use Rattle.cb_farmap.proofs.commands.push.Goals as goal

pub push-pushed-requires-clause-array : goal.push-pushed-requires-clause-array
push-pushed-requires-clause-array g c = c.requires.ready.2.array_is.array

pub push-pushed-requires-clause-room : goal.push-pushed-requires-clause-room
push-pushed-requires-clause-room g c =
    few_numbers (record_of c.args.pass.now) c.args.far.now.array c.args.far.now.map c.requires.ready

pub said_done-requires : goal.said_done-requires
said_done-requires g c = record {
  calm = quiet_array c.requires.ready c.push-pushed.ensures.keeps;
}

pub returns-clause-goes : goal.returns-clause-goes
returns-clause-goes g c = push_so c.args.shared.now c.requires.first c.push-pushed.new.pass
    c.recall.new.pass c.recall.ensures.of c.recall.ensures.same c.recall.ensures.own
    (record_of c.args.pass.now) c.args.far.now.array c.push-pushed.new.self c.args.far.now.map c.args.x
    c.push-pushed.result c.push-pushed.ensures.ok c.push-pushed.ensures.stays c.push-pushed.ensures.keeps
    c.said_done.result c.said_done.ensures
