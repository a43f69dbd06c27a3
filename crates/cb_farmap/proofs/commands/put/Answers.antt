use Rattle.cb_shared.specs.Passes.{record_of}
use Rattle.cb_farmap.proofs.Answering.{few_keys, put_so, quiet_map}
use Rattle.cb_farmap.proofs.commands.put.Goals as goal

pub put-put-requires-clause-map : goal.put-put-requires-clause-map
put-put-requires-clause-map g c = c.requires.ready.2.map_is.map_is

pub put-put-requires-clause-room : goal.put-put-requires-clause-room
put-put-requires-clause-room g c =
    few_keys (record_of c.args.pass.now) c.args.far.now.array c.args.far.now.map c.requires.ready

pub said_found-requires : goal.said_found-requires
said_found-requires g c = record {
  calm = quiet_map c.requires.ready c.put-put.ensures.keeps;
}

pub returns-clause-goes : goal.returns-clause-goes
returns-clause-goes g c = put_so c.args.shared.now c.requires.first c.put-put.new.pass
    c.recall.new.pass c.recall.ensures.of c.recall.ensures.same c.recall.ensures.own
    (record_of c.args.pass.now) c.args.far.now.array c.args.far.now.map c.put-put.new.self c.args.key c.args.x
    c.put-put.result c.put-put.ensures.ok c.put-put.ensures.stays c.put-put.ensures.keeps
    c.said_found.result c.said_found.ensures
