use Rattle.cb_shared.specs.Passes.{record_of}
use Rattle.cb_farmap.proofs.Answering.{look_so, quiet_map}
use Rattle.cb_farmap.proofs.commands.look.Goals as goal

pub look-found-requires-clause-map : goal.look-found-requires-clause-map
look-found-requires-clause-map g c = c.requires.ready.2.map_is.map_is

pub said_found-requires : goal.said_found-requires
said_found-requires g c = record {
  calm = quiet_map c.requires.ready c.look-found.ensures.keeps;
}

pub returns-clause-goes : goal.returns-clause-goes
returns-clause-goes g c = look_so c.args.shared.now c.requires.first c.look-found.new.pass
    c.recall.new.pass c.recall.ensures.of c.recall.ensures.same c.recall.ensures.own
    (record_of c.args.pass.now) c.args.far.now.array c.args.far.now.map c.look-found.new.self c.args.key
    c.look-found.result c.look-found.ensures.ok c.look-found.ensures.stays c.look-found.ensures.keeps
    c.said_found.result c.said_found.ensures
