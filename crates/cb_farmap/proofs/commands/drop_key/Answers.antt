use Rattle.cb_shared.specs.Passes.{record_of}
use Rattle.cb_farmap.proofs.Answering.{drop_so, quiet_map}
use Rattle.cb_farmap.proofs.commands.drop_key.Goals as goal

pub drop_key-dropped-requires-clause-map : goal.drop_key-dropped-requires-clause-map
drop_key-dropped-requires-clause-map g c = c.requires.ready.2.map_is.map_is

pub said_found-requires : goal.said_found-requires
said_found-requires g c = record {
  calm = quiet_map c.requires.ready c.drop_key-dropped.ensures.keeps;
}

pub returns-clause-goes : goal.returns-clause-goes
returns-clause-goes g c = drop_so c.args.shared.now c.requires.first c.drop_key-dropped.new.pass
    c.recall.new.pass c.recall.ensures.of c.recall.ensures.same c.recall.ensures.own
    (record_of c.args.pass.now) c.args.far.now.array c.args.far.now.map c.drop_key-dropped.new.self c.args.key
    c.drop_key-dropped.result c.drop_key-dropped.ensures.ok c.drop_key-dropped.ensures.stays
    c.drop_key-dropped.ensures.keeps
    c.said_found.result c.said_found.ensures
