use Rattle.cb_local.proofs.Finishing.{stopped_there, undone_stops}
use Rattle.cb_local.proofs.compacting.finish_or_undo.Goals as goal

pub undo-requires : goal.undo-requires
undo-requires c =
    let q = c.requires.begun in record {
      there = stopped_there q.0 c.args.far.now c.finish.new.far q.4.sound c.in-Err.ensures.error;
    }

pub returns-in-Err-clause-error : goal.returns-in-Err-clause-error
returns-in-Err-clause-error c =
    undone_stops c.args.far.now c.finish.new.far c.undo.new.far c.drawn_keys-keys.result
    c.in-Err.ensures.error c.drawn_keys-keys.ensures c.undo.ensures
