use Rattle.std.proofs.Common.{inl}
use Rattle.cb_compact.proofs.Laws.{steps_there}
use Rattle.cb_local.proofs.FullNode.{full_ends}
use Rattle.cb_local.proofs.compacting.go_through.Goals as goal

pub full_node-requires-clause-sound : goal.full_node-requires-clause-sound
full_node-requires-clause-sound c = let q = c.requires.begun in (q.0, q.4.sound.away)

pub full_node-requires-clause-fresh : goal.full_node-requires-clause-fresh
full_node-requires-clause-fresh c = let q = c.requires.begun in (q.1, q.2, q.3, q.4.fresh)

pub give_up-requires : goal.give_up-requires
give_up-requires c =
    let q = c.requires.begun in record {
      there = (
        q.1,
        q.4.fresh.was,
        steps_there c.args.far.now q.1 q.4.sound.away.sound.rows q.4.fresh.was,
      );
    }

pub finish_or_undo-requires : goal.finish_or_undo-requires
finish_or_undo-requires c =
    let q = c.requires.begun in record {
      begun = (q.0, q.1, q.2, q.3, q.4, c.in-None.ensures.room q.1 q.2 q.3 q.4.fresh);
    }

pub returns-in-Some-clause-ends : goal.returns-in-Some-clause-ends
returns-in-Some-clause-ends c pair a b fresh =
    let q = c.requires.begun in
    inl (full_ends q.0 c.args.far.now q.1 q.2 q.3 c.in-Some.node q.4
    (c.in-Some.ensures.full q.1 q.2 q.3 q.4.fresh) c.give_up.new.far
    (c.give_up.ensures q.1 q.4.fresh.was))
