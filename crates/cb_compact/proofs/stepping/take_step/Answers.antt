use Rattle.std.proofs.Common.{ap, ◌∙◌, subst, arith}
use Rattle.cb_node.specs.declared.nodes.PutAnswer.{PutAnswer}
use Rattle.cb_world.specs.FarState.{FarState}
use Rattle.cb_compact.specs.Deltas.{PutsMerged}
use Rattle.cb_compact.proofs.Taken.{full_step, one_step, ready}
use Rattle.cb_compact.proofs.stepping.take_step.Goals as goal

pub new_shard-shard-requires : goal.new_shard-shard-requires
new_shard-shard-requires c =
    let x = c.requires.next in let j = c.requires.sound.1.join x.0 x.3.was in
    record {
      there = (
        x.0,
        x.3.was,
        let l = x.4.within in let n = j.count in let m = j.a_count in
            omega (arith, l, n, m),
      );
    }

pub put_step-requires : goal.put_step-requires
put_step-requires c =
    let x = c.requires.next in
    let y = c.new_shard-shard.ensures x.0 x.3.was in
    record {
      ready = (
        c.requires.sound.0,
        x.0,
        x.1,
        x.2,
        ready c.requires.sound.0 c.args.far.now x.0 x.1 x.2
            c.args.position c.new_shard-shard.result y.0 c.requires.sound.1 x.3 x.4 y.1 y.2,
      );
    }

pub note_step-requires-clause-there : goal.note_step-requires-clause-there
note_step-requires-clause-there c =
    let x = c.requires.next in
    (x.0, ap (λ (f : FarState). f.joining) c.in_ok-put_step.ensures.nodes ∙ x.3.was, x.4.within)

pub note_step-requires-clause-keys : goal.note_step-requires-clause-keys
note_step-requires-clause-keys c =
    let e = ap (λ (f : FarState). f.counts.keys) c.in_ok-put_step.ensures.nodes in
    let l = c.requires.keys in omega (arith, e, l)

pub returns-in-Stored-clause-step : goal.returns-in-Stored-clause-step
returns-in-Stored-clause-step c pair a b fresh next =
    let y = c.new_shard-shard.ensures pair fresh.was in
    one_step c.args.far.now c.put_step.new.far c.note_step.new.far pair a b c.args.position
    c.new_shard-shard.result y.0 fresh next y.1 y.2 c.in_ok-put_step.ensures.nodes
    (subst (λ (v : PutAnswer). PutsMerged c.args.far.now pair a b c.args.position
    c.new_shard-shard.result v
    c.put_step.new.far.nodes) c.in-Stored.is (c.in_ok-put_step.ensures.put pair a b fresh))
    c.note_step.ensures

pub returns-in-Full-clause-step : goal.returns-in-Full-clause-step
returns-in-Full-clause-step c pair a b fresh next =
    let y = c.new_shard-shard.ensures pair fresh.was in
    full_step c.args.far.now c.put_step.new.far pair a b c.args.position c.new_shard-shard.result
    y.0
    c.in-Full.held fresh next y.1 y.2 c.in_ok-put_step.ensures.nodes
    (subst (λ (v : PutAnswer). PutsMerged c.args.far.now pair a b c.args.position
    c.new_shard-shard.result v
    c.put_step.new.far.nodes) c.in-Full.is (c.in_ok-put_step.ensures.put pair a b fresh))
