use Rattle.std.proofs.Common.{refl, arith}
use Rattle.cb_shared.specs.Passes.{record_of}
use Rattle.cb_farmap.proofs.Answering.{outside_set_so, quiet_array, set_so}
use Rattle.cb_farmap.proofs.commands.set.Goals as goal

pub set-set-requires-clause-array : goal.set-set-requires-clause-array
set-set-requires-clause-array g c = c.requires.ready.2.array_is.array

pub said_done-requires : goal.said_done-requires
said_done-requires g c = record {
  calm = quiet_array c.requires.ready c.set-set.ensures.keeps;
}

pub returns-clause-goes : goal.returns-clause-goes
returns-clause-goes g c = set_so c.args.shared.now c.requires.first c.set-set.new.pass
    c.recall-2.new.pass c.recall-2.ensures.of c.recall-2.ensures.same c.recall-2.ensures.own
    (record_of c.args.pass.now) c.args.far.now.array c.set-set.new.self c.args.far.now.map c.args.i c.args.x
    (let e = c.len-len.ensures in let l = c.if-i-len.false in omega (arith, e, l))
    c.set-set.result c.set-set.ensures.ok c.set-set.ensures.stays c.set-set.ensures.keeps
    c.said_done.result c.said_done.ensures

pub returns-then-i-len-clause-goes : goal.returns-then-i-len-clause-goes
returns-then-i-len-clause-goes g c = outside_set_so c.args.shared.now c.requires.first c.args.pass.now
    c.recall.new.pass c.recall.ensures.of c.recall.ensures.same c.recall.ensures.own
    (record_of c.args.pass.now) c.args.far.now.array c.args.far.now.map c.args.i c.args.x
    c.len-len.result c.len-len.ensures (let l = c.if-i-len.true in omega (arith, l)) refl
