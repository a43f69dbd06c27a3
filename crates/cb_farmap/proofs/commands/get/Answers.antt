use Rattle.std.proofs.Common.{refl, arith}
use Rattle.cb_shared.specs.Passes.{record_of}
use Rattle.cb_farmap.proofs.Answering.{get_so, outside_get_so, quiet_array}
use Rattle.cb_farmap.proofs.commands.get.Goals as goal

pub get-got-requires-clause-array : goal.get-got-requires-clause-array
get-got-requires-clause-array g c = c.requires.ready.2.array_is.array

pub said_number-requires : goal.said_number-requires
said_number-requires g c = record {
  calm = quiet_array c.requires.ready c.get-got.ensures.keeps;
}

pub returns-clause-goes : goal.returns-clause-goes
returns-clause-goes g c = get_so c.args.shared.now c.requires.first c.get-got.new.pass
    c.recall-2.new.pass c.recall-2.ensures.of c.recall-2.ensures.same c.recall-2.ensures.own
    (record_of c.args.pass.now) c.args.far.now.array c.get-got.new.self c.args.far.now.map c.args.i
    (let e = c.len-len.ensures in let l = c.if-i-len.false in omega (arith, e, l))
    c.get-got.result c.get-got.ensures.ok c.get-got.ensures.stays c.get-got.ensures.keeps
    c.said_number.result c.said_number.ensures

pub returns-then-i-len-clause-goes : goal.returns-then-i-len-clause-goes
returns-then-i-len-clause-goes g c = outside_get_so c.args.shared.now c.requires.first c.args.pass.now
    c.recall.new.pass c.recall.ensures.of c.recall.ensures.same c.recall.ensures.own
    (record_of c.args.pass.now) c.args.far.now.array c.args.far.now.map c.args.i
    c.len-len.result c.len-len.ensures (let l = c.if-i-len.true in omega (arith, l)) refl
