use Rattle.std.proofs.Common.{arith}
use Rattle.std.proofs.lemmas.List.{ext_get_or}
use Rattle.cb_member.specs.declared.names.Shard.{Shard}
use Rattle.cb_compact.proofs.looking.are_same.Goals as goal

abbrev none_here : Shard
none_here = record { node = record { n = 0 }; incarnation = 0; key = 0 }

pub returns-clause-same : goal.returns-clause-same
returns-clause-same c is =
    ext_get_or none_here c.args.a.now c.args.b.now c.if-a-b.false
    (λ k below. c.loop-i.invariant k none_here (let l = c.loop-i-test.false in omega (
      arith,
      l,
      below,
    )))
