use Rattle.std.proofs.Common.{ap, arith}
use Rattle.cb_member.specs.declared.names.Shard.{Shard}
use Rattle.cb_compact.proofs.Laws.{fresh_code}
use Rattle.cb_local.proofs.putting.take_row.Goals as goal

pub put_beside-requires-clause-within : goal.put_beside-requires-clause-within
put_beside-requires-clause-within c =
    let s = c.requires.sound in let x = c.requires.next in
    let y = c.new_shard-shard.ensures x.0 x.4.was in
    let l = (fresh_code s.0 c.args.far.now x.0 x.1 x.2 s.1 x.4).a_nodes c.args.position y.0 y.1 in
    let e = ap (λ (z : Shard). z.node.n) y.2 in omega (arith, l, e)
