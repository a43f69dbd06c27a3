use Rattle.std.proofs.Common.{length, ap, arith}
use Rattle.cb_member.specs.declared.names.Shard.{Shard}
use Rattle.cb_world.specs.FarState.{FarState}
use Rattle.cb_compact.proofs.Laws.{fresh_code}
use Rattle.cb_local.proofs.PutStep.{at_places}
use Rattle.cb_local.proofs.rooms.full_beside.Goals as goal

pub new_shard-requires : goal.new_shard-requires
new_shard-requires c =
    let s = c.requires.sound in let x = c.requires.fresh in let l = x.4 in
    let e = at_places s.0 c.args.far.now x.0 x.1 x.2 s.1 x.3 in
    record { there = (x.0, x.3.was, omega (arith, l, e)) }

pub held-requires : goal.held-requires
held-requires c =
    let s = c.requires.sound in let x = c.requires.fresh in
    let y = c.new_shard.ensures x.0 x.3.was in
    let l = (fresh_code s.0 c.args.far.now x.0 x.1 x.2 s.1 x.3).a_nodes c.args.position y.0 y.1 in
    let e = ap (λ (z : Shard). z.node.n) y.2 in
    let n = ap (λ (f : FarState). length f.nodes.nodes) c.far.view_is in
    omega (arith, l, e, n)
