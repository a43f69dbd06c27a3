use Rattle.std.proofs.Common.{ap, sym, ◌∙◌, arith}
use Rattle.cb_member.specs.declared.names.Shard.{Shard}
use Rattle.cb_set.specs.Lost.{least_lost}
use Rattle.cb_set.proofs.Losing.{least_lost-is, least_lost-none}
use Rattle.cb_set.proofs.span_set.SpanSet.least_lost.Goals as goal

pub returns-then-is_lost-clause-least : goal.returns-then-is_lost-clause-least
returns-then-is_lost-clause-least c =
    let m = c.args.m.now in
    let shards = c.shards-shard-items.result.now in
    let d : Shard = record { node = record { n = 0 }; incarnation = 0; key = 0 } in
    sym (least_lost-is m shards c.loop-place.place d c.loop-place-test.true
    (sym c.if-is_lost.ensures) (λ k below. c.loop-place.invariant k d below))
    ∙ ap (least_lost m) c.shards-shard-items.ensures.shards

pub returns-clause-least : goal.returns-clause-least
returns-clause-least c =
    let m = c.args.m.now in
    let shards = c.shards-shard-items.result.now in
    let d : Shard = record { node = record { n = 0 }; incarnation = 0; key = 0 } in
    sym (least_lost-none m shards d
    (λ k below. c.loop-place.invariant k d (omega (arith, c.loop-place-test.false, below))))
    ∙ ap (least_lost m) c.shards-shard-items.ensures.shards
