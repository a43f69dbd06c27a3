use Rattle.std.proofs.Common.{◌≡◌, ℕ, ◌≤◌, ◌<◌, ◌^◌, List, [], ◌∷◌, ◌++◌, false, length, replicate, ap, ◌∙◌, arith}
use Rattle.std.proofs.lemmas.List.{length-replicate, replicate_more}
use Rattle.cb_member.specs.declared.names.Shard.{Shard}
use Rattle.cb_set.specs.SetState.{IsSet, PositionState, dead_position, set_of}
use Rattle.cb_set.proofs.span_set.SpanSet.new.Goals as goal

is_set : (id k pages n : ℕ) (old shards : List Shard) (positions : List PositionState) → shards ≡ old
    → positions ≡ replicate n dead_position → n ≤ k → k ≤ length old → length old < 2 ^ 32
    → IsSet (set_of id pages shards positions)
is_set id k pages n old shards positions same dead low some few =
    let count : length positions ≡ n = ap length dead ∙ length-replicate n dead_position in
    let shard_count : length shards ≡ length old = ap length same in
    record {
      data_first = omega (arith, count, shard_count, low, some);
      numbered = omega (arith, shard_count, few);
    }

pub loop-preserved : goal.loop-preserved
loop-preserved c =
    c.in_ok-push.ensures.items
    ∙ (λ i. c.loop.positions.items ++ record { live = false; slots = c.new.ensures.items i } ∷ [])
    ∙ ap (λ (held : List PositionState). held ++ dead_position ∷ []) c.loop.invariant
    ∙ replicate_more c.loop.counter dead_position

pub invariant_of-result : goal.invariant_of-result
invariant_of-result c =
    is_set c.args.id c.args.k c.args.pages c.loop.counter c.args.shards.now
    c.in_ok-shards.shards.items c.loop.positions.items c.in_ok-shards.ensures.items c.loop.invariant c.loop.auto.counter-end
    (omega (arith, c.requires)) (omega (arith, c.if-shards.false))

pub returns-clause-fresh : goal.returns-clause-fresh
returns-clause-fresh c =
    let all : c.loop.counter ≡ c.args.k =
    omega (arith, c.loop.auto.counter-end, c.loop-test.false) in
    let dead : c.loop.positions.items ≡ replicate c.args.k dead_position =
    c.loop.invariant ∙ ap (λ (n : ℕ). replicate n dead_position) all in
    λ i. set_of c.args.id c.args.pages (c.in_ok-shards.ensures.items i) (dead i)

pub returns-clause-valid : goal.returns-clause-valid
returns-clause-valid c =
    is_set c.args.id c.args.k c.args.pages c.loop.counter c.args.shards.now
    c.in_ok-shards.shards.items c.loop.positions.items c.in_ok-shards.ensures.items c.loop.invariant c.loop.auto.counter-end
    (omega (arith, c.requires)) (omega (arith, c.if-shards.false))
