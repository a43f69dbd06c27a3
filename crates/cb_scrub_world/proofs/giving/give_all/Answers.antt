use Rattle.std.proofs.Common.{◌≡◌, ◌+◌, ℕ, Bool, List, Option, if◌then◌else◌, ap, ◌∙◌, subst, arith}
use Rattle.std.specs.Option.{IfSome}
use Rattle.cb_scrub_world.proofs.Given.{all_given, giving_more, row_is_known, stands_at, stands_now}
use Rattle.cb_scrub_world.proofs.giving.give_all.Goals as goal

pub loop-position-preserved : goal.loop-position-preserved
loop-position-preserved c =
    let old = c.args.nodes.now in
    let now = c.loop-position.nodes in
    let shards = c.args.set.now.shards in
    let pages = c.args.set.now.pages in
    let table = c.loop-position.table in
    let i = c.loop-position.position in
    let inv = c.loop-position.invariant in
    let shard = c.shard-shard.result in
    let stands = stands_at old shards i shard c.requires.stand c.shard-shard.ensures in
    let stands_there = stands_now old now shards pages table i inv shard stands in
    let row = subst (λ (o : Option (List ℕ)). IfSome o (λ r. c.give_row.new.into ≡ r)) (row_is_known now shard stands_there) c.give_row.ensures.row in
    giving_more old now shards pages table i inv c.give_row.new.self shard c.give_row.new.into (omega (arith, c.loop-position-test.true)) c.shard-shard.ensures stands
    (c.give_row.ensures.given ∙ ap (λ (b : Bool). record now { given = now.given + (if b then 1 else 0) }) (c.give_row.ensures.there ∙ stands_there.there)) row

pub returns-clause-rows : goal.returns-clause-rows
returns-clause-rows c =
    (all_given c.args.nodes.now c.loop-position.nodes c.args.set.now.shards c.args.set.now.pages c.loop-position.table c.loop-position.position c.loop-position.invariant (omega (arith, c.loop-position-test.false, c.loop-position.auto))).1
