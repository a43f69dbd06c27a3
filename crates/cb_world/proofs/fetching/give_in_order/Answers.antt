use Rattle.std.proofs.Common.{◌≡◌, ℕ, ◌+◌, Bool, List, length, Option, is_some, if◌then◌else◌, sym, ap, ◌∙◌, subst, arith}
use Rattle.std.specs.Option.{IfSome}
use Rattle.cb_gf256.specs.Rows.{row_at}
use Rattle.cb_world.specs.Fetched.{StandAt}
use Rattle.cb_world.proofs.FetchedRows.{order_more}
use Rattle.cb_world.proofs.Gathering.{stand_row}
use Rattle.cb_world.proofs.fetching.give_in_order.Goals as goal

pub loop-i-preserved : goal.loop-i-preserved
loop-i-preserved c =
    let pages = c.args.set.now.pages in let old = c.args.nodes.now in let now = c.loop-i.nodes in
    let shards = c.args.set.now.shards in let positions = c.args.positions.now in
    let i = c.loop-i.i in let shard = c.shard-shard.result in
    let within = c.loop-i-test.true in
    let row = λ (rows : List (List ℕ)) (stand : StandAt pages old shards rows positions).
    stand_row pages old now shards positions i c.from.result shard rows
    c.loop-i.invariant.nodes stand within c.from.ensures c.shard-shard.ensures in
    let mine = row c.requires.there.0 c.requires.there.1 in
    let into =
    λ (rows : List (List ℕ)) (stand : StandAt pages old shards rows positions).
    subst (λ (o : Option (List ℕ)).
    IfSome o (λ r. c.give_row.new.into ≡ r)) (row rows stand).0 c.give_row.ensures.row
    ∙ ap (λ (p : ℕ). row_at rows p) c.from.ensures in
    order_more pages old now c.give_row.new.self shards positions c.args.table.now c.loop-i.table i
    c.give_row.new.into c.loop-i.invariant (omega (arith, within, c.requires.count))
    (ap length (into c.requires.there.0 c.requires.there.1)
    ∙ ap (λ (p : ℕ). length (row_at c.requires.there.0 p)) (sym c.from.ensures) ∙ mine.1)
    (c.give_row.ensures.given
    ∙ ap (λ (b : Bool).
    record now { given = now.given + (if b then 1 else 0) }) (c.give_row.ensures.there
    ∙ ap is_some mine.0))
    into
