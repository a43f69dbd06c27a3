use Rattle.std.proofs.Common.{◌≡◌, ℕ, ◌+◌, ◌<◌, Bool, List, length, Option, is_some, if◌then◌else◌, ap, sym, ◌∙◌, subst}
use Rattle.std.specs.Option.{IfSome}
use Rattle.std.specs.List.{slice_get}
use Rattle.cb_world.specs.Fetched.{StandAt}
use Rattle.cb_world.proofs.Gathering.{given_more, stand_row}
use Rattle.cb_world.proofs.fetching.give_rows.Goals as goal

pub loop-position-preserved : goal.loop-position-preserved
loop-position-preserved c =
    let pages = c.args.set.now.pages in let old = c.args.nodes.now in let now = c.loop-position.nodes in let shards =
    c.args.set.now.shards in let positions = c.args.positions.now in
    let i = c.loop-position.position-index in let p = c.from-in-loop-position.result in let shard =
    c.shard-shard.result in
    let inv = c.loop-position.invariant in
    let within = c.loop-position-test.true in
    let at = ap (λ (n : ℕ). slice_get shards n) (c.from-in-loop-position.ensures
    ∙ sym c.from.ensures) ∙ c.shard-shard.ensures in
    let row = λ (rows : List (List ℕ)) (stand : StandAt pages old shards rows positions).
    stand_row pages old now shards positions i p shard rows inv.nodes stand within
    c.from-in-loop-position.ensures at in
    let mine = row c.requires.there.0 c.requires.there.1 in
    let into =
    λ (rows : List (List ℕ)) (stand : StandAt pages old shards rows positions).
    subst (λ (o : Option (List ℕ)).
    IfSome o (λ r. c.give_row.new.into ≡ r)) (row rows stand).0 c.give_row.ensures.row in
    given_more pages old now c.give_row.new.self shards positions c.args.table.now c.loop-position.table i
    p c.give_row.new.into inv within c.from-in-loop-position.ensures
    (subst (λ (n : ℕ).
    n < length c.args.table.now) (sym c.from-in-loop-position.ensures)
    (c.requires.below i 0 within))
    (ap length (into c.requires.there.0 c.requires.there.1) ∙ mine.1)
    (c.give_row.ensures.given
    ∙ ap (λ (b : Bool).
    record now { given = now.given + (if b then 1 else 0) }) (c.give_row.ensures.there
    ∙ ap is_some mine.0))
    into
