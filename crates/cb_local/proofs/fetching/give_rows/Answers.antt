use Rattle.std.proofs.Common.{◌≡◌, ℕ, ◌+◌, ◌*◌, Bool, List, [], length, get_or, Option, is_some, if◌then◌else◌, refl, sym, ap, ◌∙◌, subst, arith}
use Rattle.std.specs.Option.{IfSome}
use Rattle.std.proofs.lemmas.Option.{slice_get-get_or}
use Rattle.cb_member.specs.declared.names.Shard.{Shard}
use Rattle.cb_world.specs.Fetched.{StandAt}
use Rattle.cb_local.proofs.Gathering.{one_given, row_stands}
use Rattle.cb_local.proofs.fetching.give_rows.Goals as goal

abbrev none_here : Shard
none_here = record { node = record { n = 0 }; incarnation = 0; key = 0 }

pub loop-i-preserved : goal.loop-i-preserved
loop-i-preserved c =
    let old = c.args.nodes.now in let now = c.loop-i.nodes in let shards = c.args.shards.now in
    let positions = c.args.positions.now in let i = c.loop-i.i in let p = get_or positions i 0 in
    let inv = c.loop-i.invariant in
    let within = c.loop-i-test.true in
    let at = slice_get-get_or shards p none_here (c.requires.within i 0 within) in
    let row = λ (n : ℕ) (rows : List (List ℕ)) (stand : StandAt n old shards rows positions).
    row_stands n old now shards positions i p (get_or shards p none_here) rows inv.nodes stand
    within refl at in
    let into = λ (n : ℕ) (rows : List (List ℕ)) (stand : StandAt n old shards rows positions).
    subst (λ (o : Option (List ℕ)). IfSome o (λ r. c.give_row.new.into ≡ r)) (row n rows stand).0
    c.give_row.ensures.row in
    let pages = c.requires.there.0 in let sized = c.requires.there.1 in
    let word = c.requires.there.2 in
    let mine = row pages word.0 word.1 in
    one_given old now c.give_row.new.self shards positions c.args.table.now c.loop-i.table i pages
    c.give_row.new.into inv sized within (ap length (into pages word.0 word.1) ∙ mine.1)
    (c.give_row.ensures.given
    ∙ ap (λ (b : Bool). record now { given = now.given + (if b then 1 else 0) })
    (c.give_row.ensures.there ∙ ap is_some mine.0))
    into

pub give_row-requires-clause-length : goal.give_row-requires-clause-length
give_row-requires-clause-length c =
    let shards = c.args.shards.now in let positions = c.args.positions.now in let i = c.loop-i.i in
    let p = get_or positions i 0 in let inv = c.loop-i.invariant in
    let within = c.loop-i-test.true in let count = inv.count in
    let at = slice_get-get_or shards p none_here (c.requires.within i 0 within) in
    let pages = c.requires.there.0 in let word = c.requires.there.2 in
    let stands = row_stands pages c.args.nodes.now c.loop-i.nodes shards positions i p
    (get_or shards p none_here) word.0 inv.nodes word.1 within refl at in
    let long : length c.row_mut.result.now ≡ 4096 * pages = ap length c.row_mut.ensures.value
    ∙ inv.lengths (4096 * pages) c.requires.there.1 i [] (omega (arith, count, within)) in
    subst (λ (o : Option (List ℕ)). IfSome o (λ row. length row ≡ length c.row_mut.result.now))
    (sym stands.0) (stands.1 ∙ sym long)

pub returns-clause-lengths : goal.returns-clause-lengths
returns-clause-lengths c pages sized = c.loop-i.invariant.lengths (4096 * pages) sized

pub returns-clause-rows : goal.returns-clause-rows
returns-clause-rows c pages rows stand j l =
    c.loop-i.invariant.rows pages rows stand j (let f = c.loop-i-test.false in omega (arith, l, f))
