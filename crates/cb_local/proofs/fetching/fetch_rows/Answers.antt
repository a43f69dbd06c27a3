use Rattle.std.proofs.Common.{◌<◌, ◌≤◌, refl, ℕ, All, List, length, get_or, take, sym, ap, ◌∙◌, subst, arith}
use Rattle.std.proofs.lemmas.List.{get_or-take, length-take-le}
use Rattle.cb_gf256.specs.Rows.{row_at}
use Rattle.cb_member.specs.declared.names.Shard.{Shard}
use Rattle.cb_node.specs.NodesState.{NodesState}
use Rattle.cb_world.specs.Joining.{JoiningState}
use Rattle.cb_local.proofs.Fetched.{a_stand, are_fetched, b_stand, parity_stand, stand_along, stand_given, taken_few, taken_in_a, taken_in_b}
use Rattle.cb_local.proofs.fetching.fetch_rows.Goals as goal

pub give_rows-requires-clause-given : goal.give_rows-requires-clause-given
give_rows-requires-clause-given c =
    let few = taken_few c.args.nodes.now c.args.pair.now c.args.order.now c.requires.ready in
    let e = ap length (ap (λ (p : JoiningState). p.taken) (sym c.pair.view_is)
    ∙ sym c.deref-2.ensures.value) in
    let g = c.requires.given in omega (arith, few, e, g)

pub give_rows-requires-clause-few : goal.give_rows-requires-clause-few
give_rows-requires-clause-few c =
    let few = taken_few c.args.nodes.now c.args.pair.now c.args.order.now c.requires.ready in
    let e = ap length (ap (λ (p : JoiningState). p.taken) (sym c.pair.view_is)
    ∙ sym c.deref-2.ensures.value) in
    omega (arith, few, e)

pub give_rows-requires-clause-within : goal.give_rows-requires-clause-within
give_rows-requires-clause-within c =
    let pair = c.args.pair.now in
    let sa = ap (λ (p : JoiningState). p.shards_a) (sym c.pair.view_is)
    ∙ sym c.deref.ensures.value in
    let ta = ap (λ (p : JoiningState). p.taken) (sym c.pair.view_is)
    ∙ sym c.deref-2.ensures.value in
    subst (λ (t : List ℕ). All (λ p. p < length c.deref.result.now) t) ta
    (subst (λ (t : List Shard). All (λ p. p < length t) pair.taken) sa
    (taken_in_a c.args.nodes.now pair c.args.order.now c.requires.ready))

pub give_rows-requires-clause-there : goal.give_rows-requires-clause-there
give_rows-requires-clause-there c =
    let nodes = c.args.nodes.now in let pair = c.args.pair.now in
    let can = c.requires.ready in
    let sa = ap (λ (p : JoiningState). p.shards_a) (sym c.pair.view_is)
    ∙ sym c.deref.ensures.value in
    let ta = ap (λ (p : JoiningState). p.taken) (sym c.pair.view_is)
    ∙ sym c.deref-2.ensures.value in
    let w = can.words in (
      can.pages,
      can.blank.old_wide,
      (
        w.0,
        stand_along nodes pair.shards_a c.deref.result.now w.0 pair.taken c.deref-2.result.now sa ta
            (a_stand nodes pair c.args.order.now can can.pages w.0 w.1 w.2),
      ),
    )

pub give_rows-requires-2-clause-given : goal.give_rows-requires-2-clause-given
give_rows-requires-2-clause-given c =
    let few = taken_few c.args.nodes.now c.args.pair.now c.args.order.now c.requires.ready in
    let e = ap length (ap (λ (p : JoiningState). p.taken) (sym c.pair.view_is)
    ∙ sym c.deref-2.ensures.value) in
    let f = ap length (ap (λ (p : JoiningState). p.taken) (sym c.pair.view_is)
    ∙ sym c.deref-4.ensures.value) in
    let n = ap (λ (x : NodesState). x.given) c.give_rows.ensures.nodes in
    let g = c.requires.given in omega (arith, few, e, f, n, g)

pub give_rows-requires-2-clause-few : goal.give_rows-requires-2-clause-few
give_rows-requires-2-clause-few c =
    let few = taken_few c.args.nodes.now c.args.pair.now c.args.order.now c.requires.ready in
    let f = ap length (ap (λ (p : JoiningState). p.taken) (sym c.pair.view_is)
    ∙ sym c.deref-4.ensures.value) in
    omega (arith, few, f)

pub give_rows-requires-2-clause-within : goal.give_rows-requires-2-clause-within
give_rows-requires-2-clause-within c =
    let pair = c.args.pair.now in
    let sb = ap (λ (p : JoiningState). p.shards_b) (sym c.pair.view_is)
    ∙ sym c.deref-3.ensures.value in
    let ta = ap (λ (p : JoiningState). p.taken) (sym c.pair.view_is)
    ∙ sym c.deref-4.ensures.value in
    subst (λ (t : List ℕ). All (λ p. p < length c.deref-3.result.now) t) ta
    (subst (λ (t : List Shard). All (λ p. p < length t) pair.taken) sb
    (taken_in_b c.args.nodes.now pair c.args.order.now c.requires.ready))

pub give_rows-requires-2-clause-there : goal.give_rows-requires-2-clause-there
give_rows-requires-2-clause-there c =
    let nodes = c.args.nodes.now in let pair = c.args.pair.now in
    let can = c.requires.ready in
    let sb = ap (λ (p : JoiningState). p.shards_b) (sym c.pair.view_is)
    ∙ sym c.deref-3.ensures.value in
    let ta = ap (λ (p : JoiningState). p.taken) (sym c.pair.view_is)
    ∙ sym c.deref-4.ensures.value in
    let w = can.words in (
      can.pages,
      can.blank.new_wide,
      (
        w.1,
        stand_along c.give_rows.new.nodes pair.shards_b c.deref-3.result.now w.1 pair.taken
            c.deref-4.result.now sb ta
            (stand_given nodes c.give_rows.new.nodes pair.shards_b w.1 pair.taken _
            c.give_rows.ensures.nodes
            (b_stand nodes pair c.args.order.now can can.pages w.0 w.1 w.2)),
      ),
    )

pub give_rows-requires-3-clause-given : goal.give_rows-requires-3-clause-given
give_rows-requires-3-clause-given c =
    let few = taken_few c.args.nodes.now c.args.pair.now c.args.order.now c.requires.ready in
    let e = ap length (ap (λ (p : JoiningState). p.taken) (sym c.pair.view_is)
    ∙ sym c.deref-2.ensures.value) in
    let f = ap length (ap (λ (p : JoiningState). p.taken) (sym c.pair.view_is)
    ∙ sym c.deref-4.ensures.value) in
    let n = ap (λ (x : NodesState). x.given) c.give_rows.ensures.nodes in
    let m = ap (λ (x : NodesState). x.given) c.give_rows-2.ensures.nodes in
    let r = c.requires.ready.code.range.parities_most in
    let four = c.parity_positions-parities.ensures.size in
    let l = length-take-le c.args.order.now.r c.parity_positions-parities.result
    (omega (arith, r, four)) in
    let g = c.requires.given in omega (arith, few, e, f, n, m, r, l, g)

pub give_rows-requires-3-clause-there : goal.give_rows-requires-3-clause-there
give_rows-requires-3-clause-there c =
    let nodes = c.args.nodes.now in let pair = c.args.pair.now in let order = c.args.order.now in
    let can = c.requires.ready in
    let four = c.parity_positions-parities.ensures.size in
    let r = can.code.range.parities_most in
    let within : order.r ≤ length c.parity_positions-parities.result = omega (arith, r, four) in
    let places = take order.r c.parity_positions-parities.result in
    let size = length-take-le order.r c.parity_positions-parities.result within in
    let sa = ap (λ (p : JoiningState). p.shards_a) (sym c.pair.view_is)
    ∙ sym c.deref-5.ensures.value in
    let w = can.words in (
      can.pages,
      can.blank.parities_wide,
      (
        w.0,
        stand_along c.give_rows-2.new.nodes pair.shards_a c.deref-5.result.now w.0 places places sa
            refl
            (stand_given c.give_rows.new.nodes c.give_rows-2.new.nodes pair.shards_a w.0 places _
            c.give_rows-2.ensures.nodes
            (stand_given nodes c.give_rows.new.nodes pair.shards_a w.0 places _
            c.give_rows.ensures.nodes
            (parity_stand nodes pair order can places size
            (λ e l. get_or-take order.r c.parity_positions-parities.result e 0 l
            ∙ c.parity_positions-parities.ensures.positions e l) can.pages w.0 w.1 w.2))),
      ),
    )

pub returns-clause-rows : goal.returns-clause-rows
returns-clause-rows c =
    let nodes = c.args.nodes.now in let pair = c.args.pair.now in let order = c.args.order.now in
    let can = c.requires.ready in
    let four = c.parity_positions-parities.ensures.size in
    let r = can.code.range.parities_most in
    let within : order.r ≤ length c.parity_positions-parities.result = omega (arith, r, four) in
    let places = take order.r c.parity_positions-parities.result in
    let size = length-take-le order.r c.parity_positions-parities.result within in
    let are = λ (e : ℕ) (l : e < order.r).
    get_or-take order.r c.parity_positions-parities.result e 0 l
    ∙ c.parity_positions-parities.ensures.positions e l in
    let sa = ap (λ (p : JoiningState). p.shards_a) (sym c.pair.view_is)
    ∙ sym c.deref.ensures.value in
    let ta = ap (λ (p : JoiningState). p.taken) (sym c.pair.view_is)
    ∙ sym c.deref-2.ensures.value in
    let sb = ap (λ (p : JoiningState). p.shards_b) (sym c.pair.view_is)
    ∙ sym c.deref-3.ensures.value in
    let tb = ap (λ (p : JoiningState). p.taken) (sym c.pair.view_is)
    ∙ sym c.deref-4.ensures.value in
    let sp = ap (λ (p : JoiningState). p.shards_a) (sym c.pair.view_is)
    ∙ sym c.deref-5.ensures.value in
    let first = c.give_rows.new.nodes in let second = c.give_rows-2.new.nodes in
    are_fetched nodes pair order can places size are c.give_rows.new.table
    c.give_rows-2.new.table c.give_rows-3.new.table
    (c.give_rows.ensures.count ∙ sym (ap length ta))
    (c.give_rows-2.ensures.count ∙ sym (ap length tb)) c.give_rows-3.ensures.count
    (c.give_rows.ensures.lengths can.pages can.blank.old_wide)
    (c.give_rows-2.ensures.lengths can.pages can.blank.new_wide)
    (c.give_rows-3.ensures.lengths can.pages can.blank.parities_wide)
    (λ n wa wb x i l. c.give_rows.ensures.rows n wa
    (stand_along nodes pair.shards_a c.deref.result.now wa pair.taken c.deref-2.result.now sa ta
    (a_stand nodes pair order can n wa wb x)) i (let e = ap length ta in omega (arith, l, e))
    ∙ ap (λ (t : List ℕ). row_at wa (get_or t i 0)) (sym ta))
    (λ n wa wb x i l. c.give_rows-2.ensures.rows n wb
    (stand_along first pair.shards_b c.deref-3.result.now wb pair.taken c.deref-4.result.now sb tb
    (stand_given nodes first pair.shards_b wb pair.taken _ c.give_rows.ensures.nodes
    (b_stand nodes pair order can n wa wb x))) i (let e = ap length tb in omega (arith, l, e))
    ∙ ap (λ (t : List ℕ). row_at wb (get_or t i 0)) (sym tb))
    (λ n wa wb x i l. c.give_rows-3.ensures.rows n wa
    (stand_along second pair.shards_a c.deref-5.result.now wa places places sp refl
    (stand_given first second pair.shards_a wa places _ c.give_rows-2.ensures.nodes
    (stand_given nodes first pair.shards_a wa places _ c.give_rows.ensures.nodes
    (parity_stand nodes pair order can places size are n wa wb x)))) i l)
