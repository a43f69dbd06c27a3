use Rattle.std.proofs.Common.{ℕ, List, get_or, ap, ◌∙◌, arith}
use Rattle.std.proofs.lemmas.List.{take_all}
use Rattle.std.proofs.lemmas.Option.{slice_get-get_or}
use Rattle.cb_gf256.specs.Rows.{row_at}
use Rattle.cb_member.specs.declared.names.Shard.{Shard}
use Rattle.cb_node.specs.NodesState.{with_row}
use Rattle.cb_world.specs.Merged.{patched}
use Rattle.cb_compact.proofs.Adding.{a_length, a_node, a_row, added_more, b_length, b_node, b_row, count, has_row, none_added, own_row}
use Rattle.cb_compact.proofs.deltas.add_deltas.Goals as goal

abbrev none_here : Shard
none_here = record { node = record { n = 0 }; incarnation = 0; key = 0 }

pub loop-position-init : goal.loop-position-init
loop-position-init c =
    none_added c.args.nodes.now c.args.to (row_at c.args.table.now c.args.parity) c.args.a.now
    c.args.b.now c.args.taken.now

pub returns : goal.returns
returns c wa wb row can = c.loop-position.invariant wa wb row can
    ∙ ap (λ (l : List ℕ). with_row c.args.nodes.now c.args.to.node c.args.to.key
    (patched (row_at c.args.table.now c.args.parity) wa wb row l))
    (take_all c.loop-position.position-index c.args.taken.now c.loop-position-test.false)

pub add_delta-requires-clause-to : goal.add_delta-requires-clause-to
add_delta-requires-clause-to c =
    let old = c.args.nodes.now in let now = c.loop-position.nodes in let to = c.args.to in
    let f = row_at c.args.table.now c.args.parity in
    let a = c.args.a.now in let b = c.args.b.now in let taken = c.args.taken.now in
    let i = c.loop-position.position-index in let p = get_or taken i 0 in let w = c.requires.rows
    in
    let e = count old now to f a b taken c.requires.to c.requires.a_other c.requires.b_other i
    c.loop-position-test.true (get_or a p none_here) (get_or b p none_here)
    (slice_get-get_or a p none_here (c.requires.in_a i 0 c.loop-position-test.true))
    (slice_get-get_or b p none_here (c.requires.in_b i 0 c.loop-position-test.true))
    c.loop-position.invariant w.0 w.1 w.2 w.3 in
    let l = c.requires.to in omega (arith, e, l)

pub add_delta-requires-clause-old_node : goal.add_delta-requires-clause-old_node
add_delta-requires-clause-old_node c =
    let old = c.args.nodes.now in let now = c.loop-position.nodes in let to = c.args.to in
    let f = row_at c.args.table.now c.args.parity in
    let a = c.args.a.now in let b = c.args.b.now in let taken = c.args.taken.now in
    let i = c.loop-position.position-index in let p = get_or taken i 0 in let w = c.requires.rows
    in
    a_node old now to f a b taken c.requires.to c.requires.a_other c.requires.b_other i
    c.loop-position-test.true (get_or a p none_here) (get_or b p none_here)
    (slice_get-get_or a p none_here (c.requires.in_a i 0 c.loop-position-test.true))
    (slice_get-get_or b p none_here (c.requires.in_b i 0 c.loop-position-test.true))
    c.loop-position.invariant w.0 w.1 w.2 w.3

pub add_delta-requires-clause-new_node : goal.add_delta-requires-clause-new_node
add_delta-requires-clause-new_node c =
    let old = c.args.nodes.now in let now = c.loop-position.nodes in let to = c.args.to in
    let f = row_at c.args.table.now c.args.parity in
    let a = c.args.a.now in let b = c.args.b.now in let taken = c.args.taken.now in
    let i = c.loop-position.position-index in let p = get_or taken i 0 in let w = c.requires.rows
    in
    b_node old now to f a b taken c.requires.to c.requires.a_other c.requires.b_other i
    c.loop-position-test.true (get_or a p none_here) (get_or b p none_here)
    (slice_get-get_or a p none_here (c.requires.in_a i 0 c.loop-position-test.true))
    (slice_get-get_or b p none_here (c.requires.in_b i 0 c.loop-position-test.true))
    c.loop-position.invariant w.0 w.1 w.2 w.3

pub add_delta-requires-clause-target : goal.add_delta-requires-clause-target
add_delta-requires-clause-target c =
    let old = c.args.nodes.now in let now = c.loop-position.nodes in let to = c.args.to in
    let f = row_at c.args.table.now c.args.parity in
    let a = c.args.a.now in let b = c.args.b.now in let taken = c.args.taken.now in
    let i = c.loop-position.position-index in let p = get_or taken i 0 in let w = c.requires.rows
    in
    has_row now to.node to.key _ (own_row old now to f a b taken c.requires.to c.requires.a_other
    c.requires.b_other i
    c.loop-position-test.true (get_or a p none_here) (get_or b p none_here)
    (slice_get-get_or a p none_here (c.requires.in_a i 0 c.loop-position-test.true))
    (slice_get-get_or b p none_here (c.requires.in_b i 0 c.loop-position-test.true))
    c.loop-position.invariant w.0 w.1 w.2 w.3)

pub add_delta-requires-clause-old_row : goal.add_delta-requires-clause-old_row
add_delta-requires-clause-old_row c =
    let old = c.args.nodes.now in let now = c.loop-position.nodes in let to = c.args.to in
    let f = row_at c.args.table.now c.args.parity in
    let a = c.args.a.now in let b = c.args.b.now in let taken = c.args.taken.now in
    let i = c.loop-position.position-index in let p = get_or taken i 0 in let w = c.requires.rows
    in
    has_row now (get_or a p none_here).node (get_or a p none_here).key _ (a_row old now to f a b
    taken c.requires.to c.requires.a_other c.requires.b_other i
    c.loop-position-test.true (get_or a p none_here) (get_or b p none_here)
    (slice_get-get_or a p none_here (c.requires.in_a i 0 c.loop-position-test.true))
    (slice_get-get_or b p none_here (c.requires.in_b i 0 c.loop-position-test.true))
    c.loop-position.invariant w.0 w.1 w.2 w.3)

pub add_delta-requires-clause-new_row : goal.add_delta-requires-clause-new_row
add_delta-requires-clause-new_row c =
    let old = c.args.nodes.now in let now = c.loop-position.nodes in let to = c.args.to in
    let f = row_at c.args.table.now c.args.parity in
    let a = c.args.a.now in let b = c.args.b.now in let taken = c.args.taken.now in
    let i = c.loop-position.position-index in let p = get_or taken i 0 in let w = c.requires.rows
    in
    has_row now (get_or b p none_here).node (get_or b p none_here).key _ (b_row old now to f a b
    taken c.requires.to c.requires.a_other c.requires.b_other i
    c.loop-position-test.true (get_or a p none_here) (get_or b p none_here)
    (slice_get-get_or a p none_here (c.requires.in_a i 0 c.loop-position-test.true))
    (slice_get-get_or b p none_here (c.requires.in_b i 0 c.loop-position-test.true))
    c.loop-position.invariant w.0 w.1 w.2 w.3)

pub add_delta-requires-clause-old_length : goal.add_delta-requires-clause-old_length
add_delta-requires-clause-old_length c =
    let old = c.args.nodes.now in let now = c.loop-position.nodes in let to = c.args.to in
    let f = row_at c.args.table.now c.args.parity in
    let a = c.args.a.now in let b = c.args.b.now in let taken = c.args.taken.now in
    let i = c.loop-position.position-index in let p = get_or taken i 0 in let w = c.requires.rows
    in
    a_length old now to f a b taken c.requires.to c.requires.a_other c.requires.b_other i
    c.loop-position-test.true (get_or a p none_here) (get_or b p none_here)
    (slice_get-get_or a p none_here (c.requires.in_a i 0 c.loop-position-test.true))
    (slice_get-get_or b p none_here (c.requires.in_b i 0 c.loop-position-test.true))
    c.loop-position.invariant w.0 w.1 w.2 w.3

pub add_delta-requires-clause-new_length : goal.add_delta-requires-clause-new_length
add_delta-requires-clause-new_length c =
    let old = c.args.nodes.now in let now = c.loop-position.nodes in let to = c.args.to in
    let f = row_at c.args.table.now c.args.parity in
    let a = c.args.a.now in let b = c.args.b.now in let taken = c.args.taken.now in
    let i = c.loop-position.position-index in let p = get_or taken i 0 in let w = c.requires.rows
    in
    b_length old now to f a b taken c.requires.to c.requires.a_other c.requires.b_other i
    c.loop-position-test.true (get_or a p none_here) (get_or b p none_here)
    (slice_get-get_or a p none_here (c.requires.in_a i 0 c.loop-position-test.true))
    (slice_get-get_or b p none_here (c.requires.in_b i 0 c.loop-position-test.true))
    c.loop-position.invariant w.0 w.1 w.2 w.3

pub loop-position-preserved : goal.loop-position-preserved
loop-position-preserved c =
    let old = c.args.nodes.now in let now = c.loop-position.nodes in let to = c.args.to in
    let f = row_at c.args.table.now c.args.parity in
    let a = c.args.a.now in let b = c.args.b.now in let taken = c.args.taken.now in
    let i = c.loop-position.position-index in let p = get_or taken i 0 in
    added_more old now to f a b taken c.requires.to c.requires.a_other c.requires.b_other i
    c.loop-position-test.true (get_or a p none_here) (get_or b p none_here)
    (slice_get-get_or a p none_here (c.requires.in_a i 0 c.loop-position-test.true))
    (slice_get-get_or b p none_here (c.requires.in_b i 0 c.loop-position-test.true))
    c.loop-position.invariant c.at.result c.add_delta.new.self c.at.ensures
    c.add_delta.ensures.after
