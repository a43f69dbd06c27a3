use Rattle.std.proofs.Common.{◌≡◌, ℕ, ◌+◌, ◌<◌, List, All, Some, length, get_or, sym, ap, subst, ◌∙◌, arith}
use Rattle.std.specs.List.{slice_get}
use Rattle.cb_gf256.specs.Rows.{row_at}
use Rattle.cb_member.specs.declared.names.Shard.{Shard}
use Rattle.cb_node.specs.Answer.{PutGives}
use Rattle.cb_node.specs.NodesState.{with_row}
use Rattle.cb_node.specs.declared.nodes.PutAnswer.{PutAnswer}
use Rattle.cb_world.specs.Joining.{JoiningState}
use Rattle.cb_world.specs.Merged.{patched}
use Rattle.cb_compact.specs.Deltas.{CanPatch, NoneNames}
use Rattle.cb_compact.proofs.Parity.{can_patch, own_at, parity_put, row_there, taken_in_a, taken_in_b, taken_in_row}
use Rattle.cb_compact.proofs.deltas.put_parity.Goals as goal

-- a's shard of the parity
own_is : (c : goal.After-copy_row-arg-1)
    → slice_get c.args.pair.now.shards_a (c.args.k + c.args.parity) ≡ Some c.index-own.result.now
own_is c =
    own_at c.args.nodes.now c.args.pair.now c.args.k c.args.r c.args.parity c.args.to
    c.requires.code
    c.requires.parity c.requires.to c.requires.a_other c.requires.b_other c.index-own.result.now
    ∙ ap Some (ap (λ (q : JoiningState). get_or q.shards_a (c.args.k + c.args.parity)
    c.index-own.result.now)
    (sym c.pair.view_is) ∙ sym c.index-own.ensures)

pub coefficients-table-requires : goal.coefficients-table-requires
coefficients-table-requires c = c.requires.code.range

pub copy_row-requires-clause-from : goal.copy_row-requires-clause-from
copy_row-requires-clause-from c =
    c.requires.code.a_nodes (c.args.k + c.args.parity) c.index-own.result.now (own_is c)

pub copy_row-requires-clause-to : goal.copy_row-requires-clause-to
copy_row-requires-clause-to c = c.requires.to

pub copy_row-requires-clause-source : goal.copy_row-requires-clause-source
copy_row-requires-clause-source c =
    let w = c.requires.words in
    row_there c.args.nodes.now c.args.pair.now.shards_a w.0 (c.args.k + c.args.parity)
    c.index-own.result.now w.3.a_rows (own_is c)

pub copy_row-requires-clause-fresh : goal.copy_row-requires-clause-fresh
copy_row-requires-clause-fresh c = c.requires.fresh

pub add_deltas-requires-clause-to : goal.add_deltas-requires-clause-to
add_deltas-requires-clause-to c =
    let n = c.in_ok-copy_row.ensures.count in let l = c.requires.to in omega (arith, n, l)

pub add_deltas-requires-clause-parity : goal.add_deltas-requires-clause-parity
add_deltas-requires-clause-parity c =
    let n = c.coefficients-table.ensures.parities in let l = c.requires.parity in omega (
      arith,
      n,
      l,
    )

pub add_deltas-requires-clause-table : goal.add_deltas-requires-clause-table
add_deltas-requires-clause-table c =
    let nodes = c.args.nodes.now in let pair = c.args.pair.now in let k = c.args.k in
    let r = c.args.r in let e = c.args.parity in let to = c.args.to in
    let da : c.deref.result.now ≡ pair.shards_a =
    c.deref.ensures.value ∙ ap (λ (q : JoiningState). q.shards_a) c.pair.view_is in
    let db : c.deref-in-Stored.result.now ≡ pair.shards_b =
    c.deref-in-Stored.ensures.value ∙ ap (λ (q : JoiningState). q.shards_b) c.pair.view_is in
    let dt : c.deref-in-Stored-2.result.now ≡ pair.taken =
    c.deref-in-Stored-2.ensures.value ∙ ap (λ (q : JoiningState). q.taken) c.pair.view_is in
    subst (λ (l : List ℕ). All (λ i. i < length (row_at c.coefficients-table.result e)) l) (sym
    dt)
    (taken_in_row nodes pair k r e to c.requires.code c.requires.parity c.requires.to
    c.requires.a_other c.requires.b_other c.coefficients-table.result
    c.coefficients-table.ensures)

pub add_deltas-requires-clause-in_a : goal.add_deltas-requires-clause-in_a
add_deltas-requires-clause-in_a c =
    let nodes = c.args.nodes.now in let pair = c.args.pair.now in let k = c.args.k in
    let r = c.args.r in let e = c.args.parity in let to = c.args.to in
    let da : c.deref.result.now ≡ pair.shards_a =
    c.deref.ensures.value ∙ ap (λ (q : JoiningState). q.shards_a) c.pair.view_is in
    let db : c.deref-in-Stored.result.now ≡ pair.shards_b =
    c.deref-in-Stored.ensures.value ∙ ap (λ (q : JoiningState). q.shards_b) c.pair.view_is in
    let dt : c.deref-in-Stored-2.result.now ≡ pair.taken =
    c.deref-in-Stored-2.ensures.value ∙ ap (λ (q : JoiningState). q.taken) c.pair.view_is in
    subst (λ (l : List ℕ). All (λ i. i < length c.deref.result.now) l) (sym dt)
    (subst (λ (l : List Shard). All (λ i. i < length l) pair.taken) (sym da) (taken_in_a nodes
    pair k r e to c.requires.code c.requires.parity c.requires.to c.requires.a_other
    c.requires.b_other))

pub add_deltas-requires-clause-in_b : goal.add_deltas-requires-clause-in_b
add_deltas-requires-clause-in_b c =
    let nodes = c.args.nodes.now in let pair = c.args.pair.now in let k = c.args.k in
    let r = c.args.r in let e = c.args.parity in let to = c.args.to in
    let da : c.deref.result.now ≡ pair.shards_a =
    c.deref.ensures.value ∙ ap (λ (q : JoiningState). q.shards_a) c.pair.view_is in
    let db : c.deref-in-Stored.result.now ≡ pair.shards_b =
    c.deref-in-Stored.ensures.value ∙ ap (λ (q : JoiningState). q.shards_b) c.pair.view_is in
    let dt : c.deref-in-Stored-2.result.now ≡ pair.taken =
    c.deref-in-Stored-2.ensures.value ∙ ap (λ (q : JoiningState). q.taken) c.pair.view_is in
    subst (λ (l : List ℕ). All (λ i. i < length c.deref-in-Stored.result.now) l) (sym dt)
    (subst (λ (l : List Shard). All (λ i. i < length l) pair.taken) (sym db) (taken_in_b nodes
    pair k r e to c.requires.code c.requires.parity c.requires.to c.requires.a_other
    c.requires.b_other))

pub add_deltas-requires-clause-a_other : goal.add_deltas-requires-clause-a_other
add_deltas-requires-clause-a_other c =
    let nodes = c.args.nodes.now in let pair = c.args.pair.now in let k = c.args.k in
    let r = c.args.r in let e = c.args.parity in let to = c.args.to in
    let da : c.deref.result.now ≡ pair.shards_a =
    c.deref.ensures.value ∙ ap (λ (q : JoiningState). q.shards_a) c.pair.view_is in
    let db : c.deref-in-Stored.result.now ≡ pair.shards_b =
    c.deref-in-Stored.ensures.value ∙ ap (λ (q : JoiningState). q.shards_b) c.pair.view_is in
    let dt : c.deref-in-Stored-2.result.now ≡ pair.taken =
    c.deref-in-Stored-2.ensures.value ∙ ap (λ (q : JoiningState). q.taken) c.pair.view_is in
    subst (λ (l : List Shard). NoneNames l to.node to.key) (sym da) c.requires.a_other

pub add_deltas-requires-clause-b_other : goal.add_deltas-requires-clause-b_other
add_deltas-requires-clause-b_other c =
    let nodes = c.args.nodes.now in let pair = c.args.pair.now in let k = c.args.k in
    let r = c.args.r in let e = c.args.parity in let to = c.args.to in
    let da : c.deref.result.now ≡ pair.shards_a =
    c.deref.ensures.value ∙ ap (λ (q : JoiningState). q.shards_a) c.pair.view_is in
    let db : c.deref-in-Stored.result.now ≡ pair.shards_b =
    c.deref-in-Stored.ensures.value ∙ ap (λ (q : JoiningState). q.shards_b) c.pair.view_is in
    let dt : c.deref-in-Stored-2.result.now ≡ pair.taken =
    c.deref-in-Stored-2.ensures.value ∙ ap (λ (q : JoiningState). q.taken) c.pair.view_is in
    subst (λ (l : List Shard). NoneNames l to.node to.key) (sym db) c.requires.b_other

pub add_deltas-requires-clause-rows : goal.add_deltas-requires-clause-rows
add_deltas-requires-clause-rows c =
    let nodes = c.args.nodes.now in let pair = c.args.pair.now in let k = c.args.k in
    let r = c.args.r in let e = c.args.parity in let to = c.args.to in
    let da : c.deref.result.now ≡ pair.shards_a =
    c.deref.ensures.value ∙ ap (λ (q : JoiningState). q.shards_a) c.pair.view_is in
    let db : c.deref-in-Stored.result.now ≡ pair.shards_b =
    c.deref-in-Stored.ensures.value ∙ ap (λ (q : JoiningState). q.shards_b) c.pair.view_is in
    let dt : c.deref-in-Stored-2.result.now ≡ pair.taken =
    c.deref-in-Stored-2.ensures.value ∙ ap (λ (q : JoiningState). q.taken) c.pair.view_is in
    let own : slice_get pair.shards_a (k + e) ≡ Some c.index-own.result.now =
    own_at nodes pair k r e to c.requires.code c.requires.parity c.requires.to c.requires.a_other
    c.requires.b_other c.index-own.result.now
    ∙ ap Some (ap (λ (q : JoiningState). get_or q.shards_a (k + e) c.index-own.result.now)
    (sym c.pair.view_is) ∙ sym c.index-own.ensures) in
    let w = c.requires.words in
    let put = subst (λ (v : PutAnswer). PutGives nodes to.node to.key (row_at w.0 (k + e)) v
    c.copy_row.new.nodes)
    c.in-Stored.is (c.in_ok-copy_row.ensures.copied w.0 (k + e) pair.shards_a w.3.a_rows own) in (
      w.0,
      w.1,
      row_at w.0 (k + e),
      subst (λ (l : List ℕ). CanPatch c.copy_row.new.nodes to.node to.key c.deref.result.now
          c.deref-in-Stored.result.now l w.0 w.1 (row_at w.0 (k + e))) (sym dt)
          (subst (λ (l : List Shard). CanPatch c.copy_row.new.nodes to.node to.key
          c.deref.result.now l
          pair.taken w.0 w.1 (row_at w.0 (k + e))) (sym db)
          (subst (λ (l : List Shard). CanPatch c.copy_row.new.nodes to.node to.key l pair.shards_b
          pair.taken w.0 w.1 (row_at w.0 (k + e))) (sym da)
          (can_patch nodes pair k r e to c.requires.code c.requires.parity c.requires.to
          c.requires.a_other c.requires.b_other w.2 w.0 w.1 c.copy_row.new.nodes w.3 put.1))),
    )

pub returns-in-Stored-clause-put : goal.returns-in-Stored-clause-put
returns-in-Stored-clause-put c pages wa wb m x merged =
    let nodes = c.args.nodes.now in let pair = c.args.pair.now in let k = c.args.k in
    let r = c.args.r in let e = c.args.parity in let to = c.args.to in
    let da : c.deref.result.now ≡ pair.shards_a =
    c.deref.ensures.value ∙ ap (λ (q : JoiningState). q.shards_a) c.pair.view_is in
    let db : c.deref-in-Stored.result.now ≡ pair.shards_b =
    c.deref-in-Stored.ensures.value ∙ ap (λ (q : JoiningState). q.shards_b) c.pair.view_is in
    let dt : c.deref-in-Stored-2.result.now ≡ pair.taken =
    c.deref-in-Stored-2.ensures.value ∙ ap (λ (q : JoiningState). q.taken) c.pair.view_is in
    let own : slice_get pair.shards_a (k + e) ≡ Some c.index-own.result.now =
    own_at nodes pair k r e to c.requires.code c.requires.parity c.requires.to c.requires.a_other
    c.requires.b_other c.index-own.result.now
    ∙ ap Some (ap (λ (q : JoiningState). get_or q.shards_a (k + e) c.index-own.result.now)
    (sym c.pair.view_is) ∙ sym c.index-own.ensures) in
    let put = subst (λ (v : PutAnswer). PutGives nodes to.node to.key (row_at wa (k + e)) v
    c.copy_row.new.nodes)
    c.in-Stored.is (c.in_ok-copy_row.ensures.copied wa (k + e) pair.shards_a x.a_rows own) in
    let can = subst (λ (l : List ℕ). CanPatch c.copy_row.new.nodes to.node to.key
    c.deref.result.now
    c.deref-in-Stored.result.now l wa wb (row_at wa (k + e))) (sym dt)
    (subst (λ (l : List Shard). CanPatch c.copy_row.new.nodes to.node to.key c.deref.result.now l
    pair.taken wa wb (row_at wa (k + e))) (sym db)
    (subst (λ (l : List Shard). CanPatch c.copy_row.new.nodes to.node to.key l pair.shards_b
    pair.taken wa wb (row_at wa (k + e))) (sym da)
    (can_patch nodes pair k r e to c.requires.code c.requires.parity c.requires.to
    c.requires.a_other c.requires.b_other pages wa wb c.copy_row.new.nodes x put.1))) in (
      put.0,
      parity_put nodes pair k r e to c.requires.code c.requires.parity c.requires.to
          c.requires.a_other c.requires.b_other pages c.coefficients-table.result wa wb m
          c.copy_row.new.nodes
          c.add_deltas.new.nodes c.coefficients-table.ensures x merged put.1
          (c.add_deltas.ensures wa wb (row_at wa (k + e)) can
          ∙ ap (λ (l : List ℕ). with_row c.copy_row.new.nodes to.node to.key
          (patched (row_at c.coefficients-table.result e) wa wb (row_at wa (k + e)) l)) dt),
    )

pub returns-in-Full-clause-put : goal.returns-in-Full-clause-put
returns-in-Full-clause-put c pages wa wb m x merged =
    let nodes = c.args.nodes.now in let pair = c.args.pair.now in let k = c.args.k in
    let r = c.args.r in let e = c.args.parity in let to = c.args.to in
    let own : slice_get pair.shards_a (k + e) ≡ Some c.index-own.result.now =
    own_at nodes pair k r e to c.requires.code c.requires.parity c.requires.to c.requires.a_other
    c.requires.b_other c.index-own.result.now
    ∙ ap Some (ap (λ (q : JoiningState). get_or q.shards_a (k + e) c.index-own.result.now)
    (sym c.pair.view_is) ∙ sym c.index-own.ensures) in
    subst (λ (v : PutAnswer). PutGives nodes to.node to.key (row_at wa (k + e)) v
    c.copy_row.new.nodes)
    c.in-Full.is (c.in_ok-copy_row.ensures.copied wa (k + e) pair.shards_a x.a_rows own)
