use Rattle.std.proofs.Common.{◌≡◌, ℕ, ◌+◌, ◌-◌, cond, List, Some, get_or, sym, ap, subst, ◌∙◌, arith}
use Rattle.std.specs.List.{slice_get}
use Rattle.std.proofs.lemmas.Option.{slice_get-get_or}
use Rattle.std.proofs.lemmas.Result.{IfOk-weaker}
use Rattle.cb_gf256.specs.Rows.{row_at}
use Rattle.cb_node.specs.Answer.{PutGives}
use Rattle.cb_world.specs.Joining.{JoiningState}
use Rattle.cb_compact.proofs.Parity.{row_there}
use Rattle.cb_compact.proofs.deltas.put_merged.Goals as goal

-- b's shard of the position
from_is : (c : goal.After-copy_row-arg-then-position-k-1)
    → slice_get c.args.pair.now.shards_b c.args.position ≡ Some c.index.result.now
from_is c =
    slice_get-get_or c.args.pair.now.shards_b c.args.position c.index.result.now
    (let n = c.requires.code.b_count in let l = c.requires.position in omega (arith, n, l))
    ∙ ap Some (ap (λ (q : JoiningState). get_or q.shards_b c.args.position c.index.result.now)
    (sym c.pair.view_is) ∙ sym c.index.ensures)

pub copy_row-requires-clause-from : goal.copy_row-requires-clause-from
copy_row-requires-clause-from c =
    c.requires.code.b_nodes c.args.position c.index.result.now (from_is c)

pub copy_row-requires-clause-to : goal.copy_row-requires-clause-to
copy_row-requires-clause-to c = c.requires.to

pub copy_row-requires-clause-source : goal.copy_row-requires-clause-source
copy_row-requires-clause-source c =
    let w = c.requires.words in
    row_there c.args.nodes.now c.args.pair.now.shards_b w.1 c.args.position c.index.result.now
    w.3.b_rows (from_is c)

pub copy_row-requires-clause-fresh : goal.copy_row-requires-clause-fresh
copy_row-requires-clause-fresh c = c.requires.fresh

pub put_parity-requires-clause-parity : goal.put_parity-requires-clause-parity
put_parity-requires-clause-parity c =
    let l = c.requires.position in let f = c.if-position-k.false in omega (arith, l, f)

pub put_parity-requires-clause-words : goal.put_parity-requires-clause-words
put_parity-requires-clause-words c = c.requires.words

pub returns-then-position-k-clause-put : goal.returns-then-position-k-clause-put
returns-then-position-k-clause-put c =
    let from : slice_get c.args.pair.now.shards_b c.args.position ≡ Some c.index.result.now =
    slice_get-get_or c.args.pair.now.shards_b c.args.position c.index.result.now
    (let n = c.requires.code.b_count in let l = c.requires.position in omega (arith, n, l))
    ∙ ap Some (ap (λ (q : JoiningState). get_or q.shards_b c.args.position c.index.result.now)
    (sym c.pair.view_is) ∙ sym c.index.ensures) in
    IfOk-weaker c.copy_row.result _ _ (λ answer given pages wa wb m x merged.
    subst (λ (row : List ℕ). PutGives c.args.nodes.now c.args.to.node c.args.to.key row answer
    c.copy_row.new.nodes)
    (sym (merged.chosen c.args.position c.if-position-k.true
    ∙ ap (λ b. cond b (row_at wb c.args.position) (row_at wa c.args.position))
    (c.requires.taken c.if-position-k.true)))
    (given wb c.args.position c.args.pair.now.shards_b x.b_rows from)) c.copy_row.ensures.copied

pub returns-clause-put : goal.returns-clause-put
returns-clause-put c =
    IfOk-weaker c.put_parity.result _ _ (λ answer given pages wa wb m x merged.
    subst (λ (p : ℕ). PutGives c.args.nodes.now c.args.to.node c.args.to.key (row_at m p) answer
    c.put_parity.new.nodes)
    (let f = c.if-position-k.false in
    let e : c.args.k + (c.args.position - c.args.k) ≡ c.args.position = omega (arith, f) in e)
    (given pages wa wb m x merged)) c.put_parity.ensures.put
