use Rattle.std.proofs.Common.{◌≡◌, ◌-◌, ℕ, List, length, sym, ap, ◌∙◌, subst, arith}
use Rattle.cb_gf256.specs.Rows.{row_at}
use Rattle.cb_node.specs.NodesState.{with_row}
use Rattle.cb_world.specs.declared.access.Access.{Access}
use Rattle.cb_world.specs.declared.shown.Shown.{Shown}
use Rattle.cb_world.specs.Leaving.{LeavingState, ParitiesState}
use Rattle.cb_world.specs.contracts.leaving.Leaving.{the_view}
use Rattle.cb_evict.specs.InstallRule.{with_parities}
use Rattle.cb_evict.specs.Shipping.{LoadsParities}
use Rattle.cb_evict.proofs.BeginEnd.{shown_count}
use Rattle.cb_evict.proofs.Composed.{any_err}
use Rattle.cb_evict.proofs.ShipParts.{seen_batch, unmade_same}
use Rattle.cb_evict.proofs.shipping.put_unmade.Goals as goal

pub returns-in_err-put_row-clause-unchanged : goal.returns-in_err-put_row-clause-unchanged
returns-in_err-put_row-clause-unchanged g c =
    any_err _ _ (unmade_same (the_view c.batch.inside) c.make_from.new.parities
    c.batch.inside.parities c.make_from.ensures.unmade
    (ap (λ (b : LeavingState). b.made) c.batch.view_is ∙ c.requires.unmade)
    c.make_from.ensures.count ∙ c.batch.view_is)

pub returns-clause-ok : goal.returns-clause-ok
returns-clause-ok g c =
    let rows = c.make_from.new.parities.rows in
    let runs = λ (es : List Access). g.D.Desk.run c.args.desk.now es c.make_from.new.desk in
    let shows = λ (s : Shown). g.D.Desk.shows c.args.desk.now s in
    let value = ap (λ (l : List ℕ). length l) c.deref.ensures.value in
    let k : c.len-k.result ≡ length c.batch.inside.frames.items =
    omega (arith, c.len-k.ensures, c.deref.ensures.len, value) in record {
      parities = rows;
      loads = subst (λ (b : LeavingState). LoadsParities runs shows b.pages b.frames rows)
          c.batch.view_is
          (subst (λ (l : List ℕ). LoadsParities runs shows c.batch.inside.pages l rows)
          c.deref.ensures.value c.make_from.ensures.loads);
      count = c.make_from.ensures.count
          ∙ sym (shown_count c.batch.inside.parities.made c.batch.inside.parities.rows)
          ∙ ap (λ (b : LeavingState). length b.parities) c.batch.view_is;
      batch_then = ap (λ (p : ParitiesState). seen_batch (the_view c.batch.inside) p)
          c.mark_made.ensures
          ∙ ap (λ (b : LeavingState). with_parities b rows) c.batch.view_is;
      nodes_then = c.in_ok-put_row.ensures.ok
          ∙ ap (λ (row : List ℕ). with_row c.args.nodes.now c.args.shard.node c.args.shard.key row)
          (c.row_in_room.ensures ∙ ap (λ (n : ℕ). row_at rows (c.args.position - n))
          (k ∙ ap (λ (b : LeavingState). length b.frames) c.batch.view_is));
    }
