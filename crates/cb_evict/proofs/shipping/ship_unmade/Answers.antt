use Rattle.std.proofs.Common.{◌≡◌, List, Some, refl, sym, ap, ◌∙◌, subst}
use Rattle.cb_node.specs.NodesState.{NodesState}
use Rattle.cb_world.specs.declared.access.Access.{Access}
use Rattle.cb_world.specs.declared.shown.Shown.{Shown}
use Rattle.cb_world.specs.FarState.{FarState}
use Rattle.cb_world.specs.Leaving.{LeavingState}
use Rattle.cb_evict.specs.ShipRule.{with_noted}
use Rattle.cb_evict.specs.Shipping.{PutsMade}
use Rattle.cb_evict.proofs.Composed.{any_err}
use Rattle.cb_evict.proofs.Options.{some_same}
use Rattle.cb_evict.proofs.ShipParts.{due_for, puts_made, reads_batch}
use Rattle.cb_evict.proofs.shipping.ship_unmade.Goals as goal

pub returns-in_err-put_unmade-clause-err : goal.returns-in_err-put_unmade-clause-err
returns-in_err-put_unmade-clause-err g c =
    let far = c.args.far.now in let x = c.requires.there in
    let there : far.leaving ≡ Some c.in-Some.batch =
    sym (ap (λ (f : FarState). f.leaving) c.far.view_is) ∙ c.in-Some.is in
    any_err _ _ (reads_batch (λ es. g.D.Desk.run c.args.desk.now es c.put_unmade.new.desk) far
    c.in-Some.batch there (due_for _ far x.0 c.in-Some.batch c.args.position x.1 there x.2).long
    c.in_err-put_unmade.ensures.reads)

pub returns-clause-ok : goal.returns-clause-ok
returns-clause-ok g c = λ batch there.
    let far = c.args.far.now in let x = c.requires.there in
    let p = c.args.position in let shard = c.args.shard in
    let runs = λ (es : List Access). g.D.Desk.run c.args.desk.now es c.put_unmade.new.desk in
    let shows = λ (s : Shown). g.D.Desk.shows c.args.desk.now s in
    let then_batch = c.put_unmade.new.batch in let nodes = c.put_unmade.new.nodes in
    let is : far.leaving ≡ Some c.in-Some.batch =
    sym (ap (λ (f : FarState). f.leaving) c.far.view_is) ∙ c.in-Some.is in
    puts_made runs shows far c.note_shard.new.far _ batch then_batch nodes p shard there
    (due_for _ far x.0 batch p x.1 there x.2) (c.requires.unmade batch there)
    (subst (λ (b : LeavingState). PutsMade runs shows far.nodes nodes b then_batch p shard)
    (some_same c.in-Some.batch batch (sym is ∙ there))
    (subst (λ (n : NodesState). PutsMade runs shows n nodes c.in-Some.batch then_batch p shard)
    (ap (λ (f : FarState). f.nodes) c.far.view_is) c.in_ok-put_unmade.ensures.ok))
    (c.note_shard.ensures then_batch refl
    ∙ ap (λ (f : FarState). with_noted (record f { leaving = Some then_batch; nodes = nodes })
    then_batch p shard) c.far.view_is)
