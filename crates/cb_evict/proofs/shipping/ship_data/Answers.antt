use Rattle.std.proofs.Common.{◌≡◌, ℕ, List, length, Some, ap, sym, ◌∙◌, subst, refl, [], ◌<◌, ◌^◌, arith}
use Rattle.std.specs.List.{slice_get}
use Rattle.std.proofs.lemmas.List.{with_items_is}
use Rattle.cb_node.specs.NodesState.{NodesState, has, held}
use Rattle.cb_world.specs.FarState.{FarState}
use Rattle.cb_world.specs.Leaving.{LeavingState}
use Rattle.cb_world.specs.contracts.far.Far.{the_view}
use Rattle.cb_evict.specs.Loading.{LoadsRun}
use Rattle.cb_evict.specs.ShipRule.{with_noted, with_shipped}
use Rattle.cb_evict.specs.Shipping.{PutsNothing}
use Rattle.cb_evict.proofs.Composed.{any_err}
use Rattle.cb_evict.proofs.ShipParts.{puts_data, puts_nothing}
use Rattle.cb_evict.proofs.shipping.ship_data.Goals as goal
use Rattle.cb_evict.proofs.Options.{some_same}

pub returns-in_err-put_row-clause-err : goal.returns-in_err-put_row-clause-err
returns-in_err-put_row-clause-err g c =
    let x = c.requires.there in
    any_err _ _ (puts_nothing (λ es. g.D.Desk.run c.args.desk.now es c.load_span.new.desk)
    (λ s. g.D.Desk.shows c.args.desk.now s) c.args.far.now x.0 c.args.position c.args.frame _ x.1 x.2
    (c.requires.spans x.0 x.1)
    (subst (λ (n : ℕ). LoadsRun (λ es. g.D.Desk.run c.args.desk.now es c.load_span.new.desk)
    (λ s. g.D.Desk.shows c.args.desk.now s) c.args.frame n c.load_span.new.into)
    (c.leaving_pages-pages.ensures x.0 x.1) c.load_span.ensures.loads))

pub returns-clause-ok : goal.returns-clause-ok
returns-clause-ok g c = λ batch there.
    let far = c.args.far.now in let p = c.args.position in let shard = c.args.shard in
    let x = c.requires.there in
    let view = the_view c.far.inside in
    let row = c.deref.result.now in
    let read = c.in_ok-row.row in
    let same : row ≡ c.load_span.new.into =
    c.deref.ensures.value ∙ with_items_is read c.load_span.new.into
    (c.load_span.auto.into ∙ ap length c.deref_mut.ensures.value ∙ sym read.ok.0) in
    puts_data (λ es. g.D.Desk.run c.args.desk.now es c.load_span.new.desk)
    (λ s. g.D.Desk.shows c.args.desk.now s) (λ s. g.D.Desk.shows c.args.desk.now s) far
    c.note_shard.new.far batch p c.args.frame shard row there
    (subst (λ (b : LeavingState). slice_get b.frames p ≡ Some c.args.frame)
    (some_same x.0 batch (sym x.1 ∙ there)) x.2)
    (c.requires.spans batch there)
    (subst (λ (l : List ℕ). LoadsRun (λ es. g.D.Desk.run c.args.desk.now es c.load_span.new.desk)
    (λ s. g.D.Desk.shows c.args.desk.now s) c.args.frame batch.pages l) (sym same)
    (subst (λ (n : ℕ). LoadsRun (λ es. g.D.Desk.run c.args.desk.now es c.load_span.new.desk)
    (λ s. g.D.Desk.shows c.args.desk.now s) c.args.frame n c.load_span.new.into)
    (c.leaving_pages-pages.ensures batch there) c.load_span.ensures.loads))
    (λ s k. k)
    (c.note_shard.ensures batch (ap (λ (f : FarState). f.leaving) c.far.view_is ∙ there)
    ∙ ap (λ (n : NodesState). with_noted (record view { nodes = n }) batch p shard)
    c.in_ok-put_row.ensures.ok
    ∙ ap (λ (f : FarState). with_shipped f batch p shard row) c.far.view_is)

pub same-far : goal.same-far
same-far g c = refl

pub returns-in_err-row-clause-unchanged : goal.returns-in_err-row-clause-unchanged
returns-in_err-row-clause-unchanged g c = any_err _ _ refl

pub returns-in_err-row-clause-err : goal.returns-in_err-row-clause-err
returns-in_err-row-clause-err g c =
    let nothing : PutsNothing (λ es. g.D.Desk.run c.args.desk.now es c.args.desk.now) c.args.far.now =
    ([], g.met.D.Desk.none _, tt) in any_err _ _ nothing

pub load_span-requires-clause-config : goal.load_span-requires-clause-config
load_span-requires-clause-config g c = c.requires.config

pub load_span-requires-clause-frames : goal.load_span-requires-clause-frames
load_span-requires-clause-frames g c =
    let x = c.requires.there in let pages = c.leaving_pages-pages.ensures x.0 x.1 in
    omega (arith, c.requires.frames x.0 x.1, pages)

pub put_row-requires-clause-within : goal.put_row-requires-clause-within
put_row-requires-clause-within g c = subst (λ (q : FarState). c.args.shard.node.n < length q.nodes.nodes) (sym c.far.view_is) c.requires.within

pub put_row-requires-clause-fresh : goal.put_row-requires-clause-fresh
put_row-requires-clause-fresh g c = ap (λ (q : FarState). has q.nodes c.args.shard.node c.args.shard.key) c.far.view_is ∙ c.requires.fresh

pub put_row-requires-clause-room : goal.put_row-requires-clause-room
put_row-requires-clause-room g c =
    subst (λ (q : FarState). held q.nodes c.args.shard.node < q.nodes.room)
    (sym c.far.view_is) c.requires.room

pub note_shard-requires-clause-keys : goal.note_shard-requires-clause-keys
note_shard-requires-clause-keys g c = subst (λ (q : FarState). q.counts.keys < 2 ^ 62) (sym c.far.view_is) c.requires.keys

pub note_shard-requires-clause-there : goal.note_shard-requires-clause-there
note_shard-requires-clause-there g c = let x = c.requires.there in (x.0, ap (λ (q : FarState). q.leaving) c.far.view_is ∙ x.1, x.3)

pub returns-clause-err : goal.returns-clause-err
returns-clause-err g c = tt

pub returns-clause-unchanged : goal.returns-clause-unchanged
returns-clause-unchanged g c = tt
