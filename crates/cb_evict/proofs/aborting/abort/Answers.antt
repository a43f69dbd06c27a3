use Rattle.std.proofs.Common.{◌≡◌, ◌<◌, All, List, None, Some, sym, ap, ◌∙◌, subst, arith}
use Rattle.cb_world.specs.declared.leaving.Former.{Former}
use Rattle.cb_world.specs.FarState.{FarState}
use Rattle.cb_world.specs.Leaving.{LeavingState}
use Rattle.cb_world.specs.Reserved.{put_shards}
use Rattle.cb_world.specs.Stored.{AreThere}
use Rattle.cb_evict.specs.Claims.{AreApart}
use Rattle.cb_evict.specs.Restoring.{IsClaimedFrom, RestoresClaims}
use Rattle.cb_evict.proofs.AbortSound.{given_up_state, untaken_state, not_aborted, aborts}
use Rattle.cb_evict.proofs.Noted.{claimed_all, noted_apart, nodes_there}
use Rattle.cb_evict.proofs.aborting.abort.Goals as goal

pub returns-in_default-clause-abort : goal.returns-in_default-clause-abort
returns-in_default-clause-abort g c =
    let none : c.args.far.now.leaving ≡ None =
    sym (ap (λ (f : FarState). f.leaving) c.far.view_is) ∙ sym c.take.ensures.value ∙ c.in_default.is in
    not_aborted (λ es. g.D.Desk.run c.args.desk.now es c.args.desk.now)
    (λ s. g.D.Desk.shows c.args.desk.now s) c.args.far.now _ (g.met.D.Desk.none _) none
    (untaken_state _ c.args.far.now c.take.new.self c.far.view_is none c.take.ensures.after)

pub restore-requires-clause-handles : goal.restore-requires-clause-handles
restore-requires-clause-handles g c =
    let had = c.requires.sound in let s = had.0 in
    let there : c.args.far.now.leaving ≡ Some c.in-Some.batch =
    sym (ap (λ (f : FarState). f.leaving) c.far.view_is) ∙ sym c.in-Some.ensures.value in
    let words = c.deref.ensures.value ∙ ap (λ (b : LeavingState). b.words) c.batch.view_is in
    let sized = g.met.D.Desk.sized _ s had.1 in
    let claimed = claimed_all s c.args.far.now c.in-Some.batch had.2 there (sized.1 ∙ sym sized.0) in
    subst (λ (l : List Former). All (λ f. f.handle < (g.D.Desk.settings c.args.desk.now).handles) l)
    (sym words) (λ k d l. let x = (claimed k d l).handle in omega (arith, x, sized.0))

pub restore-requires-clause-apart : goal.restore-requires-clause-apart
restore-requires-clause-apart g c =
    let had = c.requires.sound in let s = had.0 in
    let there : c.args.far.now.leaving ≡ Some c.in-Some.batch =
    sym (ap (λ (f : FarState). f.leaving) c.far.view_is) ∙ sym c.in-Some.ensures.value in
    let words = c.deref.ensures.value ∙ ap (λ (b : LeavingState). b.words) c.batch.view_is in
    subst (λ (l : List Former). AreApart l) (sym words)
    (noted_apart s c.args.far.now c.in-Some.batch had.2 there)

pub restore-requires-clause-claimed : goal.restore-requires-clause-claimed
restore-requires-clause-claimed g c =
    let had = c.requires.sound in let s = had.0 in
    let there : c.args.far.now.leaving ≡ Some c.in-Some.batch =
    sym (ap (λ (f : FarState). f.leaving) c.far.view_is) ∙ sym c.in-Some.ensures.value in
    let words = c.deref.ensures.value ∙ ap (λ (b : LeavingState). b.words) c.batch.view_is in
    let sized = g.met.D.Desk.sized _ s had.1 in (
      s,
      had.1,
      (
        c.args.far.now,
        had.2.here,
        subst (λ (l : List Former). All (IsClaimedFrom s) l) (sym words)
            (claimed_all s c.args.far.now c.in-Some.batch had.2 there (sized.1 ∙ sym sized.0)),
      ),
    )

pub forget-requires : goal.forget-requires
forget-requires g c =
    let had = c.requires.sound in
    let there : c.args.far.now.leaving ≡ Some c.in-Some.batch =
    sym (ap (λ (f : FarState). f.leaving) c.far.view_is) ∙ sym c.in-Some.ensures.value in
    record {
      there = subst (λ (f : FarState). AreThere f.nodes (put_shards c.in-Some.batch.shards))
          (sym c.far.view_is) (nodes_there had.0 c.args.far.now c.in-Some.batch had.2 there);
    }

pub returns-clause-abort : goal.returns-clause-abort
returns-clause-abort g c =
    let there : c.args.far.now.leaving ≡ Some c.in-Some.batch =
    sym (ap (λ (f : FarState). f.leaving) c.far.view_is) ∙ sym c.in-Some.ensures.value in
    let words = c.deref.ensures.value ∙ ap (λ (b : LeavingState). b.words) c.batch.view_is in
    aborts (λ es. g.D.Desk.run c.args.desk.now es c.restore.new.desk)
    (λ s. g.D.Desk.shows c.args.desk.now s) c.args.far.now c.forget.new.far c.in-Some.batch there
    (given_up_state _ c.args.far.now c.forget.new.far c.in-Some.batch c.take.new.self c.far.view_is
    c.take.ensures.after c.forget.ensures)
    (λ s shows. let sized = g.met.D.Desk.sized _ s shows in sized.1 ∙ sym sized.0)
    (subst (λ (l : List Former). RestoresClaims
    (λ es. g.D.Desk.run c.args.desk.now es c.restore.new.desk)
    (λ s. g.D.Desk.shows c.args.desk.now s) l) words c.restore.ensures)
