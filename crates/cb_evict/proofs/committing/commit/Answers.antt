use Rattle.std.proofs.Common.{◌≡◌, ℕ, ◌<◌, ◌≤◌, All, List, length, Some, sym, refl, ap, ◌∙◌, subst, arith}
use Rattle.cb_span.specs.Contents.{Contents}
use Rattle.cb_world.specs.declared.leaving.Former.{Former}
use Rattle.cb_world.specs.FarState.{FarState, span_in}
use Rattle.cb_world.specs.LocalSound.{AreFrames}
use Rattle.cb_world.proofs.Laws.{frames_as}
use Rattle.cb_world.specs.Leaving.{LeavingState}
use Rattle.cb_evict.specs.Candidates.{AreUnique}
use Rattle.cb_evict.specs.Claims.{AreApart}
use Rattle.cb_evict.specs.Closing.{HaveHomes}
use Rattle.cb_evict.specs.Committing.{HasPlaces}
use Rattle.cb_evict.specs.Sending.{IsFormerTold, Sends}
use Rattle.cb_evict.specs.Waiting.{waiting}
use Rattle.cb_evict.proofs.BatchReady.{put_at_members, few_shards, has_places, frames_held, frames_apart, few_frames, spans_unique, told_all}
use Rattle.cb_evict.proofs.Commits.{not_committed, short_of_rows, some_items, no_items, committed_state, all_put, commits}
use Rattle.cb_evict.proofs.Noted.{claimed_all, noted_apart}
use Rattle.cb_evict.proofs.committing.commit.Goals as goal
use Rattle.cb_evict.proofs.Options.{some_same}

pub waiting_in-requires : goal.waiting_in-requires
waiting_in-requires g c = let had = c.requires.sound in record {
  put = λ batch there. (
    put_at_members had.0 c.args.far.now batch had.2 there,
    few_shards had.0 c.args.far.now batch had.2 there,
  );
}

pub returns-in_default-clause-commit : goal.returns-in_default-clause-commit
returns-in_default-clause-commit g c =
    not_committed (λ es. g.D.Desk.run c.args.desk.now es c.args.desk.now)
    (λ s. g.D.Desk.shows c.args.desk.now s) c.args.far.now _ (g.met.D.Desk.none _)
    c.in_default.ensures.none refl

pub returns-then-not-is_empty-clause-commit : goal.returns-then-not-is_empty-clause-commit
returns-then-not-is_empty-clause-commit g c =
    let found = c.in-Some.ensures.found in
    short_of_rows (λ es. g.D.Desk.run c.args.desk.now es c.args.desk.now)
    (λ s. g.D.Desk.shows c.args.desk.now s) c.args.far.now _ found.0 c.in-Some.positions
    (g.met.D.Desk.none _) found.1 found.2
    (subst (λ (l : List ℕ). 1 ≤ length l) c.as_slice.ensures.items
    (some_items c.as_slice.result.now (sym c.is_empty.ensures ∙ c.if-not-is_empty.true))) refl

pub send-requires-clause-handles : goal.send-requires-clause-handles
send-requires-clause-handles g c =
    let had = c.requires.sound in let s = had.0 in
    let there : c.args.far.now.leaving ≡ Some c.unwrap-batch.result =
    sym (ap (λ (f : FarState). f.leaving) c.far.view_is) ∙ sym c.take.ensures.value ∙ c.unwrap-batch.ensures in
    let words = c.deref.ensures.value ∙ ap (λ (b : LeavingState). b.words) c.batch.view_is in
    let sized = g.met.D.Desk.sized _ s had.1 in
    let claimed = claimed_all s c.args.far.now c.unwrap-batch.result had.2 there (sized.1 ∙ sym sized.0) in
    subst (λ (l : List Former). All (λ f. f.handle < (g.D.Desk.settings c.args.desk.now).handles) l)
    (sym words) (λ k d l. let x = (claimed k d l).handle in omega (arith, x, sized.0))

pub send-requires-clause-apart : goal.send-requires-clause-apart
send-requires-clause-apart g c =
    let had = c.requires.sound in
    let there : c.args.far.now.leaving ≡ Some c.unwrap-batch.result =
    sym (ap (λ (f : FarState). f.leaving) c.far.view_is) ∙ sym c.take.ensures.value ∙ c.unwrap-batch.ensures in
    let words = c.deref.ensures.value ∙ ap (λ (b : LeavingState). b.words) c.batch.view_is in
    subst (λ (l : List Former). AreApart l) (sym words)
    (noted_apart had.0 c.args.far.now c.unwrap-batch.result had.2 there)

pub send-requires-clause-told : goal.send-requires-clause-told
send-requires-clause-told g c =
    let had = c.requires.sound in let s = had.0 in
    let there : c.args.far.now.leaving ≡ Some c.unwrap-batch.result =
    sym (ap (λ (f : FarState). f.leaving) c.far.view_is) ∙ sym c.take.ensures.value ∙ c.unwrap-batch.ensures in
    let words = c.deref.ensures.value ∙ ap (λ (b : LeavingState). b.words) c.batch.view_is in
    let sized = g.met.D.Desk.sized _ s had.1 in (
      s,
      had.1,
      subst (λ (l : List Former). All (IsFormerTold s) l) (sym words)
          (told_all s c.args.far.now c.unwrap-batch.result had.2 there (sized.1 ∙ sym sized.0)),
    )

pub keep_batch-requires-clause-kept : goal.keep_batch-requires-clause-kept
keep_batch-requires-clause-kept g c =
    let had = c.requires.sound in
    let there : c.args.far.now.leaving ≡ Some c.unwrap-batch.result =
    sym (ap (λ (f : FarState). f.leaving) c.far.view_is) ∙ sym c.take.ensures.value ∙ c.unwrap-batch.ensures in
    subst (λ (f : FarState). HasPlaces f.sets c.unwrap-batch.result.set c.unwrap-batch.result.shards)
    (sym c.far.view_is) (has_places had.0 c.args.far.now c.unwrap-batch.result had.2 there)

pub keep_batch-requires-clause-whole : goal.keep_batch-requires-clause-whole
keep_batch-requires-clause-whole g c =
    let there : c.args.far.now.leaving ≡ Some c.unwrap-batch.result =
    sym (ap (λ (f : FarState). f.leaving) c.far.view_is) ∙ sym c.take.ensures.value ∙ c.unwrap-batch.ensures in
    let found = c.in-Some.ensures.found in
    let none = no_items c.as_slice.result.now (sym c.is_empty.ensures ∙ c.if-not-is_empty.false) in
    all_put c.args.far.now c.unwrap-batch.result
    (ap (λ (b : LeavingState). waiting c.args.far.now.members b.shards)
    (sym (some_same found.0 c.unwrap-batch.result (sym found.1 ∙ there)))
    ∙ sym found.2 ∙ sym c.as_slice.ensures.items ∙ none)

pub keep_batch-requires-clause-numbered : goal.keep_batch-requires-clause-numbered
keep_batch-requires-clause-numbered g c =
    let had = c.requires.sound in
    let there : c.args.far.now.leaving ≡ Some c.unwrap-batch.result =
    sym (ap (λ (f : FarState). f.leaving) c.far.view_is) ∙ sym c.take.ensures.value ∙ c.unwrap-batch.ensures in
    let few = few_shards had.0 c.args.far.now c.unwrap-batch.result had.2 there in omega (arith, few)

pub keep_batch-requires-clause-there : goal.keep_batch-requires-clause-there
keep_batch-requires-clause-there g c =
    let had = c.requires.sound in
    let there : c.args.far.now.leaving ≡ Some c.unwrap-batch.result =
    sym (ap (λ (f : FarState). f.leaving) c.far.view_is) ∙ sym c.take.ensures.value ∙ c.unwrap-batch.ensures in
    subst (λ (x : FarState). All (λ f. (span : Contents) × (span_in x.spans f ≡ Some span)) c.unwrap-batch.result.frames)
    (sym c.far.view_is) (frames_held had.0 c.args.far.now c.unwrap-batch.result had.2 there)

pub keep_batch-requires-clause-unique : goal.keep_batch-requires-clause-unique
keep_batch-requires-clause-unique g c =
    let had = c.requires.sound in
    let there : c.args.far.now.leaving ≡ Some c.unwrap-batch.result =
    sym (ap (λ (f : FarState). f.leaving) c.far.view_is) ∙ sym c.take.ensures.value ∙ c.unwrap-batch.ensures in
    let sized = g.met.D.Desk.sized _ had.0 had.1 in
    subst (λ (x : FarState). AreUnique x.spans (length x.homes)) (sym c.far.view_is)
    (spans_unique had.0 c.args.far.now c.unwrap-batch.result had.2 there (length c.args.far.now.homes)
    (sized.0 ∙ sym c.requires.configured.homes))

pub keep_batch-requires-clause-apart : goal.keep_batch-requires-clause-apart
keep_batch-requires-clause-apart g c =
    let had = c.requires.sound in
    let there : c.args.far.now.leaving ≡ Some c.unwrap-batch.result =
    sym (ap (λ (f : FarState). f.leaving) c.far.view_is) ∙ sym c.take.ensures.value ∙ c.unwrap-batch.ensures in
    frames_apart had.0 c.args.far.now c.unwrap-batch.result had.2 there

pub keep_batch-requires-clause-owned : goal.keep_batch-requires-clause-owned
keep_batch-requires-clause-owned g c =
    let owned = subst AreFrames (sym c.far.view_is) c.requires.sound.2.here.frames in
    frames_as _ _ refl refl owned

pub keep_batch-requires-clause-few : goal.keep_batch-requires-clause-few
keep_batch-requires-clause-few g c =
    let had = c.requires.sound in
    let there : c.args.far.now.leaving ≡ Some c.unwrap-batch.result =
    sym (ap (λ (f : FarState). f.leaving) c.far.view_is) ∙ sym c.take.ensures.value ∙ c.unwrap-batch.ensures in
    let few = few_frames had.0 c.args.far.now c.unwrap-batch.result had.2 there in omega (arith, few)

pub returns-clause-commit : goal.returns-clause-commit
returns-clause-commit g c =
    let had = c.requires.sound in
    let there : c.args.far.now.leaving ≡ Some c.unwrap-batch.result =
    sym (ap (λ (f : FarState). f.leaving) c.far.view_is) ∙ sym c.take.ensures.value ∙ c.unwrap-batch.ensures in
    let words = c.deref.ensures.value ∙ ap (λ (b : LeavingState). b.words) c.batch.view_is in
    let found = c.in-Some.ensures.found in
    let none = no_items c.as_slice.result.now (sym c.is_empty.ensures ∙ c.if-not-is_empty.false) in
    commits (λ es. g.D.Desk.run c.args.desk.now es c.send.new.desk)
    (λ s. g.D.Desk.shows c.args.desk.now s) c.args.far.now c.keep_batch.new.far c.unwrap-batch.result c.batch.inside.set
    (ap (λ (b : LeavingState). b.set) c.batch.view_is) there
    (ap (λ (b : LeavingState). waiting c.args.far.now.members b.shards)
    (sym (some_same found.0 c.unwrap-batch.result (sym found.1 ∙ there)))
    ∙ sym found.2 ∙ sym c.as_slice.ensures.items ∙ none)
    (committed_state _ c.args.far.now c.keep_batch.new.far c.unwrap-batch.result c.take.new.self
    c.far.view_is c.take.ensures.after (had.2.noted c.unwrap-batch.result there).reserved
    c.keep_batch.ensures.state)
    (subst (λ (x : FarState). HaveHomes x.spans c.unwrap-batch.result.frames c.unwrap-batch.result.set
    x.homes c.keep_batch.new.far.homes) c.far.view_is c.keep_batch.ensures.homes)
    (λ s shows. let sized = g.met.D.Desk.sized _ s shows in sized.1 ∙ sym sized.0)
    (subst (λ (l : List Former). Sends (λ es. g.D.Desk.run c.args.desk.now es c.send.new.desk)
    (λ s. g.D.Desk.shows c.args.desk.now s) l) words c.send.ensures)
