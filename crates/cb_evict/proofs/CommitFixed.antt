-- A commit is fixed: one reply, one set of words and one far state.
use Rattle.std.proofs.Common.{◌≡◌, ℕ, ◌≤◌, List, [], length, Some, sym, ap, ◌∙◌, subst, arith, inl, inr}
use Rattle.cb_types.specs.declared.reply.Reply.{Reply}
use Rattle.cb_types.specs.declared.reply.Reply.TheVariants as answer
use Rattle.cb_world.specs.declared.leaving.Former.{Former}
use Rattle.cb_world.specs.FarState.{FarState}
use Rattle.cb_world.specs.Leaving.{LeavingState}
use Rattle.cb_world.specs.Plain.{Words}
use Rattle.cb_world.specs.World.{word_at}
use Rattle.cb_world.proofs.Laws.{IsOneEnd, refused_alike, some_same}
use Rattle.cb_evict.specs.Closing.{HaveHomes, with_homes}
use Rattle.cb_evict.specs.CommitRule.{with_committed}
use Rattle.cb_evict.specs.CommitStep.{ArePutAway, IsCommitStep, no_batch, short, committed}
use Rattle.cb_evict.specs.Waiting.{waiting}
use Rattle.cb_evict.proofs.ChangedWords.{changes_fixed}
use Rattle.cb_evict.proofs.Claims.{among, no_former}
use Rattle.cb_evict.proofs.BeginFixed.{leaving_or_not}
use Rattle.cb_evict.proofs.EvictFixed.{homes_fixed}

away_fixed : (x y z : Words) (formers : List Former) → ArePutAway x y formers
    → ArePutAway x z formers → y ≡ z
away_fixed x y z formers a b =
    changes_fixed x y z _ _ _ a b (λ h. elim (among formers h) [
      | inl (k, l, e) ↦ inr (ap (word_at y) (sym (e no_former)) ∙ (a.changed k no_former l).number
          ∙ sym (b.changed k no_former l).number ∙ ap (word_at z) (e no_former))
      | inr none ↦ inl none
    ])

short_or_whole : (far : FarState) (s t : LeavingState) → far.leaving ≡ Some s
    → far.leaving ≡ Some t → 1 ≤ length (waiting far.members s.shards)
    → waiting far.members t.shards ≡ [] → ⊥
short_or_whole far s t a b some none =
    let same : s ≡ t = some_same s t (sym a ∙ b) in
    let n = ap (λ (batch : LeavingState). length (waiting far.members batch.shards)) same
    ∙ ap (λ (l : List ℕ). length l) none in
    omega (arith, some, n)

pub commit_step_fixes : (x y z : Words) (far new other : FarState) (r q : Reply)
    → IsCommitStep x y far new r → IsCommitStep x z far other q → IsOneEnd r q y z new other
commit_step_fixes x y z far new other r q (no_batch a e) (no_batch b f) =
    refused_alike r q answer.NoBatch x y z far new other a.reply b.reply e f a.state b.state
commit_step_fixes x y z far new other r q (no_batch a e) (short b f) =
    absurd (leaving_or_not far b.batch b.there a.none)
commit_step_fixes x y z far new other r q (no_batch a e) (committed b f) =
    absurd (leaving_or_not far b.batch b.there a.none)
commit_step_fixes x y z far new other r q (short a e) (no_batch b f) =
    absurd (leaving_or_not far a.batch a.there b.none)
commit_step_fixes x y z far new other r q (committed a e) (no_batch b f) =
    absurd (leaving_or_not far a.batch a.there b.none)
commit_step_fixes x y z far new other r q (short a e) (short b f) =
    let same : a.batch ≡ b.batch = some_same a.batch b.batch (sym a.there ∙ b.there) in
    refused_alike r q (answer.Short (waiting far.members b.batch.shards)) x y z far new other
    (a.reply ∙ ap (λ (batch : LeavingState). answer.Short (waiting far.members batch.shards)) same)
    b.reply e f a.state b.state
commit_step_fixes x y z far new other r q (short a e) (committed b f) =
    absurd (short_or_whole far a.batch b.batch a.there b.there a.some b.whole)
commit_step_fixes x y z far new other r q (committed a e) (short b f) =
    absurd (short_or_whole far b.batch a.batch b.there a.there b.some a.whole)
commit_step_fixes x y z far new other r q (committed a e) (committed b f) =
    let same : a.batch ≡ b.batch = some_same a.batch b.batch (sym a.there ∙ b.there) in
    let homes = homes_fixed far b.batch.frames b.batch.set new.homes other.homes
    (subst (λ (batch : LeavingState). HaveHomes far.spans batch.frames batch.set far.homes new.homes)
    same a.homes) b.homes in
    record {
      reply = a.reply
          ∙ ap (λ (batch : LeavingState). answer.Set (record { n = batch.set })) same ∙ sym b.reply;
      words = away_fixed x y z b.batch.words
          (subst (λ (batch : LeavingState). ArePutAway x y batch.words) same e) f;
      far = a.state
          ∙ (λ i. with_homes (with_committed far (same i)) (same i).frames (homes i)) ∙ sym b.state;
    }
