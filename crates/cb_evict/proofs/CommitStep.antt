-- Over a still desk a commit is a step.
use Rattle.std.proofs.Common.{◌≡◌, ◌⊎◌, ℕ, ◌+◌, ◌*◌, ◌<◌, List, length, get_or, All, Some, sym, ap, ◌∙◌, subst, arith, inl, inr}
use Rattle.cb_ptr.specs.Steps.{IsFarWord}
use Rattle.cb_ptr.specs.Word.{len_of}
use Rattle.cb_ptr.proofs.Laws.{far_word_is, len_of-below}
use Rattle.cb_types.specs.declared.reply.Reply.{Reply}
use Rattle.cb_world.specs.declared.leaving.Former.{Former}
use Rattle.cb_world.specs.declared.object.Object.{Object}
use Rattle.cb_world.specs.declared.object.Object.TheVariants as is
use Rattle.cb_world.specs.declared.access.Access.{Access}
use Rattle.cb_world.specs.declared.shown.Shown.{Shown}
use Rattle.cb_world.specs.Shown.{Fits}
use Rattle.cb_world.specs.FarState.{FarState}
use Rattle.cb_world.specs.Leaving.{LeavingState}
use Rattle.cb_world.specs.Plain.{Words, Shows}
use Rattle.cb_world.specs.Played.{played}
use Rattle.cb_world.specs.World.{word_at, IsKnown}
use Rattle.cb_world.proofs.Laws.{IsStepKnown, PerformsStill, RunsStill, runs_still, known_then}
use Rattle.cb_evict.specs.AbortRule.{HasNoBatch}
use Rattle.cb_evict.specs.CommitRule.{HasShort, HasCommitted, CommitRule, CommitEffect}
use Rattle.cb_evict.specs.CommitStep.{ArePutAway, IsCommitStep, no_batch, short, committed}
use Rattle.cb_evict.specs.Restoring.{IsClaimedFrom}
use Rattle.cb_evict.specs.Sending.{IsSent, AreSent}
use Rattle.cb_evict.proofs.Commits.{no_batch_set, short_set}
use Rattle.cb_evict.proofs.ChangedWords.{changes_words, same_count, shows_then}
use Rattle.cb_evict.proofs.EvictStep.{refused}
use Rattle.cb_evict.proofs.Noted.{claimed_all}

put_away : (x y : Words) (far : FarState) (s : Shown) (es : List Access) (batch : LeavingState)
    → RunsStill x y far s es → far.leaving ≡ Some batch
    → AreSent s (played es s) batch.words → ArePutAway x y batch.words
put_away x y far s es batch r there z =
    changes_words x y far s es r _ _ (record {
      objects = z.objects;
      others = z.others;
      hots = z.hots;
      versions = z.versions;
      memory = z.memory;
    }) (λ i d within. away (get_or batch.words i d) (claimed i d within) (z.changed i d within))
  where
    shows : Shows y (played es s)
    shows = shows_then x y far s es r

    count : length y.words ≡ length x.words
    count = same_count x y far s es r z.objects

    claimed : All (IsClaimedFrom s) batch.words
    claimed = claimed_all s far batch r.known.sound there
        (r.known.shows.hots ∙ sym r.known.shows.objects)

    away : (f : Former) → IsClaimedFrom s f → IsSent s (played es s) f
        → IsFarWord (len_of f.word) (word_at y f.handle)
    away f c a =
        let h = f.handle in
        let still : h < length y.words =
        let l = c.handle in omega (arith, l, r.known.shows.objects, count) in
        let fit : Fits (is.Far (len_of f.word) a.version a.words) (word_at y h) =
        subst (λ (o : Object). Fits o (word_at y h)) a.after (shows.fit h still) in
        far_word_is (len_of f.word) (word_at y h) (len_of-below f.word)
        (fit.0 ∙ ap (λ (n : ℕ). 1 + n * 8192) fit.1)

by_rule : (x y : Words) (far new : FarState) (r : Reply) (s : Shown) (es : List Access)
    → RunsStill x y far s es → IsKnown y new (played es s)
    → CommitEffect far new r es s (played es s)
    → HasNoBatch far new r ⊎ (HasShort far new r ⊎ HasCommitted far new r)
    → IsCommitStep x y far new r × IsStepKnown y far new s
by_rule x y far new r s es runs l effect (inl a) =
    refused x y far new s es runs l (effect.left (λ id e. no_batch_set id (sym a.reply ∙ e)))
    a.state
    (no_batch a)
by_rule x y far new r s es runs l effect (inr (inl a)) =
    refused x y far new s es runs l (effect.left (λ id e. short_set _ id (sym a.reply ∙ e))) a.state
    (short a)
by_rule x y far new r s es runs l effect (inr (inr a)) =
    let z = effect.committed a.batch (record { n = a.batch.set }) a.there a.reply in (
      committed a (put_away x y far s es a.batch runs a.there z.sent),
      record { shown = played es s; known = l; same_now = z.same_now },
    )

-- Over a still desk of which all is known a commit is a step, all is known of it afterwards, and what
-- each object holds stays.
pub commit_step : (x y : Words) (far new : FarState) (r : Reply) (s : Shown)
    → PerformsStill x y far new (CommitRule far new r) (CommitEffect far new r) → IsKnown x far s
    → IsCommitStep x y far new r × IsStepKnown y far new s
commit_step x y far new r s p k =
    let rules = CommitRule far new r in let does = CommitEffect far new r in
    by_rule x y far new r s p.events (runs_still x y far new rules does s k p)
    (known_then x y far new rules does s k p) (p.effect s ((k.sized, k.shows), k.sound))
    p.rule.answered
