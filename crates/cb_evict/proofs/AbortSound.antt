-- The sound world once its leaving batch is given up.
use Rattle.std.proofs.Common.{◌≡◌, ℕ, List, [], length, get_or, Option, Some, None, sym, refl, ap, ◌∙◌, subst, inl, inr}
use Rattle.std.proofs.lemmas.List.Elements.{All-contains}
use Rattle.cb_ptr.specs.Word.{len_of, place_of}
use Rattle.cb_types.specs.declared.reply.Reply.TheVariants as answer
use Rattle.cb_world.specs.declared.access.Access.{Access}
use Rattle.cb_world.specs.declared.object.Object.{Object}
use Rattle.cb_world.specs.declared.object.Object.TheVariants as is
use Rattle.cb_world.specs.declared.shown.Shown.{Shown}
use Rattle.cb_world.specs.Shown.{object_at, version_at}
use Rattle.cb_world.specs.FarState.{FarState}
use Rattle.cb_world.specs.Leaving.{LeavingState}
use Rattle.cb_world.specs.LocalSound.{LocalSound, IsStamped}
use Rattle.cb_world.specs.Memory.{window, words_for, bytes_in}
use Rattle.cb_world.specs.Performs.{Performs}
use Rattle.cb_world.specs.Played.{played}
use Rattle.cb_world.specs.Now.{held, is_gone, now_as, now}
use Rattle.cb_world.specs.Reserved.{without_batch}
use Rattle.cb_world.specs.Sound.{IsNoted, Sound}
use Rattle.cb_world.proofs.Laws.{now_kept}
use Rattle.cb_evict.specs.AbortRule.{AbortRule, AbortEffect, IsAborted, IsOfBatch}
use Rattle.cb_evict.specs.Claiming.{IsOne}
use Rattle.cb_evict.specs.Looking.{IsIn}
use Rattle.cb_evict.specs.Restoring.{AreRestored, IsHereAt, IsRestoring, RestoresClaims}
use Rattle.cb_evict.proofs.Events.{touches_more}
use Rattle.cb_evict.proofs.Group.{IsGroup, IsNotFarBoth, claimed_not_far, either, here_beside, here_not_far, leaving_group, now_without, quiet_away}
use Rattle.cb_evict.proofs.Noted.{claimed_all}
use Rattle.cb_evict.proofs.Options.{none_some, some_same}
use Rattle.cb_evict.proofs.Still.{does_nothing, still_none}

-- in a sound world the objects of the leaving batch are here again
module _ (s t : Shown) (far : FarState) (batch : LeavingState) (sound : Sound s far)
    (there : far.leaving ≡ Some batch) (r : AreRestored s t batch.words) where
  group : IsGroup s (without_batch far batch) batch
  group = leaving_group s far batch sound there

  here_one : (h : ℕ) (n : IsNoted s batch h)
      → object_at t h ≡ is.Here (len_of n.former.word) (place_of n.former.word)
  here_one h n = ap (object_at t) (sym n.handle)
      ∙ (All-contains (IsHereAt t) batch.words n.former r.changed n.noted).object

  here_not_claimed : (m p len place v : ℕ) (words : List ℕ)
      → is.Here m p ≡ is.Claimed len place v words → ⊥
  here_not_claimed m p len place v words e = cc

  all_quiet : (h : ℕ) → IsNotFarBoth s t h
  all_quiet h = elim (either s (without_batch far batch) batch group h) [
    | inl x ↦ let n = group.each h x in inr (
      claimed_not_far (object_at s h) _ _ n.version n.words n.claimed,
      here_not_far (object_at t h) _ _ (here_one h n),
    )
    | inr none ↦ inl (r.others h none)
  ]

  -- the world is sound then
  pub sound_restored : LocalSound t far → Sound t (without_batch far batch)
  sound_restored here = record {
    here = here_beside t far _ _ None far.counts here;
    noted = λ b at. absurd (none_some b at);
    claimed = λ h len place v words e. elim (either s (without_batch far batch) batch group h) [
      | inl x ↦ absurd (here_not_claimed _ _ len place v words
          (sym (here_one h (group.each h x)) ∙ e))
      | inr none ↦ let y = group.others h len place v words none (sym (r.others h none) ∙ e) in
          absurd (none_some y.batch y.there)
    ];
    away = quiet_away s t (without_batch far batch) all_quiet (λ b e. absurd (none_some b e))
        group.away;
  }

  restored_now : (h : ℕ) → IsIn far.spans batch.frames h
      → now t (without_batch far batch) h ≡ now s (without_batch far batch) h
  restored_now h x =
      let n = group.each h x in let len = len_of n.former.word in let place =
      place_of n.former.word in
      let version : version_at t h ≡ n.version = ap (λ (l : List ℕ). get_or l h 0) r.versions
      ∙ subst (λ (o : Object). IsStamped o (version_at s h)) n.claimed (sound.here.known.stamped h)
      in
      let words : window t.memory place (words_for len) ≡ n.words =
      ap (λ (ms : List ℕ). window ms place (words_for len)) r.memory
      ∙ sym (group.contents h len place n.version n.words x n.claimed) in
      ap (now_as t h (is_gone (without_batch far batch) h)) (here_one h n)
      ∙ (λ i. held (version i) (bytes_in (words i) len))
      ∙ sym (ap (now_as s h (is_gone (without_batch far batch) h)) n.claimed)

  -- and the last complete contents of each object stay
  pub now_restored : (h : ℕ) → now t (without_batch far batch) h ≡ now s far h
  now_restored h = elim (either s (without_batch far batch) batch group h) [
    | inl x ↦ restored_now h x
    | inr none ↦ now_kept s t (without_batch far batch) (without_batch far batch) h
        (r.others h none)
        (ap (λ (l : List ℕ). get_or l h 0) r.versions)
        (λ len place at. ap (λ (ms : List ℕ). window ms place (words_for len)) r.memory) refl
  ] ∙ now_without s far batch (sound.noted batch there).reserved h

-- ---- the call
-- the far state in which it ends
pub given_up_state : (inside far new : FarState) (batch : LeavingState) (o : Option LeavingState)
    → inside ≡ far → o ≡ None
    → new ≡ record (without_batch inside batch) { leaving = o } → new ≡ without_batch far batch
given_up_state inside far new batch o same none is =
    is ∙ ap (λ (q : Option LeavingState). record (without_batch inside batch) { leaving = q }) none
    ∙ ap (λ (f : FarState). without_batch f batch) same

-- where none is leaving it is left
pub untaken_state : (inside far : FarState) (o : Option LeavingState) → inside ≡ far
    → far.leaving ≡ None → o ≡ None → record inside { leaving = o } ≡ far
untaken_state inside far o same none gone =
    ap (λ (q : Option LeavingState). record inside { leaving = q })
    (gone ∙ sym (ap (λ (f : FarState). f.leaving) same ∙ none)) ∙ same

pub not_aborted : (runs : List Access → Type 0) (shows : Shown → Type 0) (far new : FarState)
    → runs [] → far.leaving ≡ None → new ≡ far
    → Performs runs (λ s. shows s × Sound s far) (AbortRule far new answer.NoBatch)
    (λ t. Sound t new) (AbortEffect far new)
not_aborted runs shows far new ran none state =
    does_nothing runs shows far new (AbortRule far new answer.NoBatch) (AbortEffect far new) ran
    state
    (record { answered = inl (record { none = none; reply = refl; state = state }); touches = tt })
    (λ s. record {
      aborted = λ b there. absurd (none_some b (sym none ∙ there));
      left = λ e. still_none s;
    })

-- the batch is given up
pub aborts : (runs : List Access → Type 0) (shows : Shown → Type 0) (far new : FarState)
    (batch : LeavingState) → far.leaving ≡ Some batch → new ≡ without_batch far batch
    → ((s : Shown) → shows s → length s.hots ≡ length s.objects)
    → RestoresClaims runs shows batch.words
    → Performs runs (λ s. shows s × Sound s far) (AbortRule far new answer.Done)
    (λ t. Sound t new) (AbortEffect far new)
aborts runs shows far new batch there state warm r = record {
  events = r.events;
  ran = r.ran;
  looks_first = r.first;
  rule = record {
    answered = inr (record { batch = batch; there = there; reply = refl; state = state });
    touches = touches_more (IsOne batch.words) (IsOfBatch far) (λ p. ⊥) (λ p. ⊥) r.events
        (λ h one. (batch, there, one)) (λ p x. x) r.touches;
  };
  allowed = λ s k. (restoring s k).allowed;
  sound_after = λ s k. subst (λ (f : FarState). Sound (played r.events s) f) (sym state)
      (sound_restored s (played r.events s) far batch k.1 there (restoring s k).restored
      (restoring s k).sound);
  effect = λ s k. record {
    aborted = λ b at.
        let z : IsAborted far (without_batch far batch) batch r.events s (played r.events s) =
        record {
          back = (restoring s k).restored;
          nothing = (restoring s k).nothing;
          same_now = now_restored s (played r.events s) far batch k.1 there
              (restoring s k).restored;
        } in
        subst (λ (c : LeavingState). IsAborted far new c r.events s (played r.events s))
        (some_same batch b (sym there ∙ at))
        (subst (λ (f : FarState). IsAborted far f batch r.events s (played r.events s))
        (sym state) z);
    left = λ none. absurd (none_some batch (sym none ∙ there));
  };
}
  where
    restoring : (s : Shown) → shows s × Sound s far → IsRestoring far r.events s batch.words
    restoring s k = r.done.1 s far k.0 k.1.here (claimed_all s far batch k.1 there (warm s k.0))
