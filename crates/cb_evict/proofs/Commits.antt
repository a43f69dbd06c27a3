-- The commit of the batch that is leaving, and its refusals.
use Rattle.std.proofs.Common.{◌≡◌, ℕ, ◌≤◌, ◌==◌, true, false, List, [], ◌∷◌, length, Option, None, Some, sym, refl, ap, ◌∙◌, subst, arith, inl, inr}
use Rattle.std.specs.List.{slice_get}
use Rattle.std.specs.FinMap as map
use Rattle.std.proofs.lemmas.Bool.Decides.{nat_tests}
use Rattle.std.proofs.lemmas.Option.{slice_get_within, get_or_from_slice_get}
use Rattle.cb_member.specs.declared.names.Shard.{Shard}
use Rattle.cb_set.specs.Lost.{is_lost}
use Rattle.cb_types.specs.declared.handle.SetId.{SetId}
use Rattle.cb_types.specs.declared.reply.Reply.TheVariants as answer
use Rattle.cb_world.specs.declared.access.Access.{Access}
use Rattle.cb_world.specs.declared.shown.Shown.{Shown}
use Rattle.cb_world.specs.FarState.{FarState}
use Rattle.cb_world.specs.Leaving.{LeavingState}
use Rattle.cb_world.specs.Now.{now}
use Rattle.cb_world.specs.Performs.{Performs}
use Rattle.cb_world.specs.Played.{played}
use Rattle.cb_world.specs.Reserved.{IsReserved, put_shards, set_from}
use Rattle.cb_world.specs.Sets.{Kept}
use Rattle.cb_world.specs.Sound.{Sound}
use Rattle.cb_evict.specs.AbortRule.{IsOfBatch}
use Rattle.cb_evict.specs.Claiming.{IsOne}
use Rattle.cb_evict.specs.Closing.{HaveHomes, with_homes}
use Rattle.cb_evict.specs.CommitRule.{CommitRule, CommitEffect, IsBatchCommitted, with_committed}
use Rattle.cb_evict.specs.Committing.{AreAllPut, with_shards}
use Rattle.cb_evict.specs.Sending.{IsSending, Sends}
use Rattle.cb_evict.specs.Waiting.{waiting}
use Rattle.cb_evict.proofs.CommitSound.{BatchDone, sound_committed, now_committed}
use Rattle.cb_evict.proofs.BatchReady.{told_all}
use Rattle.cb_evict.proofs.Events.{touches_more}
use Rattle.cb_evict.proofs.WhichWait.{all_stand}
use Rattle.cb_evict.proofs.Options.{some_same}
use Rattle.cb_evict.proofs.Still.{does_nothing, still_none}

-- ---- the refusals
pub no_batch_set : (id : SetId) → answer.NoBatch ≡ answer.Set id → ⊥
no_batch_set id e = cc

pub short_set : (positions : List ℕ) (id : SetId) → answer.Short positions ≡ answer.Set id → ⊥
short_set positions id e = cc

pub not_committed : (runs : List Access → Type 0) (shows : Shown → Type 0) (far new : FarState)
    → runs [] → far.leaving ≡ None → new ≡ far
    → Performs runs (λ s. shows s × Sound s far) (CommitRule far new answer.NoBatch)
    (λ t. Sound t new) (CommitEffect far new answer.NoBatch)
not_committed runs shows far new ran none state =
    does_nothing runs shows far new (CommitRule far new answer.NoBatch) (CommitEffect far new answer.NoBatch)
    ran state
    (record { answered = inl (record { none = none; reply = refl; state = state }); touches = tt })
    (λ s. record {
      committed = λ b id there e. absurd (no_batch_set id e);
      left = λ e. still_none s;
    })

pub short_of_rows : (runs : List Access → Type 0) (shows : Shown → Type 0) (far new : FarState)
    (batch : LeavingState) (positions : List ℕ) → runs [] → far.leaving ≡ Some batch
    → positions ≡ waiting far.members batch.shards → 1 ≤ length positions → new ≡ far
    → Performs runs (λ s. shows s × Sound s far) (CommitRule far new (answer.Short positions))
    (λ t. Sound t new) (CommitEffect far new (answer.Short positions))
short_of_rows runs shows far new batch positions ran there same some state =
    does_nothing runs shows far new (CommitRule far new (answer.Short positions))
    (CommitEffect far new (answer.Short positions)) ran state
    (record {
      answered = inr (inl (record {
        batch = batch;
        there = there;
        some = subst (λ (l : List ℕ). 1 ≤ length l) same some;
        reply = ap (λ (l : List ℕ). answer.Short l) same;
        state = state;
      }));
      touches = tt;
    })
    (λ s. record {
      committed = λ b id at e. absurd (short_set positions id e);
      left = λ e. still_none s;
    })

-- ---- whether a position waits
pub some_items : (xs : List ℕ) → (length xs == 0) ≡ false → 1 ≤ length xs
some_items xs e = grind (arith, nat_tests)

pub no_items : (xs : List ℕ) → (length xs == 0) ≡ true → xs ≡ []
no_items [] e = refl
no_items (x ∷ xs) e = absurd (let n : length (x ∷ xs) ≡ 0 = grind (arith, nat_tests) in omega (arith, n))

-- ---- the commit
-- the far state in which it ends
pub committed_state : (inside far new : FarState) (batch : LeavingState) (o : Option LeavingState)
    → inside ≡ far → o ≡ None → IsReserved far batch
    → ((kept : Kept) → map.get inside.sets batch.set ≡ Some kept → new
    ≡ with_homes (record inside {
      sets = map.insert inside.sets batch.set
          (record (with_shards kept (put_shards batch.shards)) { committed = true });
      leaving = o;
    }) batch.frames new.homes)
    → new ≡ with_homes (with_committed far batch) batch.frames new.homes
committed_state inside far new batch o same none reserved is =
    let set = set_from batch.set batch.pages (put_shards batch.shards) far.spans batch.frames in
    let kept : Kept = record { set = set; committed = true } in
    is (record {
      set = set_from batch.set batch.pages reserved.blank far.spans batch.frames;
      committed = false;
    })
    (ap (λ (f : FarState). map.get f.sets batch.set) same ∙ reserved.kept)
    ∙ ap (λ (q : Option LeavingState). with_homes (record inside {
      sets = map.insert inside.sets batch.set kept;
      leaving = q;
    }) batch.frames new.homes) none
    ∙ ap (λ (f : FarState). with_homes (record f {
      sets = map.insert f.sets batch.set kept;
      leaving = None;
    }) batch.frames new.homes) same

-- where no position waits, a row was put for each and stands
pub all_put : (far : FarState) (batch : LeavingState) → waiting far.members batch.shards ≡ []
    → AreAllPut batch.shards
all_put far batch whole p within =
    let x = all_stand far.members batch.shards whole p within in
    (x.0, get_or_from_slice_get batch.shards p (Some x.0) None x.1)

shard_same : (a b : Shard) → Some (Some a) ≡ Some (Some b) → a ≡ b
shard_same a b e = cc

all_up : (far : FarState) (batch : LeavingState) → waiting far.members batch.shards ≡ []
    → (p : ℕ) (shard : Shard) → slice_get batch.shards p ≡ Some (Some shard)
    → is_lost far.members shard ≡ false
all_up far batch whole p shard at =
    let x = all_stand far.members batch.shards whole p
    (slice_get_within batch.shards p (Some shard) at) in
    ap (is_lost far.members) (sym (shard_same x.0 shard (sym x.1 ∙ at))) ∙ x.2

pub commits : (runs : List Access → Type 0) (shows : Shown → Type 0) (far new : FarState)
    (batch : LeavingState) (id : ℕ) → id ≡ batch.set → far.leaving ≡ Some batch
    → waiting far.members batch.shards ≡ []
    → new ≡ with_homes (with_committed far batch) batch.frames new.homes
    → HaveHomes far.spans batch.frames batch.set far.homes new.homes
    → ((s : Shown) → shows s → length s.hots ≡ length s.objects)
    → Sends runs shows batch.words
    → Performs runs (λ s. shows s × Sound s far)
    (CommitRule far new (answer.Set (record { n = id })))
    (λ t. Sound t new) (CommitEffect far new (answer.Set (record { n = id })))
commits runs shows far new batch id same there whole state homes warm r = record {
  events = r.events;
  ran = r.ran;
  looks_first = r.first;
  rule = record {
    answered = inr (inr (record {
      batch = batch;
      there = there;
      whole = whole;
      reply = ap (λ (n : ℕ). answer.Set (record { n = n })) same;
      homes = homes;
      state = state;
    }));
    touches = touches_more (IsOne batch.words) (IsOfBatch far) (λ p. ⊥) (λ p. ⊥) r.events
        (λ h one. (batch, there, one)) (λ p x. x) r.touches;
  };
  allowed = λ s k. (sending s k).allowed;
  sound_after = λ s k. subst (λ (f : FarState). Sound (played r.events s) f) (sym state)
      (sound_committed s (played r.events s) far batch new.homes (done s k));
  effect = λ s k. record {
    committed = λ b n at e.
        subst (λ (c : LeavingState). IsBatchCommitted far new c r.events s (played r.events s))
        (some_same batch b (sym there ∙ at)) (record {
          sent = (done s k).sent;
          nothing = (sending s k).nothing;
          same_now = λ h. subst (λ (f : FarState). now (played r.events s) f h ≡ now s far h) (sym state)
              (now_committed s (played r.events s) far batch new.homes (done s k) h);
        });
    left = λ not. absurd (not (record { n = id }) refl);
  };
}
  where
    sending : (s : Shown) → shows s × Sound s far → IsSending r.events s batch.words
    sending s k = r.done.1 s k.0 (told_all s far batch k.1 there (warm s k.0))

    done : (s : Shown) → shows s × Sound s far → BatchDone s (played r.events s) far batch new.homes
    done s k = record {
      sound = k.1;
      there = there;
      all = all_put far batch whole;
      up = all_up far batch whole;
      sent = (sending s k).sent;
      homed = homes;
    }
