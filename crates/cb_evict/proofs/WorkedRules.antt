-- Worked examples of what the events of an eviction, of a begin and of the two ends of a batch may
-- be about, of what the ends write, and of the rows of a begin: what meets each definition, and for
-- each of its parts what breaks that part alone.
use Rattle.std.proofs.Common.{◌≡◌, ℕ, zero, suc, ◌+◌, ◌*◌, ◌<◌, true, false, List, [], ◌∷◌, ◌++◌, length, Option, Some, refl, sym, ap, ◌∙◌, subst, lit<, lit≤, arith, inl, inr}
use Rattle.std.proofs.lemmas.List.Elements.{All-nil, All-cons}
use Rattle.cb_class.specs.Class.{pages_of, words_of}
use Rattle.cb_gf256.specs.Rows.{row_at}
use Rattle.cb_gf256.proofs.PublicLaws.{agreeing_words_are_equal}
use Rattle.cb_member.specs.declared.names.Shard.{Shard}
use Rattle.cb_member.specs.Membership.{with_crash}
use Rattle.cb_ptr.specs.Word.{len_of}
use Rattle.cb_set.specs.SetState.{SetState}
use Rattle.cb_span.specs.declared.temp.Temp.TheVariants.{Cold}
use Rattle.cb_types.specs.declared.reply.Reply.{Reply}
use Rattle.cb_types.specs.declared.reply.Reply.TheVariants as answer
use Rattle.cb_world.specs.declared.entry.Entry.{Entry}
use Rattle.cb_world.specs.declared.access.Access.{Access}
use Rattle.cb_world.specs.declared.access.Access.TheVariants.{Looked, Claimed, Loaded, Stamped, Settled}
use Rattle.cb_world.specs.declared.leaving.Former.{Former}
use Rattle.cb_world.specs.declared.object.Object.TheVariants as is
use Rattle.cb_world.specs.declared.shown.Shown.{Shown}
use Rattle.cb_world.specs.Choices.{numbered}
use Rattle.cb_world.specs.FarState.{FarState, handle_in, pages_at, span_in}
use Rattle.cb_world.specs.Grasped.{IsFree}
use Rattle.cb_world.specs.Leaving.{LeavingState}
use Rattle.cb_world.specs.Looks.{IsFound, IsTaken}
use Rattle.cb_world.specs.Memory.{window, words_for}
use Rattle.cb_world.specs.Now.{broken_set, now, now_as}
use Rattle.cb_world.specs.Now.Now.{held, gone}
use Rattle.cb_world.specs.Reserved.{put_shards, set_from, without_batch}
use Rattle.cb_world.specs.FrameWords.{LiesInRun}
use Rattle.cb_world.specs.RowWords.{words_in}
use Rattle.cb_world.specs.SetWord.{IsSpanWord}
use Rattle.cb_world.specs.Shown.{object_at, hot_at}
use Rattle.cb_evict.specs.Lengths.{batch_pages, most_loose}
use Rattle.cb_evict.specs.AbortRule.{AbortRule, IsAborted, IsOfBatch}
use Rattle.cb_evict.specs.BeginRule.{HasBegun, HasLooked as Looks, new_batch}
use Rattle.cb_evict.specs.Claiming.{IsOne}
use Rattle.cb_evict.specs.Closing.{with_homes}
use Rattle.cb_evict.specs.CommitRule.{CommitRule, IsBatchCommitted, with_committed}
use Rattle.cb_evict.specs.EvictRule.{EvictRule, IsInRow}
use Rattle.cb_evict.specs.Loading.{LiesInOne}
use Rattle.cb_evict.specs.Looking.{IsIn}
use Rattle.cb_evict.specs.Sending.{AreSent, IsSent}
use Rattle.cb_evict.proofs.Loose.{held_alone}
use Rattle.cb_evict.proofs.NewSet.{set_added_in}
use Rattle.cb_evict.proofs.WorkedBegin.{former, second}
use Rattle.cb_evict.proofs.WorkedEnds.{are_restored, batch, both_put, claimed, hot, is_committed, is_given_up, leaving, none_of_one, noted, one_put, restored}
use Rattle.cb_evict.proofs.Options.{none_some, some_same}
use Rattle.cb_evict.proofs.SmallWorlds.{away, calm, far_with, first_object, heads, homes, is_word, one_page, only_first, only_object, only_second, pair, pinned, row, row_words, span_with}

-- a begin makes the parities
abbrev HasLooked : FarState → FarState → Reply → List Access → Type 0
HasLooked far new r es = Looks far new true (λ rows. Unit {0}) r es

-- ---- objects of the batch alone are settled by a commit and by an abort
of_batch : (shards : List (Option Shard)) → IsOfBatch (leaving shards) 0
of_batch shards =
    (batch shards, refl, (record { handle = 0; word = calm }, (0, lit< tt, refl), refl))

not_of_batch : (shards : List (Option Shard)) → IsOfBatch (leaving shards) 1 → ⊥
not_of_batch shards (b, there, one) =
    let e = some_same (batch shards) b there in
    by (subst (λ (x : LeavingState). IsOne x.words 1) (sym e) one)
  where
    by : IsOne noted 1 → ⊥
    by (f, (zero, less, same), handle) =
        let e : 0 ≡ f.handle = ap (λ (x : Former). x.handle) same in omega (arith, e, handle)
    by (f, (suc k, less, same), handle) = let l : suc k < 1 = less in omega (arith, l)

-- the far state once the batch is committed
abbrev committed : FarState
committed =
    with_homes (with_committed (leaving both_put) (batch both_put)) (0 ∷ []) homes

commits : CommitRule (leaving both_put) committed (answer.Set (record { n = 0 })) (Settled 0 away ∷ [])
commits = record { answered = inr (inr is_committed); touches = (of_batch both_put, tt) }

commits_another : ¬ (CommitRule (leaving both_put) committed (answer.Set (record { n = 0 }))
    (Settled 0 away ∷ Settled 1 away ∷ []))
commits_another x = not_of_batch both_put x.touches.1.0

commit_reads_memory : ¬ (CommitRule (leaving both_put) committed (answer.Set (record { n = 0 }))
    (Settled 0 away ∷ Loaded 0 0 ∷ []))
commit_reads_memory x = x.touches.1.0

aborts : AbortRule (leaving one_put) (without_batch (leaving one_put) (batch one_put)) answer.Done
    (Settled 0 calm ∷ [])
aborts = record { answered = inr is_given_up; touches = (of_batch one_put, tt) }

aborts_another : ¬ (AbortRule (leaving one_put) (without_batch (leaving one_put) (batch one_put))
    answer.Done (Settled 0 calm ∷ Settled 1 calm ∷ []))
aborts_another x = not_of_batch one_put x.touches.1.0

abort_reads_memory : ¬ (AbortRule (leaving one_put) (without_batch (leaving one_put) (batch one_put))
    answer.Done (Settled 0 calm ∷ Loaded 0 0 ∷ []))
abort_reads_memory x = x.touches.1.0

-- ---- no version is written by them
abbrev settled : LeavingState
settled = record (batch one_put) { words = hot ∷ [] }

now_back : (h : ℕ) → now restored (leaving one_put) h ≡ now claimed (leaving one_put) h
unfolding window
now_back zero = refl
now_back (suc zero) = refl
now_back (suc (suc h)) = refl

abort_effect : IsAborted (leaving one_put) (leaving one_put) settled (Settled 0 65542 ∷ []) claimed
    restored
unfolding window
abort_effect = record { back = are_restored; nothing = λ old. refl; same_now = now_back }

-- the object is settled at a version of its own
abbrev stamped : ℕ → List Access
stamped word = Stamped 0 4 ∷ Settled 0 word ∷ []

abort_writes : ¬ (IsAborted (leaving one_put) (leaving one_put) settled (stamped 65542) claimed
    restored)
abort_writes x =
    absurd (let e : 1 ≡ 0 = ap (λ (l : List Entry). length l) (x.nothing []) in omega (arith, e))

not_back : ¬ (IsAborted (leaving one_put) (leaving one_put) settled (Settled 0 65542 ∷ []) claimed
    (record restored { hots = false ∷ true ∷ [] }))
not_back x = absurd (let e : false ≡ true = (x.back.changed 0 hot (lit< tt)).hot in cc)

-- the objects of the batch are away after a commit
abbrev sent : Shown
sent = record claimed {
  objects = is.Far 8 3 (5 ∷ []) ∷ is.Here 8 1 ∷ [];
  hots = false ∷ true ∷ [];
}

is_sent : IsSent claimed sent hot
is_sent = record { version = 3; words = 5 ∷ []; before = refl; after = refl; cold = refl }

are_sent : AreSent claimed sent (hot ∷ [])
are_sent = record {
  changed = All-cons (IsSent claimed sent) hot [] is_sent (All-nil (IsSent claimed sent));
  others = none_of_one (λ h. object_at sent h ≡ object_at claimed h) (λ h. refl);
  hots = none_of_one (λ h. hot_at sent h ≡ hot_at claimed h) (λ h. refl);
  objects = refl;
  heat = refl;
  versions = refl;
  memory = refl;
  first = refl;
}

abbrev set_then : SetState
set_then = set_from 0 1 (put_shards both_put) (leaving both_put).spans (0 ∷ [])

now_in : (h : ℕ) → now sent committed h ≡ now claimed (leaving both_put) h
now_in zero = ap (λ (o : Option SetState). now_as sent 0 (broken_set committed.members o)
    (is.Far 8 3 (5 ∷ []))) (set_added_in (leaving both_put).sets 0 set_then)
now_in (suc zero) = refl
now_in (suc (suc h)) = refl

abbrev committing : LeavingState
committing = record (batch both_put) { words = hot ∷ [] }

commit_effect : IsBatchCommitted (leaving both_put) committed committing (Settled 0 away ∷ []) claimed sent
commit_effect = record { sent = are_sent; nothing = λ old. refl; same_now = now_in }

commit_writes : ¬ (IsBatchCommitted (leaving both_put) committed committing (stamped 65542) claimed
    sent)
commit_writes x =
    absurd (let e : 1 ≡ 0 = ap (λ (l : List Entry). length l) (x.nothing []) in omega (arith, e))

sent_hot : ¬ (IsBatchCommitted (leaving both_put) committed committing (Settled 0 away ∷ []) claimed
    (record sent { hots = true ∷ true ∷ [] }))
sent_hot x = absurd (let e : true ≡ false = (x.sent.changed 0 hot (lit< tt)).cold in cc)

-- both nodes crash with the commit, so that the object is lost
abbrev crashed : FarState
crashed = record committed {
  members = with_crash (with_crash committed.members (numbered 0)) (numbered 1);
}

commit_loses : ¬ (IsBatchCommitted (leaving both_put) crashed committing (Settled 0 away ∷ [])
    claimed
    sent)
commit_loses x = lost_held _ _ _ (sym lost ∙ x.same_now 0)
  where
    lost_held : (v w : ℕ) (bytes : List ℕ) → gone v ≡ held w bytes → ⊥
    lost_held v w bytes e = cc

    lost : now sent crashed 0 ≡ gone 3
    lost = ap (λ (o : Option SetState). now_as sent 0 (broken_set crashed.members o)
        (is.Far 8 3 (5 ∷ []))) (set_added_in (leaving both_put).sets 0 set_then)

-- ---- spans that may leave are looked at and read, and no others
-- the first span is cold, and its object pinned; the second one is hot, and leaves already
abbrev hot_leaves : FarState
hot_leaves = far_with pair.spans
    (Some (record {
      set = 0;
      pages = 1;
      frames = 1 ∷ [];
      words = [];
      made = true;
      parities = [];
      shards = [];
    })) 2

abbrev of_one : List Access
of_one = Looked 0 pinned ∷ []

abbrev of_both : List Access
of_both = Looked 0 pinned ∷ Looked 1 pinned ∷ []

not_free : IsFree pinned → ⊥
not_free free = let e : 1 ≡ 0 = free.1 in omega (arith, e)

no_spans : EvictRule hot_leaves hot_leaves (answer.NoSpans 0) of_one
unfolding batch_pages most_loose
no_spans = record {
  loose = [];
  found = (
    held_alone pair.spans 0 of_one 0 pinned only_first (1, refl) (inr ((refl, refl), tt)) not_free,
    tt,
  );
  answered = inl (record { few = refl; reply = refl; state = refl });
  touches = (first_object, tt);
}

-- a word of the frame that leaves already, the first one of its 512
loads_what_leaves : ¬ (EvictRule hot_leaves hot_leaves (answer.NoSpans 0)
    (Looked 0 pinned ∷ Loaded 512 0 ∷ []))
loads_what_leaves x = beside x.touches.1.0
  where
    beside : LiesInOne pair.spans (0 ∷ []) 512 → ⊥
    beside (f, (zero, less, same), lies) =
        let l : 512 < 512 * (0 + pages_of (record { index = 0 })) =
        (subst (λ (n : ℕ). LiesInRun n (pages_at pair.spans n) 512) (sym same) lies).1 in
        let one = one_page in omega (arith, l, one)
    beside (f, (suc k, less, same), lies) = let l : suc k < 1 = less in omega (arith, l)

looks_at_what_leaves : ¬ (EvictRule hot_leaves hot_leaves (answer.NoSpans 0) of_both)
looks_at_what_leaves x = let e = only_object 1 x.touches.1.0 in absurd (omega (arith, e))

settles_what_leaves : ¬ (EvictRule hot_leaves hot_leaves (answer.NoSpans 0)
    (Looked 0 pinned ∷ Settled 1 away ∷ []))
settles_what_leaves x = let e = only_object 1 x.touches.1.0 in absurd (omega (arith, e))

-- a begin looks at both
none_begins : HasLooked pair pair (answer.NoSpans 0) of_both
unfolding batch_pages most_loose
none_begins = record {
  none = refl;
  loose = [];
  found = (
    held_alone pair.spans 0 of_both 0 pinned only_first (1, refl)
        (inr ((refl, refl), ((λ w l. one_zero 0 l.0), tt))) not_free,
    (
      held_alone pair.spans 1 of_both 1 pinned only_second (1, refl) (inl (inr ((refl, refl), tt)))
          not_free,
      tt,
    ),
  );
  answered = inl (record { few = refl; reply = refl; state = refl });
  touches = (
    (0, (0, lit< tt, refl), (1, refl)),
    ((1, (1, lit< tt, refl), (1, refl)), tt),
  );
}
  where
    one_zero : (n : ℕ) → suc n ≡ 0 → ⊥
    one_zero n e = omega (arith, e)

-- a word of the third frame, which has no span
begin_loads_elsewhere : ¬ (HasLooked pair pair (answer.NoSpans 0)
    (Looked 0 pinned ∷ Looked 1 pinned ∷ Loaded 1024 0 ∷ []))
begin_loads_elsewhere x = beside x.touches.1.1.0
  where
    beside : LiesInOne pair.spans (0 ∷ 1 ∷ []) 1024 → ⊥
    beside (f, (zero, less, same), lies) =
        let l : 1024 < 512 * (0 + pages_of (record { index = 0 })) =
        (subst (λ (n : ℕ). LiesInRun n (pages_at pair.spans n) 1024) (sym same) lies).1 in
        let one = one_page in omega (arith, l, one)
    beside (f, (suc zero, less, same), lies) =
        let l : 1024 < 512 * (1 + pages_of (record { index = 0 })) =
        (subst (λ (n : ℕ). LiesInRun n (pages_at pair.spans n) 1024) (sym same) lies).1 in
        let one = one_page in omega (arith, l, one)
    beside (f, (suc (suc k), less, same), lies) =
        let l : suc (suc k) < 2 = less in omega (arith, l)

-- an object that lies in no span
begin_looks_elsewhere : ¬ (HasLooked pair pair (answer.NoSpans 0)
    (Looked 0 pinned ∷ Looked 1 pinned ∷ Looked 2 away ∷ []))
begin_looks_elsewhere x = nowhere x.touches.1.1.0
  where
    named : (n : ℕ) (slot : ℕ) → n < 2
        → handle_in (Some (span_with Cold n)) slot ≡ Some 2 → ⊥
    named n zero less e = none_some 2 e
    named n (suc zero) less e = let z = some_same n 2 e in omega (arith, z, less)
    named n (suc (suc slot)) less e = none_some 2 e

    nowhere : IsIn pair.spans (0 ∷ 1 ∷ []) 2 → ⊥
    nowhere (f, (zero, less, same), (slot, e)) = named 0 slot (lit< tt)
        (ap (λ (n : ℕ). handle_in (span_in pair.spans n) slot) same ∙ e)
    nowhere (f, (suc zero, less, same), (slot, e)) = named 1 slot (lit< tt)
        (ap (λ (n : ℕ). handle_in (span_in pair.spans n) slot) same ∙ e)
    nowhere (f, (suc (suc k), less, same), (slot, e)) =
        let l : suc (suc k) < 2 = less in omega (arith, l)

-- ---- the rows of a begin have the words that the claims told
-- a row whose parity has zeros has zeros
zeros_alone : (r : List ℕ) → IsSpanWord 1 1 1 (r ∷ row ∷ []) → r ≡ row
zeros_alone r word = ap (λ (l : List (List ℕ)). row_at l 0)
    (agreeing_words_are_equal 1 1 (r ∷ row ∷ []) (row ∷ row ∷ []) (1 ∷ []) (lit≤ tt) (lit< tt)
    (record {
      count = refl;
      ascend = λ i within. absurd (omega (arith, within));
      below = All-cons (λ (p : ℕ). p < 2) 1 [] (lit< tt) (All-nil (λ (p : ℕ). p < 2));
    }) word.is_word word.bytes is_word.is_word is_word.bytes
    (All-cons (λ (p : ℕ). row_at (r ∷ row ∷ []) p ≡ row_at (row ∷ row ∷ []) p) 1 [] refl
    (All-nil (λ (p : ℕ). row_at (r ∷ row ∷ []) p ≡ row_at (row ∷ row ∷ []) p))))

one_of : (l : List (List ℕ)) → length l ≡ 1 → l ≡ row_at l 0 ∷ []
one_of [] e = absurd (omega (arith, e))
one_of (r ∷ []) e = refl
one_of (r ∷ q ∷ l) e = absurd (omega (arith, e))

abbrev claim_sevens : List Access
claim_sevens = Claimed 0 calm 3 (7 ∷ []) ∷ []

not_sevens : IsInRow claim_sevens (span_with Cold 0) row 1 0 → ⊥
not_sevens x = let e = heads 7 0 (told x.words x.version x.told ∙ x.contents
    ∙ ap (λ (w : ℕ). window (words_in row) (1 * words_of (record { index = 0 }))
    (words_for (len_of w))) (sym (found x.word x.found)) ∙ row_words) in omega (arith, e)
  where
    told : (xs : List ℕ) (v : ℕ) → IsTaken 0 v xs claim_sevens → 7 ∷ [] ≡ xs
    told xs v (inl none) = absurd none
    told xs v (inr is) = is.2

    found : (w : ℕ) → IsFound 0 w claim_sevens → calm ≡ w
    found w (inl none) = absurd none
    found w (inr is) = is.0.1

-- rows of zeros, where the claim told another word
begins_with_other_words : ¬ (HasBegun pair second true (0 ∷ []) claim_sevens)
begins_with_other_words a =
    let b = some_same (new_batch pair 1 (0 ∷ []) (former ∷ []) true (row ∷ []))
    (new_batch pair a.pages (0 ∷ []) a.words true a.parities)
    (ap (λ (f : FarState). f.leaving) a.state) in
    let parities : row ∷ [] ≡ a.parities = ap (λ (x : LeavingState). x.parities) b in
    let pages : 1 ≡ a.pages = ap (λ (x : LeavingState). x.pages) b in
    let word : IsSpanWord 1 1 1 (row_at a.rows 0 ∷ row ∷ []) =
    subst (λ (n : ℕ). IsSpanWord n 1 1 (row_at a.rows 0 ∷ row ∷ [])) (sym pages)
    (subst (λ (l : List (List ℕ)). IsSpanWord a.pages 1 1 (l ++ row ∷ [])) (one_of a.rows a.counts.0)
    (subst (λ (l : List (List ℕ)). IsSpanWord a.pages 1 1 (a.rows ++ l)) (sym parities) (a.word refl))) in
    not_sevens (subst (λ (r : List ℕ). IsInRow claim_sevens (span_with Cold 0) r 1 0)
    (zeros_alone (row_at a.rows 0) word) (a.contents 0 0 1 0 (span_with Cold 0) refl refl refl))
