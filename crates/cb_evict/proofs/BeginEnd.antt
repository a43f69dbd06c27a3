-- The end of a begin: rows are read, the set is reserved, and the batch is noted.
use Rattle.std.proofs.Common.{◌≡◌, ℕ, ◌+◌, ◌*◌, ◌≤◌, Bool, true, false, List, [], ◌∷◌, ◌++◌, length, replicate, Option, None, Some, sym, refl, ap, ◌∙◌, subst, arith}
use Rattle.std.proofs.lemmas.List.{get_or-append-add, get_or_append_left, length-append, length-map, length-replicate}
use Rattle.cb_gf256.specs.CodeWord.{IsCodeWord}
use Rattle.cb_gf256.specs.Rows.{HaveLength, HoldBytes}
use Rattle.cb_member.specs.declared.names.Code.{Code}
use Rattle.cb_member.specs.declared.names.Shard.{Shard}
use Rattle.cb_span.specs.Contents.{Contents}
use Rattle.cb_types.specs.declared.order.EncodeOrder.{EncodeOrder}
use Rattle.cb_world.specs.declared.entry.Entry.{Entry}
use Rattle.cb_world.specs.declared.access.Access.{Access}
use Rattle.cb_world.specs.declared.leaving.Former.{Former}
use Rattle.cb_world.specs.declared.shown.Shown.{Shown}
use Rattle.cb_world.specs.FarState.{FarState}
use Rattle.cb_world.specs.Leaving.{ParitiesState, made_of, shown_rows}
use Rattle.cb_world.specs.Orders.{IsEncodeKept}
use Rattle.cb_world.specs.Played.{played}
use Rattle.cb_world.specs.Sound.{Sound}
use Rattle.cb_world.specs.Written.{written_by}
use Rattle.cb_world.proofs.Laws.{played_append, written_append}
use Rattle.cb_evict.specs.Candidates.{candidates}
use Rattle.cb_evict.specs.Events.{TouchesOnly, AreSteady}
use Rattle.cb_evict.specs.Evicting.{ReadsSpans, TouchesSpans}
use Rattle.cb_evict.specs.Loading.{LiesInOne}
use Rattle.cb_evict.specs.Looking.{IsIn}
use Rattle.cb_evict.specs.BeginRule.{blank_shard, blank_shards, no_parities, with_batch}
use Rattle.cb_evict.specs.Beginning.{AreParities, AreReady, HasOrdered, IsOrdered, with_reserved, ReservesFrames}
use Rattle.cb_evict.specs.Gathering.{order_for}
use Rattle.cb_evict.proofs.BeginSound.{sound_begun, rule_begun, effect_begun, order_kept}
use Rattle.cb_evict.proofs.Composed.{rows_made}
use Rattle.cb_evict.proofs.Ending.{spans_touched}
use Rattle.cb_evict.proofs.Events.{AreAllReads, touches_more, told_words, told_objects}
use Rattle.cb_evict.proofs.EvictSound.{told_before}
use Rattle.cb_evict.proofs.TakenGroup.{AreRowsCoded, frame_rows}

-- all that is promised of the reads
pub record Starts (far new : FarState) (made : Bool) (o : EncodeOrder) (frames : List ℕ)
    (before events : List Access) (s : Shown) : Type 0 where
  pub begun : HasOrdered far new made o frames (before ++ events)
  pub sound : Sound (played (before ++ events) s) new
  pub effect : IsOrdered far new o (before ++ events) s (played (before ++ events) s)

-- the reads touch words of the frames alone
pub reads_in : (far : FarState) (frames : List ℕ) (ls : List Access)
    → AreAllReads (LiesInOne far.spans frames) ls → TouchesOnly (IsIn far.spans frames) (LiesInOne far.spans frames) ls
reads_in far frames ls reads =
    touches_more (λ h. ⊥) (IsIn far.spans frames) (LiesInOne far.spans frames)
    (LiesInOne far.spans frames) ls
    (λ h x. absurd x) (λ p x. x) reads.touches

pub starts : (far new : FarState) (o : EncodeOrder) (frames : List ℕ) (formers : List Former)
    (made : Bool) (parities : List (List ℕ)) (before ls : List Access) (s : Shown)
    → (d : AreRowsCoded far frames formers made parities before s (played before s))
    → (made ≡ false → parities ≡ no_parities far.code.r)
    → o ≡ order_for far (frame_rows (played before s) d.taken.pages frames)
    → far.leaving ≡ None → AreAllReads (LiesInOne far.spans frames) ls
    → new ≡ with_batch far d.taken.pages frames formers made parities
    → AreSteady before s → TouchesSpans far before → Starts far new made o frames before ls s
starts far new o frames formers made parities before ls s d bare ordered none reads is steady touched =
    let t = played before s in
    let after = with_batch far d.taken.pages frames formers made parities in
    let same : played (before ++ ls) s ≡ t = played_append before ls s ∙ reads.stays t in
    let in_spans = IsIn far.spans (candidates far) in
    let touches = spans_touched far frames before ls d.taken.among touched
    (reads_in far frames ls reads) in
    let words = told_words in_spans (LiesInOne far.spans (candidates far)) (before ++ ls) s s touches refl
    refl in
    let told = told_before (λ h. ⊥) (LiesInOne far.spans frames) before ls s reads.touches reads.quiet in
    record {
      begun = subst (λ (x : FarState). HasOrdered far x made o frames (before ++ ls)) (sym is)
          (record {
            begun = rule_begun far frames formers made parities before s t d none bare ls
                reads.quiet;
            order = ordered;
          });
      sound = subst (λ (x : FarState). Sound (played (before ++ ls) s) x) (sym is)
          (subst (λ (v : Shown). Sound v after) (sym same)
          (sound_begun far frames formers made parities before s t d none));
      effect = subst (λ (x : FarState). IsOrdered far x o (before ++ ls) s
          (played (before ++ ls) s))
          (sym is)
          (subst (λ (v : Shown). IsOrdered far after o (before ++ ls) s v) (sym same) (record {
            kept = subst (IsEncodeKept t after) (sym ordered)
                (order_kept far frames formers made parities before s t d none);
            begun = effect_begun far frames formers made parities before s t d none ls reads.quiet
                (steady.hots ∙ sym (ap (λ (x : Shown). x.hots) told))
                (told_objects (before ++ ls) s).0
                (sym (ap (λ (x : Shown). x.versions) same) ∙ words.0)
                (sym (ap (λ (x : Shown). x.memory) same) ∙ words.1)
                (λ old. written_append before ls s old
                ∙ ap (λ (l : List Entry). written_by ls t l) (steady.nothing old)
                ∙ (reads.steady t).nothing old);
          }));
    }

-- the far state once the batch is noted
abbrev pub noted_far : FarState → ℕ → List ℕ → List Former → Bool → List (List ℕ)
    → List (Option Shard) → FarState
noted_far far pages frames words made parities shards = record far {
  leaving = Some (record {
    set = far.counts.sets;
    pages = pages;
    frames = frames;
    words = words;
    made = made;
    parities = parities;
    shards = shards;
  });
  counts = record far.counts { sets = far.counts.sets + 1 };
}

-- the far state in which it ends
pub batch_then : (far mid new : FarState) (pages : ℕ) (frames : List ℕ) (formers : List Former)
    (made : Bool) (parities : List (List ℕ)) (shards : List (Option Shard))
    → mid ≡ with_reserved far pages (blank_shards (far.code.k + far.code.r)) frames
    → new ≡ noted_far mid pages frames formers made parities shards
    → shards ≡ replicate (far.code.k + far.code.r) None
    → new ≡ with_batch far pages frames formers made parities
batch_then far mid new pages frames formers made parities shards a b f =
    b ∙ ap (λ (x : FarState). noted_far x pages frames formers made parities shards) a
    ∙ ap (λ (l : List (Option Shard)). noted_far
    (with_reserved far pages (blank_shards (far.code.k + far.code.r)) frames) pages frames formers
    made parities l) f

-- the order that is handed out
pub order_is : (far mid : FarState) (pages : ℕ) (frames : List ℕ) (id : ℕ) (code : Code)
    (rows : List (List ℕ)) → id ≡ mid.counts.sets
    → mid ≡ with_reserved far pages (blank_shards (far.code.k + far.code.r)) frames
    → code ≡ far.code
    → record { set = id; k = code.k; r = code.r; rows = rows } ≡ order_for far rows
order_is far mid pages frames id code rows a b e =
    let id_is : id ≡ far.counts.sets = a ∙ ap (λ (f : FarState). f.counts.sets) b in
    λ i. record { set = id_is i; k = (e i).k; r = (e i).r; rows = rows }

-- ---- the parities that a batch begins with
-- rows of which nothing is seen
pub shown_blank : (rows : List (List ℕ)) → shown_rows false rows ≡ no_parities (length rows)
shown_blank [] = refl
shown_blank (row ∷ rows) = ap (λ (l : List (List ℕ)). [] ∷ l) (shown_blank rows)

-- as many are seen as there are
pub shown_count : (made : Bool) (rows : List (List ℕ)) → length (shown_rows made rows) ≡ length rows
shown_count true rows = refl
shown_count false rows = length-map rows (λ (row : List ℕ). [])

true_false : true ≡ false → ⊥
true_false e = cc

-- made ones are ready
pub ready_made : (r : ℕ) (rows parities : List (List ℕ)) (p : ParitiesState)
    → p ≡ made_of parities → 1 ≤ length rows → length parities ≡ r
    → IsCodeWord (length rows) r (rows ++ parities) → HoldBytes (rows ++ parities)
    → AreReady true r rows p
ready_made r rows parities p is some count word bytes =
    subst (AreReady true r rows) (sym is) (record {
      mark = refl;
      count = count;
      coded = λ yet. record {
        count = ap (λ (n : ℕ). length rows + n) count;
        word = subst (λ (n : ℕ). IsCodeWord (length rows) n (rows ++ parities)) (sym count) word;
        bytes = bytes;
      };
      long = λ pages lengths. record {
        lengths = λ i d l.
            let all = rows ++ parities in
            let n : length all ≡ length rows + length parities = length-append rows parities in
            let first = get_or_append_left rows parities [] 0 (omega (arith, some)) in
            ap (λ (row : List ℕ). length row) (sym (get_or-append-add rows parities i d))
            ∙ word.equal_lengths (length rows + i) d (omega (arith, l, n))
            ∙ ap (λ (row : List ℕ). length row) first ∙ lengths 0 [] (omega (arith, some));
        room = λ not. absurd (true_false not);
      };
    })

-- so is room for them
pub ready_room : (r k len : ℕ) (rows : List (List ℕ)) (p : ParitiesState)
    → p ≡ record {
      made = false;
      rows = replicate r (replicate len 0);
      source = Some (replicate k (replicate len 0));
    } → 1 ≤ length rows → k ≡ length rows → HaveLength len rows → AreReady false r rows p
ready_room r k len rows p is some count lengths =
    let parities = rows_made (replicate r (replicate len 0)) r r len refl refl in
    let table = rows_made (replicate k (replicate len 0)) k k len refl refl in
    subst (AreReady false r rows) (sym is) (record {
      mark = refl;
      count = parities.0;
      coded = λ yet. absurd (true_false (sym yet));
      long = λ pages long.
          let same : len ≡ 4096 * pages =
          sym (lengths 0 [] (omega (arith, some))) ∙ long 0 [] (omega (arith, some)) in record {
            lengths = subst (λ (n : ℕ). HaveLength n (replicate r (replicate len 0))) same parities.1;
            room = λ not. record {
              table = replicate k (replicate len 0);
              kept = refl;
              count = table.0 ∙ count;
              lengths = subst (λ (n : ℕ). HaveLength n (replicate k (replicate len 0))) same table.1;
            };
          };
    })

-- what is seen of them in the batch
pub record AreSeen (far : FarState) (made : Bool) (rows seen : List (List ℕ)) : Type 0 where
  pub few : length seen ≡ far.code.r
  pub coded : made ≡ true
      → AreParities far.code.k (far.code.k + far.code.r) rows seen
  pub bare : made ≡ false → seen ≡ no_parities far.code.r

pub are_seen : (far : FarState) (made : Bool) (rows : List (List ℕ)) (p : ParitiesState)
    → length rows ≡ far.code.k → AreReady made far.code.r rows p
    → AreSeen far made rows (shown_rows p.made p.rows)
are_seen far made rows p count x = record {
  few = shown_count p.made p.rows ∙ x.count;
  coded = λ yes. subst (λ (b : Bool). AreParities far.code.k (far.code.k + far.code.r) rows
      (shown_rows b p.rows)) (sym (x.mark ∙ yes))
      (subst (λ (k : ℕ). AreParities k (k + far.code.r) rows p.rows) count (x.coded yes));
  bare = λ not. ap (λ (b : Bool). shown_rows b p.rows) (x.mark ∙ not) ∙ shown_blank p.rows
      ∙ ap no_parities x.count;
}

-- ---- the same, of the same lists
pub blank_count : (blank : List Shard) (n : ℕ) → blank ≡ blank_shards n → length blank ≡ n
blank_count blank n e = ap (λ (l : List Shard). length l) e ∙ length-replicate n blank_shard

pub reads_as : (runs : List Access → Type 0) (spans : List (Option Contents)) (gs frames : List ℕ)
    → gs ≡ frames → ReadsSpans runs spans gs → ReadsSpans runs spans frames
reads_as runs spans gs frames e x = subst (ReadsSpans runs spans) e x

pub reserves_as : (runs : List Access → Type 0) (shows : Shown → Type 0)
    (far new : FarState) (pages : ℕ) (gs frames : List ℕ) (made : Bool) (rows : List (List ℕ))
    (p : ParitiesState) → gs ≡ frames → ReservesFrames runs shows far new pages gs made rows p
    → ReservesFrames runs shows far new pages frames made rows p
reserves_as runs shows far new pages gs frames made rows p e x =
    subst (λ (l : List ℕ). ReservesFrames runs shows far new pages l made rows p) e x
