-- The front of an eviction and of a begin, and what comes behind it.
use Rattle.std.proofs.Common.{◌≡◌, ◌≢◌, ◌⊎◌, ℕ, ◌<◌, true, false, not, List, [], ◌∷◌, ◌++◌, length, get_or, All, Option, replicate, sym, refl, ap, ◌∙◌, subst, arith, inl, inr}
use Rattle.std.specs.Prelude.{Result, Ok, Err, IfOk, OnOk, OnErr}
use Rattle.std.specs.List.{Contains, AllPairs}
use Rattle.std.proofs.lemmas.List.{append-nil, append_assoc, length-replicate, get_or-replicate, get_or_default}
use Rattle.std.proofs.lemmas.List.Elements.{All-contains, All-nil, Contains-append_left}
use Rattle.std.proofs.lemmas.List.Kept.{AllPairs-cons}
use Rattle.cb_span.specs.Contents.{Contents}
use Rattle.cb_gf256.specs.Rows.{HaveLength}
use Rattle.cb_types.specs.declared.handle.SetId.{SetId}
use Rattle.cb_types.specs.declared.reply.Reply.{Reply}
use Rattle.cb_types.specs.declared.reply.Reply.TheVariants as answer
use Rattle.cb_world.specs.declared.access.Access.{Access}
use Rattle.cb_world.specs.declared.leaving.Former.{Former}
use Rattle.cb_world.specs.declared.shown.Shown.{Shown}
use Rattle.cb_world.specs.Choices.{room_count}
use Rattle.cb_world.specs.Played.{played}
use Rattle.cb_world.specs.Looks.{NoLook}
use Rattle.cb_world.specs.Still.{IsStill}
use Rattle.cb_world.specs.FarState.{FarState, pages_at}
use Rattle.cb_world.specs.Sound.{Sound}
use Rattle.cb_world.specs.Performs.{Performs}
use Rattle.cb_world.proofs.Laws.{allowed_append}
use Rattle.cb_evict.specs.Candidates.{candidates, AreLoose}
use Rattle.cb_evict.specs.CallPart.{CallPart}
use Rattle.cb_evict.specs.Claims.{IsNone}
use Rattle.cb_evict.specs.Claiming.{ClaimsObjects, ClaimsThese, GivesBack, ClaimsSpans}
use Rattle.cb_evict.specs.EvictEffect.{IsEvicted, EvictEffect}
use Rattle.cb_evict.specs.EvictRule.{HasEvicted, HasFewSpans, HasFewNodes, HasBoth, EvictRule}
use Rattle.cb_evict.specs.Evicting.{TouchesSpans, ReadsSpans, AreSpansTaken, IsEnded, IsReadyToEvict, EndsClaimed, EvictsClaimed, LeavesClaimed}
use Rattle.cb_evict.specs.declared.eviction.Eviction.{Eviction}
use Rattle.cb_evict.specs.declared.eviction.Eviction.TheVariants as eviction
use Rattle.cb_evict.specs.Eviction.{CountsRule, TellsCounts, reply_of}
use Rattle.cb_evict.specs.declared.finding.Found.{Found}
use Rattle.cb_evict.specs.declared.finding.Found.TheVariants.{Loose}
use Rattle.cb_evict.specs.declared.lengths.LengthCounts.{LengthCounts}
use Rattle.cb_evict.specs.declared.taking.Taken.{Taken}
use Rattle.cb_evict.specs.declared.taking.Taken.TheVariants.{Few, Enough}
use Rattle.cb_evict.specs.Finding.{FindsSpans}
use Rattle.cb_evict.specs.Taking.{AreLooseNow, AreLooseStill, AreLostSince, TriesSpans, TakesFew, TakesEnough, Takes}
use Rattle.cb_evict.specs.Lengths.{AreLengthCounts, count_of, has_pages, loose_of, most_loose, most_of, without}
use Rattle.cb_evict.specs.Loading.{AreOfLength, LiesInOne, OnlyLoads}
use Rattle.cb_evict.specs.Looking.{IsIn, LooksOver}
use Rattle.cb_evict.proofs.CallParts.{Joins, part_more, part_then}
use Rattle.cb_evict.proofs.Claims.{all_left, claims_nothing}
use Rattle.cb_evict.proofs.Gathers.{claims_then, gathers_back}
use Rattle.cb_evict.proofs.LooseLengths.{filter_all, filter_in, filter_swap, first_long, most_is}
use Rattle.cb_evict.proofs.Loose.{loose_among, all_quiet, apart_tail, fresh_head}
use Rattle.cb_evict.proofs.Restored.{restored}
use Rattle.cb_evict.proofs.Standing.{candidates_apart}
use Rattle.cb_evict.proofs.Still.{does_nothing, still_none}

-- ---- by the result
pub if_ok : {T : Type 0} {E : Type 0} (P Q : T → Type 0) (B : Type 0) (r : Result T E) → IfOk r Q
    → OnOk r B
    → ((t : T) → Q t → B → P t) → IfOk r P
if_ok P Q B (Ok t) q b f = f t q b
if_ok P Q B (Err e) q b f = tt

pub on_err : {T : Type 0} {E : Type 0} (P B : Type 0) (r : Result T E) → OnErr r B → (B → P)
    → OnErr r P
on_err P B (Ok t) b f = tt
on_err P B (Err e) b f = f b

pub both_err : {T : Type 0} {E : Type 0} (A B : Type 0) (r : Result T E) → OnErr r A → OnErr r B
    → OnErr r (A × B)
both_err A B (Ok t) a b = tt
both_err A B (Err e) a b = (a, b)

pub if_map : {T : Type 0} {E : Type 0} (P Q : T → Type 0) (r : Result T E) → IfOk r Q
    → ((t : T) → Q t → P t) → IfOk r P
if_map P Q (Ok t) q f = f t q
if_map P Q (Err e) q f = tt

pub any_err : {T : Type 0} {E : Type 0} (P : Type 0) (r : Result T E) → P → OnErr r P
any_err P (Ok t) p = tt
any_err P (Err e) p = p

pub read_err : {T : Type 0} {E : Type 0} (runs : List Access → Type 0)
    (spans : List (Option Contents)) (frames : List ℕ) (es : List Access) (r : Result T E) → runs es
    → OnlyLoads (LiesInOne spans frames) es → OnErr r (ReadsSpans runs spans frames)
read_err runs spans frames es r ran loads =
    any_err (ReadsSpans runs spans frames) r (es, ran, loads)

-- ---- by what was found, and by what was taken
pub found_loose : (runs : List Access → Type 0) (shows : Shown → Type 0)
    (far : FarState) (found : Found) (frames : _) (counts : LengthCounts) (nodes : ℕ)
    → found ≡ Loose frames counts nodes → FindsSpans runs shows far found
    → FindsSpans runs shows far (Loose frames counts nodes)
found_loose runs shows far found frames counts nodes is x = subst (FindsSpans runs shows far) is x

pub taken_enough : (runs : List Access → Type 0) (shows : Shown → Type 0)
    (far : FarState) (finds : List ℕ → List Access → Type 0) (taken : Taken) (frames : _)
    (formers : _) → taken ≡ Enough frames formers → Takes runs shows far finds taken
    → Takes runs shows far finds (Enough frames formers)
taken_enough runs shows far finds taken frames formers is x =
    subst (Takes runs shows far finds) is x

-- ---- the rows that are made
pub rows_made : (rows : List (List ℕ)) (k n len : ℕ) → rows ≡ replicate k (replicate len 0) → n ≡ k
    → (length rows ≡ n) × HaveLength len rows
rows_made rows k n len is e =
    let count : length rows ≡ k =
    ap (λ (l : List (List ℕ)). length l) is ∙ length-replicate k (replicate len 0) in (
      count ∙ sym e,
      λ i d l. ap (λ (m : List (List ℕ)). length (get_or m i d)) is
          ∙ ap (λ (m : List ℕ). length m) (get_or-replicate k i (replicate len 0) d
          (omega (arith, l, count)))
          ∙ length-replicate {A = ℕ} len 0,
    )

-- ---- the loose spans
-- they differ
pub loose_apart : (es : List Access) (far : FarState) (frames loose : List ℕ)
    → AllPairs (λ f g. f ≢ g) frames → AreLoose es far.spans frames loose
    → AllPairs (λ f g. f ≢ g) loose
loose_apart es far [] [] apart a = apart
loose_apart es far [] (g ∷ loose) apart a = absurd a
loose_apart es far (f ∷ frames) [] apart a = λ i j d less within. absurd (omega (arith, within))
loose_apart es far (f ∷ frames) (g ∷ loose) apart (inl a) =
    loose_apart es far frames (g ∷ loose) (apart_tail f frames apart) a.1
loose_apart es far (f ∷ frames) (g ∷ loose) apart (inr a) =
    AllPairs-cons (λ f g. f ≢ g) g loose
    (λ k d l e. fresh_head f frames apart (subst (Contains frames) a.1
    (loose_among es far.spans frames loose g a.2 (k, l, get_or_default loose k g d l ∙ sym e))))
    (loose_apart es far frames loose (apart_tail f frames apart) a.2)

-- ---- the effect by the reply
pub set_effect : (far new : FarState) (id : SetId) (r : Reply) (es : List Access) (s t : Shown)
    → r ≡ answer.Set id → IsEvicted far new es s t → EvictEffect far new r es s t
set_effect far new id r es s t is a = record {
  evicted = λ other e. a;
  left = λ none. absurd (none id is);
}

pub left_effect : (far new : FarState) (r : Reply) (es : List Access) (s t : Shown)
    → ((id : SetId) → r ≡ answer.Set id → ⊥) → IsStill es s t → EvictEffect far new r es s t
left_effect far new r es s t none a = record {
  evicted = λ id e. absurd (none id e);
  left = λ e. a;
}

pub few_spans : (n : ℕ) (r : Reply) (id : SetId) → r ≡ answer.NoSpans n → r ≡ answer.Set id → ⊥
few_spans n r id a b = cc

pub few_nodes : (n : ℕ) (r : Reply) (id : SetId) → r ≡ answer.NoNodes n → r ≡ answer.Set id → ⊥
few_nodes n r id a b = cc

-- ---- nothing was done
pub nothing_done : (far : FarState) (runs : List Access → Type 0) (knows : Shown → Type 0)
    → runs [] → Performs runs (λ s. knows s × Sound s far) (TouchesSpans far) (λ t. Sound t far)
    IsStill
nothing_done far runs knows ran =
    does_nothing runs knows far far (TouchesSpans far) IsStill ran refl tt still_none

-- ---- the looks
pub looks_as : (runs : List Access → Type 0) (spans ys : List (Option Contents))
    (frames gs loose hs : List ℕ) → ys ≡ spans → gs ≡ frames → hs ≡ loose → LooksOver runs ys gs hs
    → LooksOver runs spans frames loose
looks_as runs spans ys frames gs loose hs e f h x =
    subst (λ (l : List (Option Contents)). LooksOver runs l frames loose) e
    (subst (λ (l : List ℕ). LooksOver runs ys l loose) f
    (subst (λ (l : List ℕ). LooksOver runs ys gs l) h x))

-- the most of one length, of the same lists
pub most_told : (spans ys : List (Option Contents)) (loose hs : List ℕ) {n : ℕ} → ys ≡ spans
    → hs ≡ loose → n ≡ most_loose ys hs → n ≡ most_loose spans loose
most_told spans ys loose hs e f is = is ∙ (λ i. most_loose (e i) (f i))

-- and where the spans of each length were counted
pub most_counted : (spans ys : List (Option Contents)) (loose hs : List ℕ) {counts : LengthCounts}
    {n : ℕ} → ys ≡ spans → hs ≡ loose → AreLengthCounts ys hs counts → n ≡ most_of counts
    → n ≡ most_loose spans loose
most_counted spans ys loose hs e f x is = most_told spans ys loose hs e f
    (omega (arith, most_is ys hs, x.fours, x.twos, x.ones, is))

pub counted_as : (spans ys : List (Option Contents)) (loose hs : List ℕ) {counts : LengthCounts}
    → ys ≡ spans → hs ≡ loose → AreLengthCounts ys hs counts → AreLengthCounts spans loose counts
counted_as spans ys loose hs e f x = record {
  fours = x.fours ∙ (λ i. count_of (e i) 4 (f i));
  twos = x.twos ∙ (λ i. count_of (e i) 2 (f i));
  ones = x.ones ∙ (λ i. count_of (e i) 1 (f i));
}

-- nothing is claimed by looks
pub looks_tried : {runs : List Access → Type 0} {shows : Shown → Type 0} (far : FarState)
    (loose : List ℕ) → LooksOver runs far.spans (candidates far) loose
    → TriesSpans runs shows far (AreLooseNow far loose) []
looks_tried far loose x =
    part_more (IsIn far.spans (candidates far)) (LiesInOne far.spans (candidates far)) _ x (λ h y. y)
    (λ p y. absurd y) (x.done.1, λ at s knows here. claims_nothing at s x.events x.done.0 here)

-- ---- the looks, and then the rest
module _ {runsA runsB runsC : List Access → Type 0} {showsA showsB : Shown → Type 0} (far : FarState)
    (was : List ℕ) (j : Joins runsA runsB runsC showsA showsB)
    (x : LooksOver runsA far.spans (candidates far) was) where
  looked_tries : (loose : List ℕ) (formers : List Former)
      → TriesSpans runsB showsB far (AreLooseStill far was loose) formers
      → TriesSpans runsC showsA far (AreLooseNow far loose) formers
  looked_tries loose formers y =
      part_then (IsIn far.spans (candidates far)) (LiesInOne far.spans (candidates far))
      (λ es. AreLooseNow far loose es × ((at : FarState) → ClaimsObjects showsA at es formers)) j x y (λ h z. z) (λ p z. absurd z) (λ h z. z) (λ p z. z) (inl x.done.0) (
        y.done.0 x.events x.done.1,
        λ at s knows here.
            let a = claims_nothing at s x.events x.done.0 here in
            claims_then {showsB = showsB} at x.events y.events s [] formers a
            (j.shown x.events s x.ran knows) y.done.1
            (All-nil (λ f. IsNone formers f.handle)) (All-nil (λ f. NoLook f.handle y.events))
            (λ k d l. All-nil (λ f. f.handle ≢ (get_or formers k d).handle)),
      )

  pub looked_takes : (taken : Taken) → Takes runsB showsB far (AreLooseStill far was) taken
      → Takes runsC showsA far (AreLooseNow far) taken
  looked_takes taken y = by taken y
    where
      by : (taken : Taken) → Takes runsB showsB far (AreLooseStill far was) taken
          → Takes runsC showsA far (AreLooseNow far) taken
      by (Few lack loose nodes) y = record {
        loose = y.loose;
        tries = looked_tries y.loose [] y.tries;
        few = y.few;
        counts = y.counts;
      }
      by (Enough frames formers) y = record {
        loose = y.loose;
        tries = looked_tries y.loose formers.items y.tries;
        pages = y.pages;
        longest = y.longest;
        first = y.first;
        room = y.room;
        taken = y.taken;
      }

-- ---- nothing is claimed in the end
-- so nothing changed
pub still_at : (far : FarState) (finds : List Access → Type 0) {runs : List Access → Type 0}
    {shows : Shown → Type 0} → (x : TriesSpans runs shows far finds []) → (s : Shown)
    → shows s × Sound s far
    → IsStill x.events s (played x.events s) × Sound (played x.events s) far
still_at far finds x s k =
    let a = x.done.1 far s k.0 k.1.here in
    restored far x.events s (IsIn far.spans (candidates far)) (LiesInOne far.spans (candidates far)) k.1 a.0
    a.1 a.2 x.touches

tried_still : (far : FarState) (finds : List Access → Type 0) {runs : List Access → Type 0}
    {shows : Shown → Type 0} → TriesSpans runs shows far finds []
    → Performs runs (λ s. shows s × Sound s far) (TouchesSpans far) (λ t. Sound t far) IsStill
tried_still far finds x = record {
  events = x.events;
  ran = x.ran;
  looks_first = x.first;
  rule = x.touches;
  allowed = λ s k. (x.done.1 far s k.0 k.1.here).2.allowed;
  sound_after = λ s k. (still_at far finds x s k).1;
  effect = λ s k. (still_at far finds x s k).0;
}

-- looks, and no more
pub looked_fails : (far : FarState) (loose : List ℕ) {runsA runsB : List Access → Type 0}
    {shows : Shown → Type 0} → LooksOver runsA far.spans (candidates far) loose
    → ((es : List Access) → runsA es → runsB es)
    → Performs runsB (λ s. shows s × Sound s far) (TouchesSpans far) (λ t. Sound t far) IsStill
looked_fails far loose {shows = shows} x on =
    let y = tried_still far (AreLooseNow far loose) (looks_tried {shows = shows} far loose x) in record {
      events = y.events;
      ran = on y.events y.ran;
      looks_first = y.looks_first;
      rule = y.rule;
      allowed = y.allowed;
      sound_after = y.sound_after;
      effect = y.effect;
    }

-- so it is refused
pub takes_few : (far : FarState) (e : Eviction) (runs : List Access → Type 0)
    (shows : Shown → Type 0) → TakesFew runs shows far (AreLooseNow far) e
    → Performs runs (λ s. shows s × Sound s far) (CountsRule far far e) (λ t. Sound t far)
    (EvictEffect far far (reply_of e))
takes_few far e runs shows x = let y = x.tries in record {
  events = y.events;
  ran = y.ran;
  looks_first = y.first;
  rule = record {
    rule = record {
      loose = x.loose;
      found = y.done.0;
      answered = answer_of x.few;
      touches = y.touches;
    };
    counts = x.counts;
  };
  allowed = λ s k. (y.done.1 far s k.0 k.1.here).2.allowed;
  sound_after = λ s k. (still_at far (AreLooseNow far x.loose) y s k).1;
  effect = λ s k. left_effect far far (reply_of e) y.events s (played y.events s) (no_set x.few)
      (still_at far (AreLooseNow far x.loose) y s k).0;
}
  where
    answer_of : HasFewSpans far far (reply_of e) x.loose
        ⊎ HasFewNodes far far (reply_of e) x.loose
        → HasFewSpans far far (reply_of e) x.loose
        ⊎ (HasFewNodes far far (reply_of e) x.loose
        ⊎ HasBoth far far (reply_of e) x.loose x.tries.events)
    answer_of (inl a) = inl a
    answer_of (inr a) = inr (inl a)

    no_set : HasFewSpans far far (reply_of e) x.loose
        ⊎ HasFewNodes far far (reply_of e) x.loose
        → (id : SetId) → reply_of e ≡ answer.Set id → ⊥
    no_set (inl a) id is = few_spans (most_loose far.spans x.loose) (reply_of e) id a.reply is
    no_set (inr a) id is =
        few_nodes (room_count far.nodes far.members) (reply_of e) id a.reply is

-- ---- by the rule
pub rule_weaker : (runs : List Access → Type 0) (knows sound : Shown → Type 0)
    (rule other : List Access → Type 0) (does : List Access → Shown → Shown → Type 0)
    → ((es : List Access) → rule es → other es) → Performs runs knows rule sound does
    → Performs runs knows other sound does
rule_weaker runs knows sound rule other does f x = record {
  events = x.events;
  ran = x.ran;
  looks_first = x.looks_first;
  rule = f x.events x.rule;
  allowed = x.allowed;
  sound_after = x.sound_after;
  effect = x.effect;
}

-- the reply of an eviction that tells both counts
pub replied : (far new : FarState) (e : Eviction) (r : Reply)
    (runs : List Access → Type 0) (knows sound : Shown → Type 0) → r ≡ reply_of e
    → Performs runs knows (CountsRule far new e) sound (EvictEffect far new (reply_of e))
    → Performs runs knows (EvictRule far new r) sound (EvictEffect far new r)
replied far new e r runs knows sound is x =
    subst (λ (q : Reply). Performs runs knows (EvictRule far new q) sound (EvictEffect far new q))
    (sym is) (rule_weaker runs knows sound (CountsRule far new e)
    (EvictRule far new (reply_of e))
    (EvictEffect far new (reply_of e)) (λ es y. y.rule) x)

-- a set has no counts to tell
pub set_counted : (far new : FarState) (id : SetId) (e : Eviction) (es : List Access)
    → e ≡ eviction.Set id → EvictRule far new (reply_of e) es → CountsRule far new e es
set_counted far new id e es is x = record {
  rule = x;
  counts = subst (TellsCounts far x.loose) (sym is) tt;
}

-- ---- the claims
-- the spans that are claimed are of the length, and were loose
pub chosen_in : {runs : List Access → Type 0} {shows : Shown → Type 0}
    (spans : List (Option Contents)) (loose : List ℕ) (pages k : ℕ) (frames : List ℕ)
    (formers : List Former) → (x : ClaimsSpans runs shows spans loose pages k frames formers)
    → (f : ℕ) → Contains frames f → Contains (loose_of spans pages loose) f
chosen_in spans loose pages k frames formers x f c =
    filter_in (λ g. not (x.lost g)) (loose_of spans pages loose) f
    (subst (λ (l : List ℕ). Contains l f)
    (sym x.chosen ∙ filter_swap (has_pages spans pages) (λ g. not (x.lost g)) loose)
    (Contains-append_left frames x.rest f c))

pub are_taken : (far : FarState) (loose frames : List ℕ) (formers : List Former)
    (runs : List Access → Type 0) (shows : Shown → Type 0) (pages k : ℕ)
    → ClaimsSpans runs shows far.spans loose pages k frames formers
    → All (Contains (candidates far)) loose
    → length frames ≡ far.code.k → AreSpansTaken far frames formers
are_taken far loose frames formers runs shows pages k x among count = record {
  count = count;
  among = λ i d l. All-contains (Contains (candidates far)) loose (get_or frames i d) among
      (x.among i d l);
  apart = x.apart;
  pages = pages;
  long = all_left (λ f. pages_at far.spans f ≡ pages) frames x.rest
      (subst (AreOfLength far.spans pages) x.chosen
      (first_long far.spans pages (without x.lost loose)));
  of = x.of;
  order = x.order;
  each_once = x.each_once;
}

-- the same, of the same lists
pub taken_as : (far : FarState) (frames gs : List ℕ) (formers hs : List Former) → gs ≡ frames → hs ≡ formers → AreSpansTaken far frames formers
    → AreSpansTaken far gs hs
taken_as far frames gs formers hs f h a =
    subst (λ (l : List Former). AreSpansTaken far gs l) (sym h)
    (subst (λ (l : List ℕ). AreSpansTaken far l formers) (sym f) a)

pub evicts_as : (runs : List Access → Type 0) (shows : Shown → Type 0)
    (far new : FarState) (frames gs : List ℕ) (formers hs : List Former) → gs ≡ frames → hs ≡ formers → EvictsClaimed runs shows far new gs hs
    → EvictsClaimed runs shows far new frames formers
evicts_as runs shows far new frames gs formers hs f h a =
    subst (λ (l : List Former). EvictsClaimed runs shows far new frames l) h
    (subst (λ (l : List ℕ). EvictsClaimed runs shows far new l hs) f a)

pub leaves_as : (runs : List Access → Type 0) (shows : Shown → Type 0)
    (far : FarState) (frames gs : List ℕ) (formers hs : List Former) → gs ≡ frames → hs ≡ formers
    → LeavesClaimed runs shows far gs hs → LeavesClaimed runs shows far frames formers
leaves_as runs shows far frames gs formers hs f h a =
    subst (λ (l : List Former). LeavesClaimed runs shows far frames l) h
    (subst (λ (l : List ℕ). LeavesClaimed runs shows far l hs) f a)

pub claims_as : (runs : List Access → Type 0) (shows : Shown → Type 0)
    (spans ys : List (Option Contents)) (loose : List ℕ) (pages k : ℕ) (frames : List ℕ)
    (formers : List Former) → ys ≡ spans → ClaimsSpans runs shows ys loose pages k frames formers
    → ClaimsSpans runs shows spans loose pages k frames formers
claims_as runs shows spans ys loose pages k frames formers e x =
    subst (λ (l : List (Option Contents)). ClaimsSpans runs shows l loose pages k frames formers) e x

-- what was claimed are objects of candidates
pub among_spans : (far : FarState) (loose : List ℕ) → All (Contains (candidates far)) loose → (h : ℕ)
    → IsIn far.spans loose h → IsIn far.spans (candidates far) h
among_spans far loose among h (f, c, named) =
    (f, All-contains (Contains (candidates far)) loose f among c, named)

-- what the claims tried
pub claims_tried : (far : FarState) {loose frames : List ℕ} {formers : List Former} {pages k : ℕ}
    {runs : List Access → Type 0} {shows : Shown → Type 0}
    → (x : ClaimsSpans runs shows far.spans loose pages k frames formers)
    → ClaimsThese runs shows (IsIn far.spans (loose_of far.spans pages loose)) (λ p. ⊥)
    (AreLostSince far loose pages x.lost) formers
claims_tried far {loose = loose} {pages = pages} x =
    part_more (IsIn far.spans (loose_of far.spans pages loose)) (λ p. ⊥) _ x.part (λ h y. y) (λ p y. y) (
      λ before was same had.
          x.part.done.0 before (candidates far) was (candidates_apart far) same had,
      x.part.done.1,
    )

-- where fewer are claimed than wanted, no other one is left
pub fewer_left : (far : FarState) {loose frames : List ℕ} {formers : List Former} {pages k : ℕ}
    {runs : List Access → Type 0} {shows : Shown → Type 0}
    → (x : ClaimsSpans runs shows far.spans loose pages k frames formers) → length frames < k
    → loose_of far.spans pages (without x.lost loose) ≡ frames
fewer_left far {frames = frames} {k = k} x few =
    x.chosen ∙ ap (λ (l : List ℕ). frames ++ l) (none x.stops) ∙ append-nil frames
  where
    none : (length frames ≡ k) ⊎ (x.rest ≡ []) → x.rest ≡ []
    none (inl e) = absurd (omega (arith, e, few))
    none (inr e) = e

-- and they are given back
pub back_tried : (far : FarState) {loose frames : List ℕ} {formers : List Former} {pages k : ℕ}
    {runsA runsB runsC : List Access → Type 0} {showsA showsB : Shown → Type 0}
    → Joins runsA runsB runsC showsA showsB
    → (x : ClaimsSpans runsA showsA far.spans loose pages k frames formers)
    → GivesBack runsB showsB formers
    → ClaimsThese runsC showsA (IsIn far.spans (loose_of far.spans pages loose)) (λ p. ⊥)
    (AreLostSince far loose pages x.lost) []
back_tried far {loose = loose} {frames = frames} {formers = formers} {pages = pages} {k = k}
    {runsA = runsA} {runsB = runsB} {runsC = runsC} {showsA = showsA} {showsB = showsB} j x y =
    let es = x.part.events in let fs = y.events in
    let g = gathers_back runsA runsB runsC showsA showsB
    (IsIn far.spans (loose_of far.spans pages loose)) (IsIn far.spans frames) es formers (record {
      ran = x.part.ran;
      touches = x.part.touches;
      first = x.part.first;
      of = x.of;
      within = λ h (f, c, named).
          (f, chosen_in far.spans loose pages k frames formers x f c, named);
      each_once = x.each_once;
      claims = x.part.done.1;
    }) y j in record {
      events = es ++ fs;
      ran = g.ran;
      touches = g.touches;
      first = g.first;
      done = (
        λ before was same had.
            subst (AreLooseNow far (without x.lost was)) (append_assoc before es fs)
            (all_quiet (before ++ es) fs far.spans (candidates far) (without x.lost was)
            (λ f c h named. y.done.0 h)
            (x.part.done.0 before (candidates far) was (candidates_apart far) same had)),
        g.claims,
      );
    }

-- what claims nothing is so of a list that is empty
pub claims_none : {runs : List Access → Type 0} {shows : Shown → Type 0} {objects words : ℕ → Type 0}
    {finds : List Access → Type 0} (formers : List Former) → formers ≡ []
    → ClaimsThese runs shows objects words finds [] → ClaimsThese runs shows objects words finds formers
claims_none {runs = runs} {shows = shows} {objects = objects} {words = words} {finds = finds} formers e x =
    subst (λ (l : List Former). ClaimsThese runs shows objects words finds l) (sym e) x

-- where none is tried none is lost
pub nothing_lost : (far : FarState) (loose : List ℕ) (pages : ℕ) {runs : List Access → Type 0}
    {shows : Shown → Type 0} → runs []
    → ClaimsThese runs shows (IsIn far.spans (loose_of far.spans pages loose)) (λ p. ⊥)
    (AreLostSince far loose pages (λ f. false)) []
nothing_lost far loose pages ran = record {
  events = [];
  ran = ran;
  touches = tt;
  first = tt;
  done = (
    λ before was same had.
        subst (λ (l : List ℕ). AreLooseNow far l (before ++ []))
        (sym (filter_all (λ f. true) was (λ f c. refl)))
        (subst (AreLooseNow far was) (sym (append-nil before)) had),
    λ at s knows here. claims_nothing at s [] tt here,
  );
}

-- ---- the claims, and then an end
-- after the claims all is ready
pub tried_ready : (far : FarState) (formers : List Former) (finds : List Access → Type 0)
    {runs : List Access → Type 0} {shows showsB : Shown → Type 0}
    → (x : TriesSpans runs shows far finds formers) → (s : Shown) → showsB (played x.events s)
    → shows s → Sound s far → IsReadyToEvict showsB far formers x.events s
tried_ready far formers finds x s shown knows sound =
    let a = x.done.1 far s knows sound.here in record {
      shown = shown;
      sound = sound;
      claimed = a.0;
      here = a.1;
      steady = a.2;
      touches = x.touches;
    }

module _ {runsA runsB runsC : List Access → Type 0} {showsA showsB : Shown → Type 0}
    {far new : FarState} {frames : List ℕ} {formers : List Former}
    {ends : List Access → Type 0} {does : List Access → Shown → Shown → Type 0}
    (j : Joins runsA runsB runsC showsA showsB)
    (x : TakesEnough runsA showsA far (AreLooseNow far) frames formers)
    (y : EndsClaimed runsB showsB far new frames formers ends does) where
  -- what is known of all events in the end
  pub ended_from : (s : Shown) → showsA s → Sound s far
      → IsEnded new x.tries.events y.events s ends does
  ended_from s knows sound = y.done.1 x.tries.events s
      (tried_ready far formers (AreLooseNow far x.loose) x.tries s (j.shown x.tries.events s x.tries.ran knows) knows sound)

  -- both parts are one, by which the spans that were loose are so in the end
  abbrev pub all_tried : CallPart runsC (IsIn far.spans (candidates far)) (LiesInOne far.spans (candidates far))
      (AreLooseNow far x.loose)
  all_tried = part_then (IsIn far.spans (candidates far)) (LiesInOne far.spans (candidates far))
      (AreLooseNow far x.loose) j x.tries y (λ h z. z) (λ p z. z) (among_spans far frames x.taken.among)
      (λ p (f, e, lies). (f, All-contains (Contains (candidates far)) frames f x.taken.among e, lies))
      (inr (λ h z. y.done.0 h))
      (all_quiet x.tries.events y.events far.spans (candidates far) x.loose
      (λ f e h named. y.done.0 h) x.tries.done.0)

  pub tried_end : (rule : List Access → Type 0) (effect : List Access → Shown → Shown → Type 0)
      → rule all_tried.events
      → ((s t : Shown) → does all_tried.events s t → effect all_tried.events s t)
      → Performs runsC (λ s. showsA s × Sound s far) rule (λ t. Sound t new) effect
  tried_end rule effect meets moves = record {
    events = all_tried.events;
    ran = all_tried.ran;
    looks_first = all_tried.first;
    rule = meets;
    allowed = λ s k. allowed_append x.tries.events y.events s
        (x.tries.done.1 far s k.0 k.1.here).2.allowed (ended_from s k.0 k.1).allowed;
    sound_after = λ s k. (ended_from s k.0 k.1).sound;
    effect = λ s k. moves s (played all_tried.events s) (ended_from s k.0 k.1).effect;
  }

-- k spans were claimed and are evicted
pub takes_evict : {runsA runsB runsC : List Access → Type 0} {showsA showsB : Shown → Type 0}
    {far new : FarState} {frames : List ℕ} {formers : List Former} (e : Eviction)
    → Joins runsA runsB runsC showsA showsB
    → TakesEnough runsA showsA far (AreLooseNow far) frames formers
    → EvictsClaimed runsB showsB far new frames formers
    → e ≡ eviction.Set (record { n = far.counts.sets }) → (s : Shown) × showsA s × Sound s far
    → Performs runsC (λ s. showsA s × Sound s far) (CountsRule far new e) (λ t. Sound t new)
    (EvictEffect far new (reply_of e))
takes_evict {far = far} {new = new} e j x y is (s, knows, sound) =
    let all = all_tried j x y in let id : SetId = record { n = far.counts.sets } in
    tried_end j x y (CountsRule far new e) (EvictEffect far new (reply_of e))
    (set_counted far new id e all.events is (record {
      loose = x.loose;
      found = all.done;
      answered = inr (inr (record {
        pages = x.pages;
        longest = x.longest;
        room = x.room;
        reply = ap reply_of is;
        evicted = subst (λ (l : List ℕ). HasEvicted far new l all.events) x.first
            (ended_from j x y s knows sound).rule;
      }));
      touches = all.touches;
    }))
    (λ a b. set_effect far new id (reply_of e) all.events a b (ap reply_of is))

-- k spans were claimed and are given back for want of memory
pub takes_fail : {runsA runsB runsC : List Access → Type 0} {showsA showsB : Shown → Type 0}
    {far : FarState} {frames : List ℕ} {formers : List Former}
    → Joins runsA runsB runsC showsA showsB
    → TakesEnough runsA showsA far (AreLooseNow far) frames formers
    → LeavesClaimed runsB showsB far frames formers
    → Performs runsC (λ s. showsA s × Sound s far) (TouchesSpans far) (λ t. Sound t far) IsStill
takes_fail {far = far} j x y =
    tried_end j x y (TouchesSpans far) IsStill (all_tried j x y).touches (λ s t a. a)
