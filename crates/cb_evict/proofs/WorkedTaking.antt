-- The front of an eviction and of a begin: of two spans the second is held up by a pin, and the
-- first is claimed.
use Rattle.std.proofs.Common.{◌≡◌, ◌⊎◌, ℕ, ◌<◌, ◌≤◌, Bool, true, false, zero, suc, List, [], ◌∷◌, length, None, refl, sym, ap, ◌∙◌, subst, lit<, lit≤, arith, inl, inr}
use Rattle.std.specs.FinMap as map
use Rattle.std.proofs.lemmas.Bool.{false≢true}
use Rattle.cb_class.specs.Class.{pages_of}
use Rattle.std.specs.List.{Contains}
use Rattle.std.proofs.lemmas.List.Elements.{All-nil, All-cons}
use Rattle.cb_types.specs.declared.reply.Reply.TheVariants as answer
use Rattle.cb_world.specs.declared.access.Access.{Access}
use Rattle.cb_world.specs.declared.access.Access.TheVariants.{Looked, Claimed, Settled, Stored}
use Rattle.cb_world.specs.declared.leaving.Former.{Former}
use Rattle.cb_world.specs.declared.object.Object.TheVariants as is
use Rattle.cb_world.specs.declared.shown.Shown.{Shown}
use Rattle.cb_world.specs.FarState.{FarState}
use Rattle.cb_world.specs.Grasped.{IsFree}
use Rattle.cb_world.specs.Leaving.{ParitiesState, made_of}
use Rattle.cb_world.specs.LocalSound.{LocalSound}
use Rattle.cb_world.specs.Looks.{IsFound, LooksFirst, NoLook}
use Rattle.cb_world.specs.Played.{played}
use Rattle.cb_world.specs.Shown.{object_at}
use Rattle.cb_evict.specs.declared.eviction.Eviction.TheVariants.{Refused}
use Rattle.cb_evict.specs.declared.eviction.Lack.TheVariants.{Spans}
use Rattle.cb_evict.specs.CallPart.{CallPart, LooksAt, Settles}
use Rattle.cb_evict.specs.Candidates.{candidates, IsBarred, IsLoose, IsHeldUp}
use Rattle.cb_evict.specs.Claims.{AreClaimed}
use Rattle.cb_evict.specs.Events.{OnlyLooks}
use Rattle.cb_evict.specs.EvictRule.{HasFewSpans, HasFewNodes}
use Rattle.cb_evict.specs.Beginning.{ReservesFrames}
use Rattle.cb_evict.specs.Evicting.{AreSpansTaken, ReadsSpans, StoresFrames, TouchesSpans}
use Rattle.cb_evict.specs.declared.lengths.LengthCounts.{LengthCounts}
use Rattle.cb_evict.specs.Finding.{FindsLoose}
use Rattle.cb_evict.specs.Lengths.{batch_pages, has_pages, loose_of, most_loose}
use Rattle.cb_evict.specs.Loading.{LiesInOne, OnlyLoads}
use Rattle.cb_evict.specs.Looking.{LooksOver}
use Rattle.cb_evict.specs.Taking.{AreLooseNow, ClaimsAll, ClaimsFewer, ClaimsLength, TriesSpans, TakesEnough, TakesFew}
use Rattle.cb_evict.proofs.BeginSound.{reserved_kept}
use Rattle.cb_evict.proofs.Composed.{looks_tried, nothing_lost}
use Rattle.cb_evict.proofs.LooseLengths.{count_within, filter_in, longest_enough, none_fewer}
use Rattle.cb_evict.proofs.Loose.{held_alone}
use Rattle.cb_evict.proofs.Trying.{taken_of}
use Rattle.cb_evict.proofs.Options.{none_some}
use Rattle.cb_evict.proofs.SmallWorlds.{calm, first_object, heads, lone, one_long, one_node, one_page, only_first, only_second, pair, pinned, two_nodes}
use Rattle.cb_evict.proofs.WorkedBegin.{former, of_first}

not_one : (n : ℕ) → suc n ≡ 0 → ⊥
not_one n e = omega (arith, e)

-- ---- looks
-- the looks at both spans find the first one loose
abbrev looks : List Access
looks = Looked 0 calm ∷ Looked 1 pinned ∷ []

first_loose : IsLoose looks pair.spans 0
first_loose h named = (
  calm,
  subst (λ (k : ℕ). IsFound k calm looks) (only_first h named)
      (inr ((refl, refl), ((λ w look. not_one 0 look.0), tt))),
  (refl, refl),
)

second_held : IsHeldUp looks pair.spans 1
second_held = held_alone pair.spans 1 looks 1 pinned only_second (1, refl)
    (inl (inr ((refl, refl), tt))) (λ free. let e : 1 ≡ 0 = free.1 in omega (arith, e))

over_both : LooksOver (λ es. es ≡ looks) pair.spans (candidates pair) (0 ∷ [])
over_both = record {
  events = looks;
  ran = refl;
  touches = (
    (0, (0, lit< tt, refl), (1, refl)),
    ((1, (1, lit< tt, refl), (1, refl)), tt),
  );
  first = tt;
  done = (tt, inr (first_loose, refl, (second_held, tt)));
}

abbrev one_short : LengthCounts
one_short = record { fours = 0; twos = 0; ones = 1 }

finds_first : FindsLoose (λ es. es ≡ looks) pair (0 ∷ []) one_short 2
unfolding pages_of batch_pages
finds_first = record {
  looks = over_both;
  counted = record { fours = refl; twos = refl; ones = refl };
  enough = refl;
  room = omega (arith, two_nodes);
  nodes = sym two_nodes;
}

-- the spans of each length are counted
not_other_length : (runs : List Access → Type 0)
    → FindsLoose runs pair (0 ∷ []) (record { fours = 1; twos = 0; ones = 0 }) 2 → ⊥
unfolding pages_of
not_other_length runs a = let e : 1 ≡ 0 = a.counted.fours in omega (arith, e)

-- the nodes are counted
not_other_nodes : (runs : List Access → Type 0) → FindsLoose runs pair (0 ∷ []) one_short 3 → ⊥
not_other_nodes runs a = let e = a.nodes in absurd (omega (arith, e, two_nodes))

-- too few spans, and then too few nodes, are a refusal
not_enough : (runs : List Access → Type 0) (n : ℕ) (counts : LengthCounts)
    → FindsLoose runs pair [] counts n → ⊥
unfolding batch_pages
not_enough runs n counts a = false≢true a.enough

not_with_room : (runs : List Access → Type 0) (n : ℕ) (counts : LengthCounts)
    → FindsLoose runs lone (0 ∷ []) counts n → ⊥
not_with_room runs n counts a = let l = a.room in absurd (omega (arith, l, one_node))

-- the same where sets of two data positions are in force
abbrev paired : FarState
paired = record pair { code = record { k = 2; r = 1 } }

few : (shows : Shown → Type 0) → TakesFew (λ es. es ≡ looks) shows paired (AreLooseNow paired)
    (Refused Spans 1 2)
unfolding pages_of batch_pages most_loose
few shows = record {
  loose = 0 ∷ [];
  tries = looks_tried paired (0 ∷ []) over_both;
  few = inl (record { few = refl; reply = refl; state = refl });
  counts = (refl, sym two_nodes);
}

-- a refusal has its own count
not_its_count : (runs : List Access → Type 0) (shows : Shown → Type 0)
    → TakesFew runs shows pair (AreLooseNow pair) (Refused Spans 1 2) → ⊥
not_its_count runs shows a = by a.few
  where
    count_is : (n m : ℕ) → answer.NoSpans n ≡ answer.NoSpans m → n ≡ m
    count_is n m e = cc

    spans_nodes : (n m : ℕ) → answer.NoSpans n ≡ answer.NoNodes m → ⊥
    spans_nodes n m e = cc

    by : HasFewSpans pair pair (answer.NoSpans 1) a.loose
        ⊎ HasFewNodes pair pair (answer.NoSpans 1) a.loose → ⊥
    by (inl x) = let l = none_fewer 1 pair.spans a.loose x.few in
        let e = count_is 1 (most_loose pair.spans a.loose) x.reply in omega (arith, l, e)
    by (inr x) = spans_nodes 1 _ x.reply

-- and the other one beside it, as it is and not another
not_other_count : (runs : List Access → Type 0) (shows : Shown → Type 0)
    → TakesFew runs shows paired (AreLooseNow paired) (Refused Spans 1 1) → ⊥
not_other_count runs shows a = let e = a.counts.1 in absurd (omega (arith, e, two_nodes))

-- ---- looks, and the claim of the first span
abbrev tried : List Access
tried = Looked 0 calm ∷ Looked 1 pinned ∷ Claimed 0 calm 3 (0 ∷ []) ∷ []

-- a claim is no look
not_only_looks : (objects : ℕ → Type 0) (finds : List Access → Type 0)
    → LooksAt (λ es. es ≡ tried) objects finds → ⊥
not_only_looks objects finds a = subst OnlyLooks a.ran a.done.0

-- what the desk did not run is no part of a call
not_run : (objects words : ℕ → Type 0) (so : List Access → Type 0)
    → CallPart (λ es. ⊥) objects words so → ⊥
not_run objects words so a = a.ran

-- an object is settled, and none is looked at
settles : Settles (λ es. es ≡ Settled 0 calm ∷ []) (λ h. h ≡ 0) (λ p. ⊥) (λ es. Unit {0})
settles = record {
  events = Settled 0 calm ∷ [];
  ran = refl;
  touches = (refl, tt);
  first = (tt, tt);
  done = (λ k. ((λ w look. look), tt), tt);
}

not_quiet : (objects words : ℕ → Type 0) (so : List Access → Type 0)
    → Settles (λ es. es ≡ looks) objects words so → ⊥
not_quiet objects words so a =
    (subst (λ (es : List Access). NoLook 0 es) a.ran (a.done.0 0)).0 calm (refl, refl)

still_loose : IsLoose tried pair.spans 0
still_loose h named = (
  calm,
  subst (λ (k : ℕ). IsFound k calm tried) (only_first h named) (inl (inl (inr ((refl, refl), tt)))),
  (refl, refl),
)

still_held : IsHeldUp tried pair.spans 1
still_held = held_alone pair.spans 1 tried 1 pinned only_second (1, refl)
    (inl (inr ((refl, refl), ((λ w look. not_one 0 (sym look.0)), tt))))
    (λ free. let e : 1 ≡ 0 = free.1 in omega (arith, e))

-- over a desk of which nothing is known
tries : TriesSpans (λ es. es ≡ tried) (λ s. ⊥) pair (AreLooseNow pair (0 ∷ [])) (former ∷ [])
tries = record {
  events = tried;
  ran = refl;
  first = (tt, tt);
  touches = (
    (0, (0, lit< tt, refl), (1, refl)),
    (
      (1, (1, lit< tt, refl), (1, refl)),
      (
        (0, (0, lit< tt, refl), (1, refl)),
        tt,
      ),
    ),
  );
  done = (inr (still_loose, refl, (still_held, tt)), λ far s none here. absurd none);
}

taken_first : AreSpansTaken pair (0 ∷ []) (former ∷ [])
taken_first = record {
  count = refl;
  among = All-cons (Contains (candidates pair)) 0 [] (0, lit< tt, refl)
      (All-nil (Contains (candidates pair)));
  apart = λ i j d less within. absurd (omega (arith, less, within));
  pages = 1;
  long = one_long;
  of = of_first;
  order = refl;
  each_once = λ i j d less within. absurd (omega (arith, less, within));
}

enough : TakesEnough (λ es. es ≡ tried) (λ s. ⊥) pair (AreLooseNow pair) (0 ∷ [])
    (former ∷ [])
unfolding pages_of batch_pages
enough = record {
  loose = 0 ∷ [];
  tries = tries;
  pages = 1;
  longest = refl;
  first = refl;
  room = omega (arith, two_nodes);
  taken = taken_first;
}

-- an object is not looked at again once it is claimed
not_after : (shows : Shown → Type 0) (finds : List Access → Type 0) (formers : List Former)
    → TriesSpans (λ es. es ≡ Claimed 0 calm 3 (0 ∷ []) ∷ Looked 0 calm ∷ []) shows pair finds
    formers → ⊥
not_after shows finds formers a = let x = subst LooksFirst a.ran a.first in x.0.0 calm (refl, refl)

-- nothing is stored
not_stored : (shows : Shown → Type 0) (finds : List Access → Type 0) (formers : List Former)
    → TriesSpans (λ es. es ≡ Stored 0 1 ∷ []) shows pair finds formers → ⊥
not_stored shows finds formers a = subst (TouchesSpans pair) a.ran a.touches

-- a span that was found loose is one of the loose ones
not_passed_over : (shows : Shown → Type 0) (formers : List Former)
    → TriesSpans (λ es. es ≡ looks) shows pair (AreLooseNow pair []) formers → ⊥
not_passed_over shows formers a = by (subst (AreLooseNow pair []) a.ran a.done.0).0.barred
  where
    found_calm : (w : ℕ) → IsFound 0 w looks → calm ≡ w
    found_calm w (inl (inl e)) = absurd e
    found_calm w (inl (inr x)) = absurd (not_one 0 x.0.0)
    found_calm w (inr x) = x.0.1

    by : IsBarred looks pair.spans 0 → ⊥
    by (h, w, named, found, held) = held (subst IsFree
        (found_calm w (subst (λ (k : ℕ). IsFound k w looks) (sym (only_first h named)) found))
        (refl, refl))

-- looks claim no object
not_claimed : (s : Shown) (shows : Shown → Type 0) (finds : List Access → Type 0) → shows s
    → LocalSound s pair → object_at s 0 ≡ is.Here 8 0
    → TriesSpans (λ es. es ≡ looks) shows pair finds (former ∷ []) → ⊥
not_claimed s shows finds known sound was a =
    let c = subst (λ (es : List Access). AreClaimed es s (played es s) (former ∷ [])) a.ran
    (a.done.1 pair s known sound).0 in
    let x = (c.taken 0 former (lit< tt)).at in differ 8 0 x.version x.words (sym was ∙ x.object)
  where
    differ : (len place v : ℕ) (xs : List ℕ) → is.Here 8 0 ≡ is.Claimed len place v xs → ⊥
    differ len place v xs e = cc

-- ---- the claims of one length
-- where two spans are wanted the one is not claimed, and it is counted
fewer : (shows : Shown → Type 0)
    → ClaimsLength (λ es. es ≡ []) shows paired (0 ∷ []) 1 1 [] []
unfolding pages_of
fewer shows = record {
  lost = λ f. false;
  long = λ f e. absurd (false≢true e);
  tries = nothing_lost paired (0 ∷ []) 1 refl;
  came = inl (record { few = lit< tt; counted = refl; none = (refl, refl) });
}

-- no span has two pages, and none is lost that could be claimed
none_of_two : (shows : Shown → Type 0)
    → ClaimsLength (λ es. es ≡ []) shows pair (0 ∷ []) 2 0 [] []
unfolding pages_of
none_of_two shows = record {
  lost = λ f. false;
  long = λ f e. absurd (false≢true e);
  tries = nothing_lost pair (0 ∷ []) 2 refl;
  came = inl (record { few = lit< tt; counted = refl; none = (refl, refl) });
}

-- a span of another length is not lost
not_lost : (runs : List Access → Type 0) (shows : Shown → Type 0) (count : ℕ) (frames : List ℕ)
    (formers : List Former)
    → (a : ClaimsLength runs shows pair (0 ∷ []) 2 count frames formers) → a.lost 0 ≡ true → ⊥
not_lost runs shows count frames formers a is =
    let e = a.long 0 is in let one = one_page in omega (arith, e, one)

-- where one is wanted and there, it is claimed
not_fewer : ClaimsFewer pair (0 ∷ []) 1 1 [] [] → ⊥
not_fewer a = let l : 1 < 1 = a.few in absurd (omega (arith, l))

not_uncounted : ClaimsFewer paired (0 ∷ []) 1 0 [] [] → ⊥
unfolding pages_of
not_uncounted a = let e : 0 ≡ 1 = a.counted in absurd (omega (arith, e))

not_kept : ClaimsFewer paired (0 ∷ []) 1 1 (0 ∷ []) (former ∷ []) → ⊥
not_kept a = let e : 1 ≡ 0 = ap (λ (l : List ℕ). length l) a.none.0 in absurd (omega (arith, e))

claims_all : ClaimsAll pair (0 ∷ []) 1 1 (0 ∷ []) (former ∷ [])
unfolding pages_of
claims_all = record { all = refl; enough = lit≤ tt; first = refl; taken = taken_first }

not_so_many : ClaimsAll pair (0 ∷ []) 1 2 (0 ∷ []) (former ∷ []) → ⊥
not_so_many a = let e : 2 ≡ 1 = a.all in absurd (omega (arith, e))

not_of_two : ClaimsAll pair (0 ∷ []) 2 1 (0 ∷ []) (former ∷ []) → ⊥
unfolding pages_of
not_of_two a = let l : 1 ≤ 0 = a.enough in absurd (omega (arith, l))

not_another : ClaimsAll pair (0 ∷ []) 1 1 (1 ∷ []) (former ∷ []) → ⊥
unfolding pages_of
not_another a = not_one 0 (heads 1 0 a.first)

-- none of a list is too few
not_of_none : (runs : List Access → Type 0) (shows : Shown → Type 0) (frames : List ℕ)
    (formers : List Former)
    → TakesEnough runs shows pair (λ l es. l ≡ []) frames formers → ⊥
not_of_none runs shows frames formers a =
    let l = longest_enough 1 pair.spans a.loose a.pages a.longest in
    let within = count_within pair.spans a.pages a.loose in
    let e = ap (λ (l : List ℕ). length l) a.tries.done.0 in omega (arith, l, within, e)

-- the first loose span goes
not_the_other : (runs : List Access → Type 0) (shows : Shown → Type 0) (formers : List Former)
    → TakesEnough runs shows pair (λ l es. l ≡ 0 ∷ []) (1 ∷ []) formers → ⊥
not_the_other runs shows formers a =
    first_one (subst (λ (l : List ℕ). Contains l 1) a.tries.done.0
    (filter_in (has_pages pair.spans a.pages) a.loose 1
    (taken_of (loose_of pair.spans a.pages a.loose) 1 1
    (subst (λ (l : List ℕ). Contains l 1) a.first (0, lit< tt, refl)))))
  where
    first_one : Contains {X = ℕ} (0 ∷ []) 1 → ⊥
    first_one (zero, l, e) = not_one 0 (sym e)
    first_one (suc k, l, e) = absurd (omega (arith, l))

-- one node is too few for two rows
not_on_one : (runs : List Access → Type 0) (shows : Shown → Type 0)
    (finds : List ℕ → List Access → Type 0) (frames : List ℕ) (formers : List Former)
    → TakesEnough runs shows lone finds frames formers → ⊥
not_on_one runs shows finds frames formers a = let l = a.room in omega (arith, l, one_node)

-- each object of the span is noted
not_without : (runs : List Access → Type 0) (shows : Shown → Type 0)
    (finds : List ℕ → List Access → Type 0)
    → TakesEnough runs shows pair finds (0 ∷ []) [] → ⊥
not_without runs shows finds a =
    let x = a.taken.of.all 0 first_object in let l = x.1.1 in omega (arith, l)

-- ---- the frames are read, and stored or reserved
nothing_read : ReadsSpans (λ es. es ≡ []) pair.spans (0 ∷ [])
nothing_read = ([], refl, tt)

-- and nothing else is done
not_looked_at : ReadsSpans (λ es. es ≡ looks) pair.spans (0 ∷ []) → ⊥
not_looked_at a = subst (OnlyLoads (LiesInOne pair.spans (0 ∷ []))) a.1 a.2

-- a set is stored
not_unstored : (runs : List Access → Type 0) (shows : Shown → Type 0)
    → StoresFrames runs shows pair pair 1 (0 ∷ []) → ⊥
not_unstored runs shows a =
    let e : 0 ≡ 1 = ap (λ (far : FarState). far.counts.sets) a.kept.state in omega (arith, e)

-- with a row for each frame
not_two_rows : (runs : List Access → Type 0) (shows : Shown → Type 0) (new : FarState)
    → (a : StoresFrames runs shows pair new 1 (0 ∷ [])) → length a.rows ≡ 2 → ⊥
not_two_rows runs shows new a two = let e = a.count in omega (arith, e, two)

-- the set is kept that the spans will be
not_unkept : (runs : List Access → Type 0) (shows : Shown → Type 0) (made : Bool)
    (rows : List (List ℕ)) (p : ParitiesState)
    → ReservesFrames runs shows pair pair 1 (0 ∷ []) made rows p → ⊥
not_unkept runs shows made rows p a =
    let none : map.get pair.sets 0 ≡ None = grind (arith, map.gets) in
    none_some _ (sym none ∙ ap (λ (far : FarState). map.get far.sets 0) a.state
    ∙ reserved_kept pair.sets 0 _)

-- with as many parities as the code has
not_unparted : (runs : List Access → Type 0) (shows : Shown → Type 0) (new : FarState)
    (made : Bool) (rows : List (List ℕ))
    → ReservesFrames runs shows pair new 1 (0 ∷ []) made rows (made_of []) → ⊥
not_unparted runs shows new made rows a =
    let e : 0 ≡ 1 = a.ready.count in omega (arith, e)

-- made, or not
not_unmade : (runs : List Access → Type 0) (shows : Shown → Type 0) (new : FarState)
    (rows parities : List (List ℕ))
    → ReservesFrames runs shows pair new 1 (0 ∷ []) false rows (made_of parities) → ⊥
not_unmade runs shows new rows parities a = false≢true (sym a.ready.mark)
