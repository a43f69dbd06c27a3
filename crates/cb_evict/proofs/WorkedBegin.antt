-- Worked examples of a begin: the loose one of two spans is leaving from here; and for each part of
-- what is said of it a value that breaks that part alone.
use Rattle.std.proofs.Common.{◌≡◌, ℕ, zero, suc, ◌+◌, ◌*◌, Bool, true, false, List, [], ◌∷◌, ◌++◌, length, All, get_or, Option, None, Some, refl, sym, ap, ◌∙◌, subst, lit<, arith, inl, inr}
use Rattle.std.specs.FinMap as map
use Rattle.std.proofs.lemmas.Bool.{false≢true}
use Rattle.std.proofs.lemmas.List.Elements.{All-nil, All-cons}
use Rattle.cb_class.specs.Class.{pages_of}
use Rattle.cb_ptr.specs.Steps.{Claims}
use Rattle.cb_ptr.proofs.Laws.{claims}
use Rattle.cb_types.specs.declared.config.Config.{Config}
use Rattle.cb_types.specs.declared.handle.SetId.{SetId}
use Rattle.cb_types.specs.declared.reply.Reply.{Reply}
use Rattle.cb_types.specs.declared.reply.Reply.TheVariants as answer
use Rattle.cb_world.specs.declared.entry.Entry.{Entry}
use Rattle.cb_world.specs.declared.access.Access.{Access}
use Rattle.cb_world.specs.declared.access.Access.TheVariants.{Looked, Claimed, Settled}
use Rattle.cb_world.specs.declared.leaving.Former.{Former}
use Rattle.cb_member.specs.Membership.{with_crash}
use Rattle.cb_set.specs.SetState.{SetState, filled_position, set_of}
use Rattle.cb_span.specs.Contents.{Contents, handle_at, span_of}
use Rattle.cb_span.specs.declared.temp.Temp.TheVariants.{Cold, Hot}
use Rattle.cb_world.specs.declared.object.Object.{Object}
use Rattle.cb_world.specs.declared.object.Object.TheVariants as is
use Rattle.cb_world.specs.declared.shown.Shown.{Shown}
use Rattle.cb_world.specs.FarState.{FarState, span_in}
use Rattle.cb_world.specs.Now.{broken_set, now, now_as}
use Rattle.cb_world.specs.Now.Now.{held as has, gone as is_lost}
use Rattle.cb_world.specs.Reserved.{set_from}
use Rattle.cb_world.specs.Shown.{object_at, never}
use Rattle.cb_world.specs.Leaving.{LeavingState}
use Rattle.cb_world.specs.Looks.{IsFound, IsTaken, told_by}
use Rattle.cb_world.specs.Choices.{numbered}
use Rattle.cb_world.specs.Memory.{window, put, bytes_in}
use Rattle.cb_world.specs.Plain.{Words}
use Rattle.cb_world.specs.Sets.{set_in, if_committed}
use Rattle.cb_world.specs.SetWord.{IsSpanWord}
use Rattle.cb_world.specs.World.{word_at}
use Rattle.cb_evict.specs.Lengths.{batch_pages}
use Rattle.cb_evict.specs.BeginEffect.{IsClaimedThere, IsBatchBegun, BeginEffect}
use Rattle.cb_evict.specs.BeginRule.{blank_shards, new_batch, with_batch, HasBegun as Begun, IsLeavingAlready, HasBatch as Batch, HasLooked as Looks, BeginRule, no_parities}
use Rattle.cb_evict.specs.Beginning.{AreParities}
use Rattle.cb_evict.specs.EvictRule.{IsInRow, AreInRows}
use Rattle.cb_evict.proofs.BeginSound.{reserved_kept}
use Rattle.cb_evict.proofs.NewSet.{set_added_in}
use Rattle.cb_evict.specs.declared.gathering.Gathered.{Gathered}
use Rattle.cb_evict.specs.declared.gathering.Gathered.TheVariants as gathered
use Rattle.cb_evict.specs.Gathering.{HandsOut, IsGatherStep, gathered_order, gathered_reply, order_for}
use Rattle.cb_types.specs.declared.order.Kept.{Kept as Order}
use Rattle.cb_types.specs.declared.order.Kept.TheVariants.{Encode}
use Rattle.cb_evict.specs.BeginStep.{frame_rows, AreSpansClaimed, IsBegunTo as BegunTo, IsBatchMade as BatchMade, IsBeginStep, is_leaving, few_spans, few_nodes, begins}
use Rattle.cb_evict.specs.Claims.{AreApart}
use Rattle.cb_evict.specs.Order.{noted_of, objects_of}
use Rattle.cb_evict.specs.Claiming.{AreOf}
use Rattle.cb_evict.specs.Looking.{IsIn}
use Rattle.cb_evict.proofs.BeginParts.{leaving_batch, spans_batch}
use Rattle.cb_evict.proofs.Options.{none_some, some_none, some_same}
use Rattle.cb_evict.proofs.SmallWorlds.{busy, calm, desk, first_object, is_word, lone, moving, one_long, one_node, one_page, only_object, pair, pinned, row, row_words, settings, span_with, two_nodes, zero_row}

-- a begin makes the parities
abbrev pub IsBegunTo : Words → Words → FarState → FarState → List ℕ → Type 0
IsBegunTo x y far new frames = BegunTo x y far new true frames

abbrev pub IsBatchMade : Words → Words → FarState → FarState → Reply → Type 0
IsBatchMade x y far new r = BatchMade x y far new true (λ rows. Unit {0}) r

abbrev pub HasBegun : FarState → FarState → List ℕ → List Access → Type 0
HasBegun far new frames es = Begun far new true frames es

abbrev HasBatch : FarState → FarState → Reply → List ℕ → List Access → Type 0
HasBatch far new r loose es = Batch far new true (λ rows. Unit {0}) r loose es

abbrev HasLooked : FarState → FarState → Reply → List Access → Type 0
HasLooked far new r es = Looks far new true (λ rows. Unit {0}) r es

-- ---- words of objects that are claimed
-- the first object is here, the other one pinned; all memory words are 0
abbrev start : Words
start = record (desk (calm ∷ pinned ∷ [])) { memory = [] }

abbrev claimed : Words
claimed = record start { words = moving ∷ pinned ∷ [] }

held : AreSpansClaimed start claimed pair (0 ∷ [])
held = record {
  changed = λ h i. subst (λ (k : ℕ). Claims (word_at start k) (word_at claimed k))
      (only_object h i) (claims calm refl refl);
  others = λ h out. other h out;
  count = refl;
  settings = refl;
  versions = refl;
  memory = refl;
}
  where
    other : (h : ℕ) → ¬ (IsIn pair.spans (0 ∷ []) h) → word_at claimed h ≡ word_at start h
    other zero out = absurd (out first_object)
    other (suc h) out = refl

-- the object's word is Moving
not_here : AreSpansClaimed start start pair (0 ∷ []) → ⊥
not_here a = let e : calm ≡ calm + 1 = (a.changed 0 first_object).number in absurd (omega (arith, e))

-- another object's word stays
not_unpinned : AreSpansClaimed start (record start { words = moving ∷ calm ∷ [] }) pair (0 ∷ []) → ⊥
not_unpinned a =
    let e : calm ≡ pinned = a.others 1 (λ i. let z = only_object 1 i in omega (arith, z)) in
    absurd (omega (arith, e))

not_more : AreSpansClaimed start (record start { words = moving ∷ pinned ∷ 0 ∷ [] }) pair (0 ∷ [])
    → ⊥
not_more a = let e : 3 ≡ 2 = a.count in absurd (omega (arith, e))

not_other_settings : AreSpansClaimed start (record claimed { settings = record settings { k = 2 } })
    pair
    (0 ∷ []) → ⊥
not_other_settings a =
    let e : 2 ≡ 1 = ap (λ (c : Config). c.k) a.settings in absurd (omega (arith, e))

not_other_versions : AreSpansClaimed start (record claimed { versions = [] }) pair (0 ∷ []) → ⊥
not_other_versions a =
    let e : 0 ≡ 4 = ap (λ (l : List ℕ). length l) a.versions in absurd (omega (arith, e))

not_other_memory : AreSpansClaimed start (record claimed { memory = 7 ∷ [] }) pair (0 ∷ []) → ⊥
not_other_memory a =
    let e : 1 ≡ 0 = ap (λ (l : List ℕ). length l) a.memory in absurd (omega (arith, e))

-- ---- the batch
abbrev pub former : Former
former = record { handle = 0; word = calm }

-- the far state where the first span is leaving, with these words and these parities
abbrev leaving_with : List Former → List (List ℕ) → FarState
leaving_with words parities = with_batch pair 1 (0 ∷ []) words true parities

-- its frame has zeros, and so has its parity
word_is : IsSpanWord 1 1 1 (frame_rows start 1 (0 ∷ []) ++ row ∷ [])
word_is = subst (λ (r : List ℕ). IsSpanWord 1 1 1 (r ∷ row ∷ [])) (sym zero_row) is_word

pub of_first : AreOf (IsIn pair.spans (0 ∷ [])) (former ∷ [])
of_first = record {
  all = λ h i. (former, (0, lit< tt, refl), only_object h i);
  only = All-cons (λ (f : Former). IsIn pair.spans (0 ∷ []) f.handle) former [] first_object
      (All-nil (λ (f : Former). IsIn pair.spans (0 ∷ []) f.handle));
}

begun : IsBegunTo start claimed pair (leaving_with (former ∷ []) (row ∷ [])) (0 ∷ [])
begun = record {
  pages = 1;
  long = one_long;
  words = former ∷ [];
  parities = row ∷ [];
  of = of_first;
  order = refl;
  each_once = λ i j d less within. absurd (omega (arith, less, within));
  noted = All-cons (λ (f : Former). f.word ≡ word_at start f.handle) former [] refl
      (All-nil (λ (f : Former). f.word ≡ word_at start f.handle));
  count = refl;
  word = λ same. word_is;
  bare = λ other. absurd (false≢true (sym other));
  state = refl;
  held = held;
}

-- the far state says which words and parities are noted
same_batch : (words : List Former) (parities : List (List ℕ)) (y : Words)
    → (a : IsBegunTo start y pair (leaving_with words parities) (0 ∷ []))
    → (words ≡ a.words) × (parities ≡ a.parities) × (1 ≡ a.pages)
same_batch words parities y a =
    let e = some_same (new_batch pair 1 (0 ∷ []) words true parities)
    (new_batch pair a.pages (0 ∷ []) a.words true a.parities) (ap (λ (f : FarState). f.leaving) a.state) in (
      ap (λ (b : LeavingState). b.words) e,
      ap (λ (b : LeavingState). b.parities) e,
      ap (λ (b : LeavingState). b.pages) e,
    )

-- ---- the order in which objects are noted
-- a span with two objects, and one with another
abbrev two : FarState
two = record pair {
  spans = Some (span_of (record { index = 0 }) Cold (Some 3 ∷ None ∷ Some 1 ∷ []))
      ∷ Some (span_with Hot 2) ∷ [];
}

by_frame_and_slot : objects_of two.spans (1 ∷ 0 ∷ []) ≡ 2 ∷ 3 ∷ 1 ∷ []
by_frame_and_slot = refl

abbrev noted_at : ℕ → Former
noted_at h = record { handle = h; word = calm }

-- the object of a later slot is not noted first
not_the_other_way : (x y : Words)
    → IsBegunTo x y two (with_batch two 1 (0 ∷ []) (noted_at 1 ∷ noted_at 3 ∷ []) true (row ∷ []))
    (0 ∷ []) → ⊥
not_the_other_way x y a =
    let e = some_same (new_batch two 1 (0 ∷ []) (noted_at 1 ∷ noted_at 3 ∷ []) true (row ∷ []))
    (new_batch two a.pages (0 ∷ []) a.words true a.parities) (ap (λ (f : FarState). f.leaving) a.state) in
    let first : 1 ≡ 3 = ap (λ (l : List ℕ). get_or l 0 0)
    (ap (λ (b : LeavingState). noted_of b.words) e ∙ a.order) in
    omega (arith, first)

-- the object's word is noted
not_forgotten : IsBegunTo start claimed pair (leaving_with [] (row ∷ [])) (0 ∷ []) → ⊥
not_forgotten a =
    let none = sym (ap (λ (l : List Former). length l) (same_batch [] (row ∷ []) claimed a).0) in
    let one = a.of.all 0 first_object in let l = one.1.1 in omega (arith, none, l)

-- and once
not_twice : IsBegunTo start claimed pair (leaving_with (former ∷ former ∷ []) (row ∷ [])) (0 ∷ []) → ⊥
not_twice a =
    let once = subst (λ (l : List Former). AreApart l)
    (sym (same_batch (former ∷ former ∷ []) (row ∷ []) claimed a).0) a.each_once in
    once 0 1 former (lit< tt) (lit< tt) refl

-- as it was before its claim
not_as_claimed : IsBegunTo start claimed pair
    (leaving_with ((record { handle = 0; word = moving }) ∷ []) (row ∷ [])) (0 ∷ []) → ⊥
not_as_claimed a =
    let noted = subst (λ (l : List Former). All (λ (f : Former). f.word ≡ word_at start f.handle) l)
    (sym (same_batch ((record { handle = 0; word = moving }) ∷ []) (row ∷ []) claimed a).0) a.noted in
    let e : moving ≡ calm = noted 0 former (lit< tt) in absurd (omega (arith, e))

-- no other object is noted
not_another : IsBegunTo start claimed pair
    (leaving_with (former ∷ (record { handle = 1; word = pinned }) ∷ []) (row ∷ [])) (0 ∷ []) → ⊥
not_another a =
    let only = subst (λ (l : List Former). All (λ (f : Former). IsIn pair.spans (0 ∷ []) f.handle) l)
    (sym (same_batch (former ∷ (record { handle = 1; word = pinned }) ∷ []) (row ∷ []) claimed a).0)
    a.of.only in
    let e = only_object 1 (only 1 former (lit< tt)) in absurd (omega (arith, e))

-- an empty parity is none of that row
not_empty : IsBegunTo start claimed pair (leaving_with (former ∷ []) ([] ∷ [])) (0 ∷ []) → ⊥
not_empty a =
    let batch = same_batch (former ∷ []) ([] ∷ []) claimed a in
    let word = subst (λ (l : List (List ℕ)).
    IsSpanWord a.pages 1 1 (frame_rows start a.pages (0 ∷ []) ++ l)) (sym batch.1) (a.word refl) in
    let same = word.is_word.equal_lengths 1 [] (lit< tt) in
    let e : 0 ≡ 4096 * a.pages = same ∙ word.wide in let one = batch.2 in
    absurd (omega (arith, e, one))

-- a span of one page is no part of a batch of spans of two
not_of_two_pages : IsBegunTo start claimed pair
    (with_batch pair 2 (0 ∷ []) (former ∷ []) true (row ∷ [])) (0 ∷ []) → ⊥
not_of_two_pages a =
    let e = some_same (new_batch pair 2 (0 ∷ []) (former ∷ []) true (row ∷ []))
    (new_batch pair a.pages (0 ∷ []) a.words true a.parities) (ap (λ (f : FarState). f.leaving) a.state) in
    let two : 2 ≡ a.pages = ap (λ (b : LeavingState). b.pages) e in
    let long : pages_of (record { index = 0 }) ≡ a.pages = a.long 0 0 (lit< tt) in
    let one = one_page in absurd (omega (arith, two, long, one))

-- and there is one parity
not_without : IsBegunTo start claimed pair (leaving_with (former ∷ []) []) (0 ∷ []) → ⊥
not_without a =
    let count = ap (λ (l : List (List ℕ)). length l) (same_batch (former ∷ []) [] claimed a).1 in
    let one = a.count in
    absurd (omega (arith, count, one))

not_drawn : IsBegunTo start claimed pair (record (leaving_with (former ∷ []) (row ∷ [])) {
  counts = pair.counts;
}) (0 ∷ []) → ⊥
not_drawn a =
    let e : 0 ≡ 1 = ap (λ (f : FarState). f.counts.sets) a.state in absurd (omega (arith, e))

-- the object is here as before
not_claimed : IsBegunTo start start pair (leaving_with (former ∷ []) (row ∷ [])) (0 ∷ []) → ⊥
not_claimed a = not_here a.held

-- ---- the step
batch_made : IsBatchMade start claimed pair (leaving_with (former ∷ []) (row ∷ []))
    (answer.Batch (record { n = 0 }))
unfolding pages_of batch_pages
batch_made = record {
  none = refl;
  pages = 1;
  longest = refl;
  room = omega (arith, two_nodes);
  reply = refl;
  begun = begun;
  given = tt;
}

step : IsBeginStep start claimed pair (leaving_with (former ∷ []) (row ∷ []))
    (answer.Batch (record { n = 0 }))
step = begins batch_made

-- a second batch waits for the first one
abbrev pub second : FarState
second = leaving_with (former ∷ []) (row ∷ [])

waits : IsBeginStep claimed claimed second second (answer.Leaving (record { n = 0 }))
waits = is_leaving (new_batch pair 1 (0 ∷ []) (former ∷ []) true (row ∷ [])) refl refl refl refl

not_yet : (y : Words) (new : FarState) → IsBatchMade claimed y second new
    (answer.Batch (record { n = 1 })) → ⊥
not_yet y new a = none_some _ (sym a.none)

-- a batch is told to be leaving only where one is
not_told : (id : SetId) → IsBeginStep start start pair pair (answer.Leaving id) → ⊥
not_told id (is_leaving b there a state e) = none_some b there
not_told id (few_spans none a e) = let e : answer.Leaving id ≡ answer.NoSpans _ = a.reply in cc
not_told id (few_nodes none a e) = let e : answer.Leaving id ≡ answer.NoNodes _ = a.reply in cc
not_told id (begins m) = leaving_batch id (record { n = 0 }) (answer.Leaving id) refl m.reply

-- a batch is made only where enough spans are loose
not_pinned : (y : Words) (new : FarState) (r : Reply) → IsBatchMade busy y pair new r → ⊥
unfolding batch_pages
not_pinned y new r a = none_some a.pages a.longest

-- and enough nodes have room
not_lone : (y : Words) (new : FarState) (r : Reply) → IsBatchMade start y lone new r → ⊥
not_lone y new r a = let l = a.room in absurd (omega (arith, l, one_node))

id_is : (a b : SetId) → answer.Batch a ≡ answer.Batch b → a ≡ b
id_is a b e = cc

-- the reply has the set's number
not_another_number : (y : Words) (new : FarState)
    → IsBatchMade start y pair new (answer.Batch (record { n = 1 })) → ⊥
not_another_number y new a =
    let e : 1 ≡ 0 = ap (λ (id : SetId). id.n) (id_is _ _ a.reply) in absurd (omega (arith, e))

-- ---- by the events
-- nothing is looked at where a batch is leaving
told : IsLeavingAlready second second (answer.Leaving (record { n = 0 })) []
told = record {
  batch = new_batch pair 1 (0 ∷ []) (former ∷ []) true (row ∷ []);
  there = refl;
  reply = refl;
  state = refl;
  nothing = refl;
}

not_looked : IsLeavingAlready second second (answer.Leaving (record { n = 0 }))
    (Looked 0 moving ∷ []) → ⊥
not_looked a = let e : Looked 0 moving ∷ [] ≡ [] = a.nothing in cc

not_absent : (r : Reply) (es : List Access) → IsLeavingAlready pair pair r es → ⊥
not_absent r es a = none_some a.batch a.there

leaving_is : (a b : SetId) → answer.Leaving a ≡ answer.Leaving b → a ≡ b
leaving_is a b e = cc

not_other_set : IsLeavingAlready second second (answer.Leaving (record { n = 3 })) [] → ⊥
not_other_set a =
    let b = some_same (new_batch pair 1 (0 ∷ []) (former ∷ []) true (row ∷ [])) a.batch a.there in
    let e : 3 ≡ 0 = ap (λ (id : SetId). id.n) (leaving_is _ _ a.reply)
    ∙ sym (ap (λ (x : LeavingState). x.set) b) in absurd (omega (arith, e))

not_changed : IsLeavingAlready second (record second { made = 5 })
    (answer.Leaving (record { n = 0 })) [] → ⊥
not_changed a = let e : 5 ≡ 4 = ap (λ (f : FarState). f.made) a.state in absurd (omega (arith, e))

-- an object that was here and is claimed, with the words that its claim told
abbrev here : Shown
here = record {
  first = 1;
  objects = is.Here 8 0 ∷ [];
  hots = false ∷ [];
  versions = 3 ∷ [];
  memory = 7 ∷ [];
}

abbrev taken : ℕ → ℕ → Shown
taken version content = record here { objects = is.Claimed 8 0 version (content ∷ []) ∷ [] }

abbrev pub claim : List Access
claim = Claimed 0 calm 3 (7 ∷ []) ∷ []

claimed_now : IsClaimedThere claim here (taken 3 7) 0
claimed_now = record {
  word = calm;
  version = 3;
  words = 7 ∷ [];
  found = inr ((refl, refl), tt);
  told = inr (refl, refl, refl);
  was = refl;
  object = refl;
}

not_unclaimed : (t : Shown) → IsClaimedThere [] here t 0 → ⊥
not_unclaimed t a = a.found

claimed_is : (n m p q v w : ℕ) (xs ys : List ℕ) → is.Claimed n p v xs ≡ is.Claimed m q w ys
    → (v ≡ w) × (xs ≡ ys)
claimed_is n m p q v w xs ys e = (cc, cc)

pub told_is : (v : ℕ) (xs : List ℕ) → IsTaken 0 v xs claim → (3 ≡ v) × (7 ∷ [] ≡ xs)
told_is v xs (inl f) = absurd f
told_is v xs (inr f) = (f.1, f.2)

heads : (a b : ℕ) → a ∷ [] ≡ b ∷ [] → a ≡ b
heads a b e = cc

-- with other contents, or at another version
not_other_words : IsClaimedThere claim here (taken 3 6) 0 → ⊥
not_other_words a =
    let e = heads 6 7 ((claimed_is _ _ _ _ _ _ _ _ a.object).1
    ∙ sym (told_is a.version a.words a.told).1) in absurd (omega (arith, e))

not_newer : IsClaimedThere claim here (taken 4 7) 0 → ⊥
not_newer a =
    let e : 4 ≡ 3 = (claimed_is _ _ _ _ _ _ _ _ a.object).0
    ∙ sym (told_is a.version a.words a.told).0 in absurd (omega (arith, e))

-- it is not here any more, and it was
not_still_here : IsClaimedThere claim here here 0 → ⊥
not_still_here a = let e : is.Here 8 0 ≡ is.Claimed _ _ _ _ = a.object in cc

not_before : IsClaimedThere claim (taken 3 7) (taken 3 7) 0 → ⊥
not_before a = let e : is.Claimed 8 0 3 (7 ∷ []) ≡ is.Here _ _ = a.was in cc

-- ---- the rule
abbrev pub claim_zeros : List Access
claim_zeros = Claimed 0 calm 3 (0 ∷ []) ∷ []

in_row : IsInRow claim_zeros (span_with Cold 0) row 1 0
in_row = record {
  word = calm;
  version = 3;
  words = 0 ∷ [];
  found = inr ((refl, refl), tt);
  told = inr (refl, refl, refl);
  contents = sym row_words;
}

in_rows : AreInRows claim_zeros pair (0 ∷ []) (row ∷ [])
in_rows zero f slot h span at there named =
    let frame : 0 ≡ f = some_same 0 f at in
    let same : span_with Cold 0 ≡ span = some_same (span_with Cold 0) span
    (ap (span_in pair.spans) frame ∙ there) in
    subst (λ (s : Contents). IsInRow claim_zeros s row slot h) same
    (by slot (ap (λ (s : Contents). handle_at s slot) same ∙ named))
  where
    by : (slot : ℕ) → handle_at (span_with Cold 0) slot ≡ Some h
        → IsInRow claim_zeros (span_with Cold 0) row slot h
    by zero e = absurd (none_some h e)
    by (suc zero) e = subst (λ (k : ℕ). IsInRow claim_zeros (span_with Cold 0) row 1 k)
        (some_same 0 h e) in_row
    by (suc (suc n)) e = absurd (none_some h e)
in_rows (suc p) f slot h span at there named = absurd (none_some f at)

pub has_begun : HasBegun pair second (0 ∷ []) claim_zeros
has_begun = record {
  pages = 1;
  long = one_long;
  words = former ∷ [];
  rows = row ∷ [];
  parities = row ∷ [];
  of = of_first;
  order = refl;
  each_once = λ i j d less within. absurd (omega (arith, less, within));
  found = All-cons (λ (f : Former). IsFound f.handle f.word claim_zeros) former []
      (inr ((refl, refl), tt)) (All-nil (λ (f : Former). IsFound f.handle f.word claim_zeros));
  contents = in_rows;
  counts = (refl, refl);
  word = λ same. is_word;
  bare = λ other. absurd (false≢true (sym other));
  state = refl;
}

-- a word that no claim found is not noted
not_without_claim : HasBegun pair second (0 ∷ []) [] → ⊥
not_without_claim a =
    let batch = some_same (new_batch pair 1 (0 ∷ []) (former ∷ []) true (row ∷ []))
    (new_batch pair a.pages (0 ∷ []) a.words true a.parities) (ap (λ (f : FarState). f.leaving) a.state) in
    let found = subst (λ (l : List Former). All (λ (f : Former). IsFound f.handle f.word []) l)
    (sym (ap (λ (b : LeavingState). b.words) batch)) a.found in
    found 0 former (lit< tt)

-- the set that is kept is not committed
not_committed : (set : SetState) → HasBegun pair (record second {
  sets = map.insert pair.sets 0 (record { set = set; committed = true });
}) (0 ∷ []) claim_zeros → ⊥
not_committed set a = some_none set (sym (set_added_in pair.sets 0 set)
    ∙ ap (λ (f : FarState). set_in f.sets 0) a.state
    ∙ ap if_committed (reserved_kept pair.sets 0 (set_from 0 a.pages (blank_shards 2) pair.spans (0 ∷ []))))

-- ---- the effect
abbrev both : List Object → Shown
both objects = record here { objects = objects }

abbrev held_object : Object
held_object = is.Claimed 8 0 3 (7 ∷ [])

abbrev effect_of : Shown → Type 0
effect_of t = IsBatchBegun pair second claim (both (is.Here 8 0 ∷ is.Here 8 1 ∷ [])) t

is_begun : effect_of (both (held_object ∷ is.Here 8 1 ∷ []))
unfolding put window
is_begun = record {
  claimed = λ h i. subst (IsClaimedThere claim (both (is.Here 8 0 ∷ is.Here 8 1 ∷ []))
      (both (held_object ∷ is.Here 8 1 ∷ []))) (only_object h i) (record {
        word = calm;
        version = 3;
        words = 7 ∷ [];
        found = inr ((refl, refl), tt);
        told = inr (refl, refl, refl);
        was = refl;
        object = refl;
      });
  others = λ h out. other h out;
  hots = refl;
  first = refl;
  objects = refl;
  versions = refl;
  memory = refl;
  nothing = λ old. refl;
  same_now = λ h. now_of h;
}
  where
    other : (h : ℕ) → ¬ (IsIn pair.spans (0 ∷ []) h)
        → object_at (both (held_object ∷ is.Here 8 1 ∷ [])) h
        ≡ object_at (both (is.Here 8 0 ∷ is.Here 8 1 ∷ [])) h
    other zero out = absurd (out first_object)
    other (suc h) out = refl

    now_of : (h : ℕ) → now (both (held_object ∷ is.Here 8 1 ∷ [])) second h
        ≡ now (told_by claim (both (is.Here 8 0 ∷ is.Here 8 1 ∷ []))) pair h
    now_of zero = refl
    now_of (suc zero) = refl
    now_of (suc (suc h)) = refl

here_claimed : (len place v : ℕ) (xs : List ℕ) → is.Here 8 0 ≡ is.Claimed len place v xs → ⊥
here_claimed len place v xs e = cc

-- the object is claimed, and another one stays
not_left : effect_of (both (is.Here 8 0 ∷ is.Here 8 1 ∷ [])) → ⊥
not_left a = let x = a.claimed 0 first_object in here_claimed _ _ _ _ x.object

not_freed : effect_of (both (held_object ∷ is.Empty 4 ∷ [])) → ⊥
not_freed a = let e : is.Empty 4 ≡ is.Here 8 1 =
    a.others 1 (λ i. let z = only_object 1 i in omega (arith, z)) in cc

not_added : effect_of (both (held_object ∷ is.Here 8 1 ∷ never ∷ [])) → ⊥
not_added a = let e : 3 ≡ 2 = a.objects in absurd (omega (arith, e))

not_warmed : effect_of (record (both (held_object ∷ is.Here 8 1 ∷ [])) { hots = true ∷ [] }) → ⊥
not_warmed a = false≢true (sym (first_bit true false a.hots))
  where
    first_bit : (x y : Bool) → x ∷ [] ≡ y ∷ [] → x ≡ y
    first_bit x y e = cc

not_later : effect_of (record (both (held_object ∷ is.Here 8 1 ∷ [])) { first = 2 }) → ⊥
not_later a = let e : 2 ≡ 1 = a.first in absurd (omega (arith, e))

not_stamped : effect_of (record (both (held_object ∷ is.Here 8 1 ∷ [])) { versions = [] }) → ⊥
not_stamped a = let e : 0 ≡ 1 = ap (λ (l : List ℕ). length l) a.versions in absurd (omega (arith, e))

not_stored : effect_of (record (both (held_object ∷ is.Here 8 1 ∷ [])) { memory = [] }) → ⊥
unfolding put
not_stored a = let e : 0 ≡ 1 = ap (λ (l : List ℕ). length l) a.memory in absurd (omega (arith, e))

-- a version is written: an empty object is settled here
not_made : IsBatchBegun pair second (Claimed 0 calm 3 (7 ∷ []) ∷ Settled 1 calm ∷ [])
    (both (is.Here 8 0 ∷ is.Empty 4 ∷ [])) (both (held_object ∷ is.Empty 4 ∷ [])) → ⊥
not_made a = let e : 1 ≡ 0 = ap (λ (l : List Entry). length l) (a.nothing []) in absurd (omega (arith, e))

-- another claim told other words of the object's place, and so its last contents are not those that
-- its own claim told
bytes_are : (v w : ℕ) (xs ys : List ℕ) → has v xs ≡ has w ys → xs ≡ ys
bytes_are v w xs ys e = cc

not_told_anew : IsBatchBegun pair second
    (Claimed 0 calm 3 (7 ∷ []) ∷ Claimed 1 calm 4 (8 ∷ []) ∷ [])
    (both (is.Here 8 0 ∷ is.Here 8 1 ∷ []))
    (record (both (held_object ∷ is.Here 8 1 ∷ [])) { memory = 8 ∷ [] }) → ⊥
unfolding put window bytes_in
not_told_anew a = let e : 7 ≡ 8 = ap (λ (l : List ℕ). get_or l 0 0) (bytes_are _ _ _ _ (a.same_now 0)) in
    absurd (omega (arith, e))

-- the set of a far object is gone: it lost its one shard, and has no parity
abbrev lost_set : SetState
lost_set = set_of 3 1 (record { node = numbered 0; incarnation = 0; key = 9 } ∷ [])
    (filled_position (Some 1 ∷ []) ∷ [])

abbrev with_loss : FarState
with_loss = record second {
  sets = map.insert pair.sets 3 (record { set = lost_set; committed = true });
  homes = None ∷ Some (record { set = 3; position = 0; slot = 0 }) ∷ [];
  members = with_crash pair.members (numbered 0);
}

not_lost : IsBatchBegun pair with_loss claim (both (is.Here 8 0 ∷ is.Far 8 4 (9 ∷ []) ∷ []))
    (both (held_object ∷ is.Far 8 4 (9 ∷ []) ∷ [])) → ⊥
not_lost a = differ 4 4 _ (sym gone ∙ a.same_now 1)
  where
    differ : (v w : ℕ) (xs : List ℕ) → is_lost v ≡ has w xs → ⊥
    differ v w xs e = cc

    gone : now (both (held_object ∷ is.Far 8 4 (9 ∷ []) ∷ [])) with_loss 1 ≡ is_lost 4
    gone = ap (λ (o : Option SetState). now_as (both (held_object ∷ is.Far 8 4 (9 ∷ []) ∷ [])) 1
        (broken_set with_loss.members o) (is.Far 8 4 (9 ∷ []))) (set_added_in pair.sets 3 lost_set)

-- a refusal changes nothing
not_refused : BeginEffect pair pair (answer.NoSpans 0) [] here (taken 3 7) → ⊥
not_refused a = differ (a.left (λ id e. spans_batch 0 (answer.NoSpans 0) id refl e)).objects
  where
    differ : is.Claimed 8 0 3 (7 ∷ []) ∷ [] ≡ is.Here 8 0 ∷ [] → ⊥
    differ e = cc

-- ---- the parts
-- one batch by the rule: enough spans, enough nodes, and the next number
has_batch : HasBatch pair second (answer.Batch (record { n = 0 })) (0 ∷ []) claim_zeros
unfolding pages_of batch_pages
has_batch = record {
  pages = 1;
  longest = refl;
  room = omega (arith, two_nodes);
  reply = refl;
  begun = has_begun;
  given = tt;
}

not_of_none : (new : FarState) (r : Reply) (es : List Access) → HasBatch pair new r [] es → ⊥
unfolding batch_pages
not_of_none new r es a = none_some a.pages a.longest

not_on_one : (new : FarState) (r : Reply) (es : List Access)
    → HasBatch lone new r (0 ∷ []) es → ⊥
not_on_one new r es a = let l = a.room in absurd (omega (arith, l, one_node))

not_number : (new : FarState) (es : List Access)
    → HasBatch pair new (answer.Batch (record { n = 1 })) (0 ∷ []) es → ⊥
not_number new es a =
    let e : 1 ≡ 0 = ap (λ (id : SetId). id.n) (id_is _ _ a.reply) in absurd (omega (arith, e))

by_rule : BeginRule second second (answer.Leaving (record { n = 0 })) []
by_rule = inl told

-- no span is looked at while a batch is leaving
not_meanwhile : (new : FarState) (r : Reply) (es : List Access) → HasLooked second new r es → ⊥
not_meanwhile new r es a = none_some _ (sym a.none)

-- the parities of the row of zeros
parities_of : AreParities 1 2 (row ∷ []) (row ∷ [])
parities_of = record { count = refl; word = is_word.is_word; bytes = is_word.bytes }

not_too_many : AreParities 1 2 (row ∷ []) (row ∷ row ∷ []) → ⊥
not_too_many a = let e : 3 ≡ 2 = a.count in absurd (omega (arith, e))

not_short : AreParities 1 2 (row ∷ []) ([] ∷ []) → ⊥
not_short a =
    let same = a.word.equal_lengths 1 [] (lit< tt) in
    let e : 0 ≡ 4096 = same ∙ is_word.wide in absurd (omega (arith, e))

-- ---- a gather: the parities are still to be made
abbrev unmade_far : FarState
unmade_far = with_batch pair 1 (0 ∷ []) (former ∷ []) false (no_parities 1)

unmade : BegunTo start claimed pair unmade_far false (0 ∷ [])
unmade = record {
  pages = 1;
  long = one_long;
  words = former ∷ [];
  parities = no_parities 1;
  of = of_first;
  order = refl;
  each_once = λ i j d less within. absurd (omega (arith, less, within));
  noted = All-cons (λ (f : Former). f.word ≡ word_at start f.handle) former [] refl
      (All-nil (λ (f : Former). f.word ≡ word_at start f.handle));
  count = refl;
  word = λ same. absurd (false≢true same);
  bare = λ same. refl;
  state = refl;
  held = held;
}

-- the order hands out the rows as they stand in memory
abbrev handed : Gathered
handed = gathered.Order (order_for pair (frame_rows start 1 (0 ∷ [])))

gathers : IsGatherStep start claimed pair unmade_far handed
unfolding pages_of batch_pages unmade
gathers = begins (record {
  none = refl;
  pages = 1;
  longest = refl;
  room = omega (arith, two_nodes);
  reply = refl;
  begun = unmade;
  given = refl;
})

-- no reply alone, where a batch begins
not_told_alone : (y : Words) (new : FarState) (rows : List (List ℕ))
    → HandsOut pair (gathered.Answer (answer.Batch (record { n = 0 }))) rows → ⊥
not_told_alone y new rows e = cc

-- and no other number
not_of_another : (rows : List (List ℕ))
    → HandsOut pair (gathered.Order (record (order_for pair rows) { set = 5 })) rows → ⊥
not_of_another rows e =
    let n : 5 ≡ 0 = ap (λ (r : Reply). number_told r) (ap gathered_reply e) in
    absurd (omega (arith, n))
  where
    number_told : Reply → ℕ
    number_told (answer.Batch id) = id.n
    number_told r = 7

-- parities that are not made are blank
not_filled : BegunTo start claimed pair
    (with_batch pair 1 (0 ∷ []) (former ∷ []) false (row ∷ [])) false (0 ∷ []) → ⊥
not_filled a =
    let e = some_same (new_batch pair 1 (0 ∷ []) (former ∷ []) false (row ∷ []))
    (new_batch pair a.pages (0 ∷ []) a.words false a.parities)
    (ap (λ (f : FarState). f.leaving) a.state) in
    let blank : row ∷ [] ≡ [] ∷ [] = ap (λ (b : LeavingState). b.parities) e ∙ a.bare refl in
    let n : length row ≡ 0 = ap (λ (l : List (List ℕ)). length (get_or l 0 [])) blank in
    let wide : length row ≡ 4096 = is_word.wide in
    absurd (omega (arith, n, wide))

-- what the seat keeps: the order, or the one before
order_kept : gathered_order None handed ≡ Some (Encode (order_for pair (frame_rows start 1 (0 ∷ []))))
order_kept = refl

before_kept : (order : Option Order) → gathered_order order (gathered.Answer (answer.NoSpans 0)) ≡ order
before_kept order = refl
