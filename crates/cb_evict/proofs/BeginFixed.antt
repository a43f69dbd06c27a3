-- A begin is fixed: one reply, one set of words and one far state.
use Rattle.std.proofs.Common.{◌≡◌, ◌⊎◌, ℕ, suc, ◌*◌, Bool, true, false, List, [], ◌∷◌, ◌++◌, length, take, map, All, None, Some, refl, sym, ap, ◌∙◌, subst, arith, inl, inr}
use Rattle.std.proofs.lemmas.List.{append_cancel_left, get_or_append_left, length-map}
use Rattle.cb_gf256.specs.InRange.{IsInRange}
use Rattle.cb_types.specs.declared.handle.SetId.{SetId}
use Rattle.cb_types.specs.declared.reply.Reply.{Reply}
use Rattle.cb_types.specs.declared.reply.Reply.TheVariants as answer
use Rattle.cb_world.specs.declared.leaving.Former.{Former}
use Rattle.cb_world.specs.Choices.{room_count}
use Rattle.cb_world.specs.FarState.{FarState}
use Rattle.cb_world.specs.Leaving.{LeavingState}
use Rattle.cb_world.specs.Memory.{window}
use Rattle.cb_world.specs.Plain.{Words}
use Rattle.cb_world.specs.RowWords.{row_of}
use Rattle.cb_world.specs.SetWord.{IsSpanWord}
use Rattle.cb_world.specs.World.{word_at}
use Rattle.cb_world.proofs.Laws.{IsOneEnd, refused_alike, same_data, some_same}
use Rattle.cb_evict.specs.BeginRule.{new_batch, with_batch}
use Rattle.cb_evict.specs.BeginStep.{AreSpansClaimed, BeginsTo, IsBatchMade, IsBeginStep, IsBegunTo, frame_rows, is_leaving, few_spans, few_nodes, begins}
use Rattle.cb_evict.specs.EvictStep.{loose_frames}
use Rattle.cb_evict.specs.declared.gathering.Gathered.{Gathered}
use Rattle.cb_evict.specs.declared.gathering.Gathered.TheVariants as gathered
use Rattle.cb_evict.specs.Gathering.{HandsOut, IsGatherStep, gathered_reply, order_for}
use Rattle.cb_evict.specs.Order.{noted_of}
use Rattle.cb_evict.proofs.EvictKeeps.{in_or_not}
use Rattle.cb_evict.proofs.ChangedWords.{changes_fixed}
use Rattle.cb_evict.proofs.EvictFixed.{one_length}
use Rattle.cb_evict.proofs.LooseLengths.{none_not_one, none_not_some, one_longest, taken_count}
use Rattle.cb_evict.specs.Lengths.{loose_of, most_loose}
use Rattle.cb_evict.proofs.BeginParts.{leaving_batch, nodes_batch, spans_batch}
use Rattle.cb_evict.proofs.Options.{none_some}

-- ---- the words that are noted
-- the word of an object at the desk
abbrev former_of : Words → ℕ → Former
former_of x h = record { handle = h; word = word_at x h }

noted_as : (x : Words) (xs : List Former) → All (λ former. former.word ≡ word_at x former.handle) xs
    → xs ≡ map (former_of x) (noted_of xs)
noted_as x [] all = refl
noted_as x (former ∷ xs) all =
    let here = all 0 former (omega arith) in
    let rest = noted_as x xs (λ k d l. all (suc k) d (omega (arith, l))) in
    λ i. (record { handle = former.handle; word = here i }) ∷ rest i

noted_fixed : (x : Words) (handles : List ℕ) (xs ys : List Former) → noted_of xs ≡ handles
    → noted_of ys ≡ handles → All (λ former. former.word ≡ word_at x former.handle) xs
    → All (λ former. former.word ≡ word_at x former.handle) ys → xs ≡ ys
noted_fixed x handles xs ys a b c d =
    noted_as x xs c ∙ ap (map (former_of x)) (a ∙ sym b) ∙ sym (noted_as x ys d)

-- the words of claimed objects
held_fixed : (x y z : Words) (far : FarState) (frames : List ℕ) → AreSpansClaimed x y far frames
    → AreSpansClaimed x z far frames → y ≡ z
held_fixed x y z far frames a b =
    changes_fixed x y z _ _ _ a b (λ h. elim (in_or_not far.spans frames h) [
      | inl i ↦ inr ((a.changed h i).number ∙ sym (b.changed h i).number)
      | inr out ↦ inl out
    ])

-- data rows have one list of parities
pub parities_fixed : (pages k r : ℕ) (rows a b : List (List ℕ)) → IsInRange k r → length rows ≡ k
    → IsSpanWord pages k r (rows ++ a) → IsSpanWord pages k r (rows ++ b) → a ≡ b
parities_fixed pages k r rows a b range count x y =
    append_cancel_left rows a b (same_data k r (rows ++ a) (rows ++ b) range x.is_word x.bytes y.is_word
    y.bytes (λ i within. get_or_append_left rows a [] i (omega (arith, within, count))
    ∙ sym (get_or_append_left rows b [] i (omega (arith, within, count)))))

batch_fixed : (x y z : Words) (far new other : FarState) (made : Bool) (frames : List ℕ)
    → IsInRange far.code.k far.code.r → length frames ≡ far.code.k
    → IsBegunTo x y far new made frames → IsBegunTo x z far other made frames
    → (y ≡ z) × (new ≡ other)
batch_fixed x y z far new other made frames range count a b =
    let words = noted_fixed x _ a.words b.words a.order b.order a.noted b.noted in
    let pages = one_length far.spans frames a.pages b.pages a.long b.long
    (let least = range.data_least in omega (arith, least, count)) in
    let rows = length-map frames (λ f. row_of (window x.memory (512 * f) (512 * b.pages))) in
    let parities = by made
    (λ yes. parities_fixed b.pages far.code.k far.code.r (frame_rows x b.pages frames)
    a.parities b.parities range (rows ∙ count)
    (subst (λ (n : ℕ). IsSpanWord n far.code.k far.code.r (frame_rows x n frames ++ a.parities))
    pages (a.word yes)) (b.word yes)) (λ not. a.bare not ∙ sym (b.bare not)) in (
      held_fixed x y z far frames a.held b.held,
      a.state ∙ (λ i. with_batch far (pages i) frames (words i) made (parities i)) ∙ sym b.state,
    )
  where
    by : (m : Bool) → (m ≡ true → a.parities ≡ b.parities) → (m ≡ false → a.parities ≡ b.parities)
        → a.parities ≡ b.parities
    by true f g = f refl
    by false f g = g refl

begun_fixed : (x y z : Words) (far new other : FarState) (made : Bool)
    (so also : List (List ℕ) → Type 0) (r q : Reply)
    → IsInRange far.code.k far.code.r → IsBatchMade x y far new made so r
    → IsBatchMade x z far other made also q → IsOneEnd r q y z new other
begun_fixed x y z far new other made so also r q range a b =
    let loose = loose_frames x far in
    let pages = one_longest far.code.k far.spans loose b.pages a.pages b.longest a.longest in
    let ends = batch_fixed x y z far new other made (take far.code.k (loose_of far.spans a.pages loose)) range
    (taken_count far.code.k far.spans loose a.pages a.longest) a.begun
    (subst (λ (n : ℕ). IsBegunTo x z far other made (take far.code.k (loose_of far.spans n loose))) pages
    b.begun) in
    record { reply = a.reply ∙ sym b.reply; words = ends.0; far = ends.1 }

pub leaving_or_not : (far : FarState) (batch : LeavingState) → far.leaving ≡ Some batch
    → far.leaving ≡ None → ⊥
leaving_or_not far batch a b = none_some batch (sym b ∙ a)

begins_fix : (x y z : Words) (far new other : FarState) (made : Bool)
    (so also : List (List ℕ) → Type 0) (r q : Reply) → IsInRange far.code.k far.code.r
    → BeginsTo x y far new made so r → BeginsTo x z far other made also q
    → IsOneEnd r q y z new other
begins_fix x y z far new other made so also r q ok (is_leaving s a e n w) (is_leaving t b f m v) =
    let same : s ≡ t = some_same s t (sym a ∙ b) in
    refused_alike r q (answer.Leaving (record { n = t.set })) x y z far new other
    (e ∙ ap (λ (batch : LeavingState). answer.Leaving (record { n = batch.set })) same) f w v n m
begins_fix x y z far new other made so also r q ok (is_leaving s a e n w) (few_spans o b f) =
    absurd (leaving_or_not far s a o)
begins_fix x y z far new other made so also r q ok (is_leaving s a e n w) (few_nodes o b f) =
    absurd (leaving_or_not far s a o)
begins_fix x y z far new other made so also r q ok (is_leaving s a e n w) (begins b) =
    absurd (leaving_or_not far s a b.none)
begins_fix x y z far new other made so also r q ok (few_spans o a e) (is_leaving s b f m v) =
    absurd (leaving_or_not far s b o)
begins_fix x y z far new other made so also r q ok (few_nodes o a e) (is_leaving s b f m v) =
    absurd (leaving_or_not far s b o)
begins_fix x y z far new other made so also r q ok (begins a) (is_leaving s b f m v) =
    absurd (leaving_or_not far s b a.none)
begins_fix x y z far new other made so also r q ok (few_spans o a e) (few_spans p b f) =
    refused_alike r q _ x y z far new other a.reply b.reply e f a.state b.state
begins_fix x y z far new other made so also r q ok (few_spans o a e) (few_nodes p b f) =
    absurd (none_not_some far.code.k far.spans (loose_frames x far) a.few b.enough)
begins_fix x y z far new other made so also r q ok (few_spans o a e) (begins b) =
    absurd (none_not_one far.code.k far.spans (loose_frames x far) b.pages a.few b.longest)
begins_fix x y z far new other made so also r q ok (few_nodes o a e) (few_spans p b f) =
    absurd (none_not_some far.code.k far.spans (loose_frames x far) b.few a.enough)
begins_fix x y z far new other made so also r q ok (few_nodes o a e) (few_nodes p b f) =
    refused_alike r q _ x y z far new other a.reply b.reply e f a.state b.state
begins_fix x y z far new other made so also r q ok (few_nodes o a e) (begins b) =
    absurd (let l = a.few in let m = b.room in omega (arith, l, m))
begins_fix x y z far new other made so also r q ok (begins a) (few_spans p b f) =
    absurd (none_not_one far.code.k far.spans (loose_frames x far) a.pages b.few a.longest)
begins_fix x y z far new other made so also r q ok (begins a) (few_nodes p b f) =
    absurd (let l = b.few in let m = a.room in omega (arith, l, m))
begins_fix x y z far new other made so also r q ok (begins a) (begins b) =
    begun_fixed x y z far new other made so also r q ok a b

pub begin_step_fixes : (x y z : Words) (far new other : FarState) (r q : Reply)
    → IsInRange far.code.k far.code.r → IsBeginStep x y far new r → IsBeginStep x z far other q
    → IsOneEnd r q y z new other
begin_step_fixes x y z far new other r q ok a b =
    begins_fix x y z far new other true (λ rows. Unit {0}) (λ rows. Unit {0}) r q ok a b

-- ---- a gather
-- a refusal is handed out as it is
answered : (g : Gathered) → ((id : SetId) → gathered_reply g ≡ answer.Batch id → ⊥)
    → g ≡ gathered.Answer (gathered_reply g)
answered (gathered.Order o) off = absurd (off (record { n = o.set }) refl)
answered (gathered.Answer r) off = refl

both_answered : (g h : Gathered) → gathered_reply g ≡ gathered_reply h
    → ((id : SetId) → gathered_reply g ≡ answer.Batch id → ⊥) → g ≡ h
both_answered g h same off =
    answered g off ∙ ap gathered.Answer same ∙ sym (answered h (λ id e. off id (same ∙ e)))

-- the batch that a step begins, or a refusal
batch_or_not : (x y : Words) (far new : FarState) (made : Bool) (so : List (List ℕ) → Type 0)
    (r : Reply) → BeginsTo x y far new made so r
    → IsBatchMade x y far new made so r ⊎ ((id : SetId) → r ≡ answer.Batch id → ⊥)
batch_or_not x y far new made so r (is_leaving s a e n w) =
    inr (λ id f. leaving_batch (record { n = s.set }) id r e f)
batch_or_not x y far new made so r (few_spans o a e) =
    inr (λ id f. spans_batch (most_loose far.spans (loose_frames x far)) r id a.reply f)
batch_or_not x y far new made so r (few_nodes o a e) =
    inr (λ id f. nodes_batch (room_count far.nodes far.members) r id a.reply f)
batch_or_not x y far new made so r (begins a) = inl a

-- the order of a batch is one
orders_fixed : (x y z : Words) (far new other : FarState) (g h : Gathered) → new ≡ other
    → IsBatchMade x y far new false (HandsOut far g) (gathered_reply g)
    → IsBatchMade x z far other false (HandsOut far h) (gathered_reply h) → g ≡ h
orders_fixed x y z far new other g h same a b =
    let loose = loose_frames x far in
    let framesA = take far.code.k (loose_of far.spans a.pages loose) in
    let framesB = take far.code.k (loose_of far.spans b.pages loose) in
    let batches = some_same
    (new_batch far a.begun.pages framesA a.begun.words false a.begun.parities)
    (new_batch far b.begun.pages framesB b.begun.words false b.begun.parities)
    (ap (λ (f : FarState). f.leaving) (sym a.begun.state ∙ same ∙ b.begun.state)) in
    a.given
    ∙ ap (λ (batch : LeavingState).
    gathered.Order (order_for far (frame_rows x batch.pages batch.frames))) batches
    ∙ sym b.given

-- a gather is fixed, with what it hands out
pub gather_step_fixes : (x y z : Words) (far new other : FarState) (g h : Gathered)
    → IsInRange far.code.k far.code.r → IsGatherStep x y far new g → IsGatherStep x z far other h
    → IsOneEnd (gathered_reply g) (gathered_reply h) y z new other × (g ≡ h)
gather_step_fixes x y z far new other g h ok a b =
    let ends = begins_fix x y z far new other false (HandsOut far g) (HandsOut far h)
    (gathered_reply g) (gathered_reply h) ok a b in (
      ends,
      by (batch_or_not x y far new false (HandsOut far g) (gathered_reply g) a)
          (batch_or_not x z far other false (HandsOut far h) (gathered_reply h) b) ends.reply ends.far,
    )
  where
    by : IsBatchMade x y far new false (HandsOut far g) (gathered_reply g)
        ⊎ ((id : SetId) → gathered_reply g ≡ answer.Batch id → ⊥)
        → IsBatchMade x z far other false (HandsOut far h) (gathered_reply h)
        ⊎ ((id : SetId) → gathered_reply h ≡ answer.Batch id → ⊥)
        → gathered_reply g ≡ gathered_reply h → new ≡ other → g ≡ h
    by (inr off) c same state = both_answered g h same off
    by (inl m) (inr off) same state = sym (both_answered h g (sym same) off)
    by (inl m) (inl n) same state = orders_fixed x y z far new other g h state m n
