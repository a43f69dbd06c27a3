-- Worked examples of loose spans by the words of the still desk, of objects that are sent off and
-- of the two refusals: values that meet a definition, and for each of its parts one that breaks
-- that part alone.
use Rattle.std.proofs.Common.{◌≡◌, ℕ, zero, suc, ◌+◌, ◌*◌, true, false, List, [], ◌∷◌, length, Option, None, Some, refl, sym, ap, ◌∙◌, subst, lit<, arith}
use Rattle.std.proofs.lemmas.Bool.{false≢true}
use Rattle.cb_class.specs.Class.{words_of, bytes_of, pages_of}
use Rattle.cb_ptr.specs.Steps.{IsFarWord}
use Rattle.cb_ptr.specs.Word.{len_of}
use Rattle.cb_ptr.proofs.Laws.{far_word_is}
use Rattle.cb_span.specs.declared.temp.Temp.TheVariants.{Hot, Cold}
use Rattle.cb_span.specs.Contents.{Contents, span_of, handle_at}
use Rattle.cb_types.specs.declared.config.Config.{Config}
use Rattle.cb_types.specs.declared.reply.Reply.TheVariants as answer
use Rattle.cb_world.specs.FarState.{FarState, span_in}
use Rattle.cb_world.specs.Leaving.{LeavingState}
use Rattle.cb_world.specs.Memory.{window, words_for}
use Rattle.cb_world.specs.Plain.{Words}
use Rattle.cb_world.specs.RowWords.{words_from, words_in}
use Rattle.cb_world.specs.StillWords.{contents_at}
use Rattle.cb_world.specs.World.{word_at}
use Rattle.cb_evict.specs.Lengths.{batch_pages, most_loose}
use Rattle.cb_evict.specs.EvictStep.{is_slot_loose, is_loose, loose_frames, AreSentOff, HaveContents, IsEvictStep, few_spans, few_nodes, made}
use Rattle.cb_evict.specs.Looking.{IsIn}
use Rattle.cb_evict.proofs.Options.{none_some, some_none, some_same}
use Rattle.cb_evict.proofs.SmallWorlds.{after, away, before, busy, calm, desk, far_with, first_object, further, heads, lone, moving, one_node, only_object, pair, pinned, row, settings, span_with}

-- a hot span, two cold ones with a free frame between them, and one more
abbrev spans : List (Option Contents)
spans = Some (span_with Hot 0) ∷ Some (span_with Cold 1) ∷ None ∷ Some (span_with Cold 2)
    ∷ Some (span_with Cold 3) ∷ []

abbrev far : FarState
far = far_with spans None 2

-- ---- an object in a slot
calm_is_loose : is_slot_loose (desk (calm ∷ [])) (Some 0) ≡ true
calm_is_loose = refl

no_object_is_loose : is_slot_loose (desk (pinned ∷ [])) None ≡ true
no_object_is_loose = refl

pinned_is_not : is_slot_loose (desk (pinned ∷ [])) (Some 0) ≡ false
pinned_is_not = refl

claimed_is_not : is_slot_loose (desk (moving ∷ [])) (Some 0) ≡ false
claimed_is_not = refl

-- ---- a span
abbrev two_objects : Option Contents
two_objects = Some (span_of (record { index = 0 }) Cold (Some 0 ∷ None ∷ Some 1 ∷ []))

both_are_loose : is_loose (desk (calm ∷ calm ∷ [])) two_objects ≡ true
both_are_loose = refl

first_stays : is_loose (desk (pinned ∷ calm ∷ [])) two_objects ≡ false
first_stays = refl

second_stays : is_loose (desk (calm ∷ moving ∷ [])) two_objects ≡ false
second_stays = refl

no_span : is_loose (desk (calm ∷ calm ∷ [])) None ≡ false
no_span = refl

-- ---- the loose spans in their order
-- the cold ones come first, and then the hot one
cold_first : loose_frames (desk (calm ∷ calm ∷ calm ∷ calm ∷ [])) far ≡ 1 ∷ 3 ∷ 4 ∷ 0 ∷ []
cold_first = refl

-- the span of a pinned object is left out, and that of a claimed one
but_pinned : loose_frames (desk (calm ∷ pinned ∷ calm ∷ moving ∷ [])) far ≡ 3 ∷ 0 ∷ []
but_pinned = refl

-- and a frame that is leaving
abbrev batch : LeavingState
batch = record {
  set = 0;
  pages = 1;
  frames = 3 ∷ [];
  words = [];
  made = true;
  parities = [];
  shards = [];
}

but_leaving : loose_frames (desk (calm ∷ calm ∷ calm ∷ calm ∷ [])) (far_with spans (Some batch) 2)
    ≡ 1 ∷ 4 ∷ 0 ∷ []
but_leaving = refl

-- ---- objects that are sent off
pub sent_off : AreSentOff before after pair (0 ∷ [])
sent_off = record {
  changed = λ h i. subst (λ (k : ℕ). IsFarWord (len_of (word_at before k)) (word_at after k))
      (only_object h i) (far_word_is 8 away (lit< tt) refl);
  others = λ h out. other h out;
  count = refl;
  settings = refl;
  versions = refl;
  memory = refl;
}
  where
    other : (h : ℕ) → ¬ (IsIn pair.spans (0 ∷ []) h) → word_at after h ≡ word_at before h
    other zero out = absurd (out first_object)
    other (suc h) out = refl

-- the object's word is far, and has its length
pub not_here : AreSentOff before before pair (0 ∷ []) → ⊥
not_here a =
    let e : calm ≡ 1 + 8 * 8192 = (a.changed 0 first_object).number in absurd (omega (arith, e))

not_longer : AreSentOff before (desk (73729 ∷ pinned ∷ [])) pair (0 ∷ []) → ⊥
not_longer a =
    let e : 73729 ≡ 1 + 8 * 8192 = (a.changed 0 first_object).number in absurd (omega (arith, e))

-- another object's word stays
not_unpinned : AreSentOff before (desk (away ∷ calm ∷ [])) pair (0 ∷ []) → ⊥
not_unpinned a =
    let e : calm ≡ pinned = a.others 1 (λ i. let z = only_object 1 i in omega (arith, z)) in
    absurd (omega (arith, e))

-- and no word is added
not_more : AreSentOff before (desk (away ∷ pinned ∷ 0 ∷ [])) pair (0 ∷ []) → ⊥
not_more a = let e : 3 ≡ 2 = a.count in absurd (omega (arith, e))

not_other_settings : AreSentOff before (record after { settings = record settings { k = 2 } }) pair
    (0 ∷ []) → ⊥
not_other_settings a =
    let e : 2 ≡ 1 = ap (λ (c : Config). c.k) a.settings in absurd (omega (arith, e))

not_other_versions : AreSentOff before (record after { versions = [] }) pair (0 ∷ []) → ⊥
not_other_versions a =
    let e : 0 ≡ 4 = ap (λ (l : List ℕ). length l) a.versions in absurd (omega (arith, e))

not_other_memory : AreSentOff before (record after { memory = [] }) pair (0 ∷ []) → ⊥
not_other_memory a =
    let e : 0 ≡ 2 = ap (λ (l : List ℕ). length l) a.memory in absurd (omega (arith, e))

-- ---- the words of an object in a row
-- a row of zeros has an object whose word is 0
pub zeros : window (words_in []) (1 * words_of (record { index = 0 })) 1 ≡ 0 ∷ []
unfolding words_of bytes_of window words_from
zeros = refl

pub first_word : contents_at before 0 ≡ 0 ∷ []
unfolding window
first_word = refl

-- the object that lies further, and its word is 7
abbrev seven : Words
seven = record (desk (further ∷ [])) { memory = 0 ∷ 7 ∷ [] }

second_word : contents_at seven 0 ≡ 7 ∷ []
unfolding window
second_word = refl

pub contents_in : (row : List ℕ) (rest : List (List ℕ))
    → window (words_in row) (1 * words_of (record { index = 0 })) 1 ≡ 0 ∷ []
    → HaveContents before pair (0 ∷ []) (row ∷ rest)
contents_in row rest is zero f slot h span at there named =
    let frame : 0 ≡ f = some_same 0 f at in
    let same : span_with Cold 0 ≡ span = some_same (span_with Cold 0) span
    (ap (span_in pair.spans) frame ∙ there) in
    by slot (ap (λ (s : Contents). handle_at s slot) same ∙ named) same
  where
    by : (slot : ℕ) → handle_at (span_with Cold 0) slot ≡ Some h → span_with Cold 0 ≡ span
        → contents_at before h ≡ window (words_in row) (slot * words_of span.class)
        (words_for (len_of (word_at before h)))
    by zero e same = absurd (none_some h e)
    by (suc zero) e same = subst (λ (k : ℕ). contents_at before k
        ≡ window (words_in row) (1 * words_of span.class) (words_for (len_of (word_at before k))))
        (some_same 0 h e)
        (subst (λ (s : Contents). contents_at before 0
        ≡ window (words_in row) (1 * words_of s.class) 1) same (first_word ∙ sym is))
    by (suc (suc n)) e same = absurd (none_some h e)
contents_in row rest is (suc p) f slot h span at there named = absurd (none_some f at)

have_contents : HaveContents before pair (0 ∷ []) ([] ∷ [])
have_contents = contents_in [] [] zeros

-- an object whose word is 7 is not in a row of zeros
not_contents : HaveContents seven pair (0 ∷ []) ([] ∷ []) → ⊥
not_contents a =
    let e = heads 7 0 (sym second_word ∙ a 0 0 1 0 (span_with Cold 0) refl refl refl ∙ zeros) in
    absurd (omega (arith, e))

pub no_spans : IsEvictStep busy busy pair pair (answer.NoSpans 0)
unfolding batch_pages most_loose
no_spans = few_spans (record { few = refl; reply = refl; state = refl }) refl

pub no_nodes : IsEvictStep before before lone lone (answer.NoNodes 1)
unfolding pages_of batch_pages
no_nodes = few_nodes (record {
  enough = refl;
  few = omega (arith, one_node);
  reply = ap answer.NoNodes (sym one_node);
  state = refl;
}) refl

spans_nodes : (n m : ℕ) → answer.NoSpans n ≡ answer.NoNodes m → ⊥
spans_nodes n m e = cc

spans_set : (n m : ℕ) → answer.NoSpans n ≡ answer.Set (record { n = m }) → ⊥
spans_set n m e = cc

count_is : (n m : ℕ) → answer.NoSpans n ≡ answer.NoSpans m → n ≡ m
count_is n m e = cc

-- a refusal changes no word
not_warmed : IsEvictStep busy before pair pair (answer.NoSpans 0) → ⊥
not_warmed (few_spans a e) =
    let w : calm ≡ pinned = ap (λ (u : Words). word_at u 0) e in absurd (omega (arith, w))
not_warmed (few_nodes a e) = spans_nodes 0 _ a.reply
not_warmed (made m) = spans_set 0 0 m.reply

-- and not the far state
not_opened : IsEvictStep busy busy pair (record pair { made = 5 }) (answer.NoSpans 0) → ⊥
not_opened (few_spans a e) =
    let n : 5 ≡ 4 = ap (λ (f : FarState). f.made) a.state in absurd (omega (arith, n))
not_opened (few_nodes a e) = spans_nodes 0 _ a.reply
not_opened (made m) = spans_set 0 0 m.reply

-- the reply has the count of loose spans
not_another_count : IsEvictStep busy busy pair pair (answer.NoSpans 1) → ⊥
unfolding most_loose
not_another_count (few_spans a e) = let n = count_is 1 0 a.reply in absurd (omega (arith, n))
not_another_count (few_nodes a e) = spans_nodes 1 _ a.reply
not_another_count (made m) = spans_set 1 0 m.reply

-- where a span is loose, too few spans are no cause, and where none is, too few nodes are none
not_too_few : IsEvictStep before before pair pair (answer.NoSpans 1) → ⊥
unfolding pages_of batch_pages
not_too_few (few_spans a e) = some_none 1 a.few
not_too_few (few_nodes a e) = spans_nodes 1 _ a.reply
not_too_few (made m) = spans_set 1 0 m.reply

not_nodes_first : IsEvictStep busy busy lone lone (answer.NoNodes 1) → ⊥
unfolding batch_pages
not_nodes_first (few_spans a e) = spans_nodes _ 1 (sym a.reply)
not_nodes_first (few_nodes a e) = false≢true a.enough
not_nodes_first (made m) = let e : answer.NoNodes 1 ≡ answer.Set (record { n = 0 }) = m.reply in cc
