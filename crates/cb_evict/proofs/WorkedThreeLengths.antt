-- A worked example of a batch in a world with loose spans of three lengths: the two of four pages
-- leave, the cold one before the hot one; and what is no batch there.
use Rattle.std.proofs.lemmas.Bool.{false≢true}
use Rattle.std.proofs.Common.{◌≡◌, ◌⊎◌, ℕ, zero, suc, ◌+◌, ◌*◌, ◌^◌, ◌<◌, true, false, List, [], ◌∷◌, length, All, get_or, Option, None, Some, replicate, take, refl, sym, ap, ◌∙◌, subst, lit<, arith, inl, inr}
use Rattle.std.specs.FinMap as map
use Rattle.std.proofs.lemmas.List.{get_or-replicate, length-replicate}
use Rattle.std.proofs.lemmas.List.Elements.{All-cons, All-nil, All-replicate}
use Rattle.cb_class.specs.Class.{pages_of}
use Rattle.cb_gf256.proofs.PublicLaws.{product_with_zero, sum_over_zeros}
use Rattle.cb_gf256.specs.Power.{power}
use Rattle.cb_gf256.specs.Product.{◌⊗◌}
use Rattle.cb_gf256.specs.Rows.{byte_at}
use Rattle.cb_member.specs.Membership.{fresh_members}
use Rattle.cb_node.specs.NodesState.{empty_nodes}
use Rattle.cb_ptr.specs.Steps.{Claims}
use Rattle.cb_ptr.proofs.Laws.{claims}
use Rattle.cb_span.specs.Contents.{Contents, span_of}
use Rattle.cb_span.specs.declared.temp.Temp.{Temp}
use Rattle.cb_span.specs.declared.temp.Temp.TheVariants.{Cold, Hot}
use Rattle.cb_types.specs.declared.reply.Reply.{Reply}
use Rattle.cb_types.specs.declared.reply.Reply.TheVariants as answer
use Rattle.cb_world.specs.declared.leaving.Former.{Former}
use Rattle.cb_world.specs.Choices.{room_count}
use Rattle.cb_world.specs.FarState.{FarState, handle_in, pages_at, span_in}
use Rattle.cb_world.specs.Leaving.{LeavingState}
use Rattle.cb_world.specs.Memory.{window}
use Rattle.cb_world.specs.Plain.{Words}
use Rattle.cb_world.specs.RowWords.{row_of}
use Rattle.cb_world.specs.SetWord.{IsSpanWord}
use Rattle.cb_world.specs.Survey.{no_survey}
use Rattle.cb_world.specs.World.{word_at}
use Rattle.cb_evict.specs.BeginRule.{new_batch, with_batch}
use Rattle.cb_evict.specs.BeginStep.{AreSpansClaimed, IsBatchMade as BatchMade, IsBegunTo, IsBeginStep, begins}
use Rattle.cb_evict.specs.Claiming.{AreOf, IsOne}
use Rattle.cb_evict.specs.EvictRule.{HasFewNodes, HasFewSpans}
use Rattle.cb_evict.specs.EvictStep.{loose_frames}
use Rattle.cb_evict.specs.Lengths.{batch_pages, loose_of, most_loose}
use Rattle.cb_evict.specs.Loading.{AreOfLength}
use Rattle.cb_evict.specs.Looking.{IsIn}
use Rattle.cb_evict.proofs.Options.{none_some, some_same}

-- a begin makes the parities
abbrev IsBatchMade : Words → Words → FarState → FarState → Reply → Type 0
IsBatchMade x y far new r = BatchMade x y far new true (λ rows. Unit {0}) r

-- ---- seven spans, each with one object in its first slot
-- slots of 1,024, of 1,536 and of 4,096 bytes, in spans of 1, 2 and 4 pages
abbrev pub one : Temp → ℕ → Option Contents
one temp h = Some (span_of (record { index = 11 }) temp (Some h ∷ None ∷ None ∷ None ∷ []))

abbrev pub two : Temp → ℕ → Option Contents
two temp h = Some (span_of (record { index = 12 }) temp (Some h ∷ None ∷ None ∷ None ∷ None ∷ []))

abbrev pub four : Temp → ℕ → Option Contents
four temp h = Some (span_of (record { index = 15 }) temp (Some h ∷ None ∷ None ∷ None ∷ []))

-- in frame 0, 1 to 4, 5 and 6, 7 to 10, 11 and 12, 13, 14
abbrev pub spans : List (Option Contents)
spans = one Cold 0 ∷ four Hot 1 ∷ None ∷ None ∷ None ∷ two Cold 2 ∷ None
    ∷ four Cold 3 ∷ None ∷ None ∷ None ∷ two Cold 4 ∷ None ∷ one Hot 5 ∷ one Hot 6 ∷ []

-- with so many nodes, and so many data positions in force
abbrev pub far_with : ℕ → ℕ → FarState
far_with nodes k = record {
  first = 1;
  made = 7;
  frames = replicate 15 false;
  spans = spans;
  sets = map.empty;
  homes = replicate 7 None;
  nodes = empty_nodes nodes 2;
  members = fresh_members nodes;
  code = record { k = k; r = 1 };
  leaving = None;
  joining = None;
  counts = record { turns = 0; by_job = []; sets = 0; keys = 0 };
  survey = no_survey;
}

abbrev pub far : FarState
far = far_with 3 2

-- an object that is here, of so many bytes, at the first word of a frame
abbrev pub here : ℕ → ℕ → ℕ
here len frame = 2 + 8192 * len + 274877906944 * frame

-- with the pins of the two cold objects of longer spans, and the states of those of 4 pages
abbrev desk : ℕ → ℕ → ℕ → Words
desk long longer state = record {
  settings = record { k = 2; r = 1; nodes = 3; frames = 15; room = 2; handles = 7; turns = 0 };
  words = here 1024 0 ∷ (here 4096 1 + state) ∷ here 1536 5 ∷ (here 4096 7 + longer * 8 + state)
      ∷ (here 1536 11 + long * 8) ∷ here 1024 13 ∷ here 1024 14 ∷ [];
  versions = replicate 7 3;
  memory = [];
}

abbrev start : Words
start = desk 0 0 0

-- ---- which spans are loose, and of which length a batch is
-- the cold ones by number, and then the hot ones
all_loose : loose_frames start far ≡ 0 ∷ 5 ∷ 7 ∷ 11 ∷ 1 ∷ 13 ∷ 14 ∷ []
all_loose = refl

-- where one or two are enough, of 4 pages
one_enough : batch_pages 1 spans (loose_frames start far) ≡ Some 4
unfolding pages_of batch_pages
one_enough = refl

two_enough : batch_pages 2 spans (loose_frames start far) ≡ Some 4
unfolding pages_of batch_pages
two_enough = refl

-- three are there of 1 page alone
three_enough : batch_pages 3 spans (loose_frames start far) ≡ Some 1
unfolding pages_of batch_pages
three_enough = refl

-- of 4 pages the cold one comes first, though its frame has the greater number
longest_ones : take 2 (loose_of spans 4 (loose_frames start far)) ≡ 7 ∷ 1 ∷ []
unfolding pages_of
longest_ones = refl

-- where the cold one of 4 pages is pinned, of 2 pages
shorter_enough : batch_pages 2 spans (loose_frames (desk 0 1 0) far) ≡ Some 2
unfolding pages_of batch_pages
shorter_enough = refl

shorter_ones : take 2 (loose_of spans 2 (loose_frames (desk 0 1 0) far)) ≡ 5 ∷ 11 ∷ []
unfolding pages_of
shorter_ones = refl

-- and where one of 2 pages is too, of 1 page
shortest_enough : batch_pages 2 spans (loose_frames (desk 1 1 0) far) ≡ Some 1
unfolding pages_of batch_pages
shortest_enough = refl

shortest_ones : take 2 (loose_of spans 1 (loose_frames (desk 1 1 0) far)) ≡ 0 ∷ 13 ∷ []
unfolding pages_of
shortest_ones = refl

-- ---- too few of each length
abbrev wide : FarState
wide = far_with 3 4

three_told : HasFewSpans wide wide (answer.NoSpans 3) (loose_frames start wide)
unfolding pages_of batch_pages most_loose
three_told = record { few = refl; reply = refl; state = refl }

counts : (n m : ℕ) → answer.NoSpans n ≡ answer.NoSpans m → n ≡ m
counts n m e = cc

-- not all that are loose, and not those of the greatest length
not_all_told : HasFewSpans wide wide (answer.NoSpans 7) (loose_frames start wide) → ⊥
unfolding pages_of most_loose
not_all_told a = let e : 7 ≡ 3 = counts 7 3 a.reply in absurd (omega (arith, e))

not_longest_told : HasFewSpans wide wide (answer.NoSpans 2) (loose_frames start wide) → ⊥
unfolding pages_of most_loose
not_longest_told a = let e : 2 ≡ 3 = counts 2 3 a.reply in absurd (omega (arith, e))

-- where a length has enough, nothing is too few, though another has fewer
not_few : (r : Reply) → HasFewSpans (far_with 3 3) (far_with 3 3) r (loose_frames start far) → ⊥
not_few r a = none_some 1 (sym a.few ∙ three_enough)

-- ---- the code word: rows of zeros
unfoldable wide_row : List ℕ
wide_row = replicate 16384 0

abbrev rows : List (List ℕ)
rows = wide_row ∷ wide_row ∷ wide_row ∷ []

cold_zeros : row_of (window [] 3584 2048) ≡ wide_row
unfolding wide_row window
cold_zeros = refl

hot_zeros : row_of (window [] 512 2048) ≡ wide_row
unfolding wide_row window
hot_zeros = refl

row_length : length wide_row ≡ 16384
unfolding wide_row
row_length = length-replicate {A = ℕ} 16384 0

row_zeros : (column : ℕ) → column < 16384 → get_or wide_row column 0 ≡ 0
unfolding wide_row
row_zeros column below = get_or-replicate 16384 column 0 0 below

row_bytes : All (λ (b : ℕ). b < 2 ^ 8) wide_row
unfolding wide_row
row_bytes = All-replicate (λ (b : ℕ). b < 2 ^ 8) 16384 0 (lit< tt)

bytes_zero : (column i : ℕ) → column < 16384 → byte_at rows i column ≡ 0
bytes_zero column zero below = row_zeros column below
bytes_zero column (suc zero) below = row_zeros column below
bytes_zero column (suc (suc zero)) below = row_zeros column below
bytes_zero column (suc (suc (suc i))) below = refl

is_word : IsSpanWord 4 2 1 rows
is_word = record {
  is_word = record {
    count = refl;
    equal_lengths = three (λ (r : List ℕ). length r ≡ length wide_row) refl;
    syndromes_zero = λ j column low below.
        sum_over_zeros 3 (λ i. power 2 (i * j) ⊗ byte_at rows i column)
        (λ i l. ap (λ (b : ℕ). power 2 (i * j) ⊗ b)
        (bytes_zero column i (omega (arith, below, row_length)))
        ∙ product_with_zero (power 2 (i * j)));
  };
  bytes = three (All (λ (b : ℕ). b < 2 ^ 8)) row_bytes;
  wide = row_length;
}
  where
    three : (P : List ℕ → Type 0) → P wide_row → All P rows
    three P x = All-cons P wide_row (wide_row ∷ wide_row ∷ []) x
        (All-cons P wide_row (wide_row ∷ []) x (All-cons P wide_row [] x (All-nil P)))

-- ---- the batch
abbrev frames : List ℕ
frames = 7 ∷ 1 ∷ []

abbrev cold : Former
cold = record { handle = 3; word = here 4096 7 }

abbrev hot : Former
hot = record { handle = 1; word = here 4096 1 }

abbrev formers : List Former
formers = cold ∷ hot ∷ []

abbrev claimed : Words
claimed = desk 0 0 1

-- a span's object is its only one
only_one : (temp : Temp) (k slot h : ℕ) → handle_in (four temp k) slot ≡ Some h → k ≡ h
only_one temp k zero h e = some_same k h e
only_one temp k (suc zero) h e = absurd (none_some h e)
only_one temp k (suc (suc zero)) h e = absurd (none_some h e)
only_one temp k (suc (suc (suc zero))) h e = absurd (none_some h e)
only_one temp k (suc (suc (suc (suc n)))) h e = absurd (none_some h e)

has_cold : IsIn spans frames 3
has_cold = (7, (0, lit< tt, refl), (0, refl))

has_hot : IsIn spans frames 1
has_hot = (1, (1, lit< tt, refl), (0, refl))

only_both : (h : ℕ) → IsIn spans frames h → (3 ≡ h) ⊎ (1 ≡ h)
only_both h (f, (zero, l, e), (slot, named)) =
    inl (only_one Cold 3 slot h (ap (λ (n : ℕ). handle_in (span_in spans n) slot) e ∙ named))
only_both h (f, (suc zero, l, e), (slot, named)) =
    inr (only_one Hot 1 slot h (ap (λ (n : ℕ). handle_in (span_in spans n) slot) e ∙ named))
only_both h (f, (suc (suc k), l, e), named) = absurd (omega (arith, l))

of_both : AreOf (IsIn spans frames) formers
of_both = record {
  all = λ h i. by h (only_both h i);
  only = All-cons (λ (f : Former). IsIn spans frames f.handle) cold (hot ∷ []) has_cold
      (All-cons (λ (f : Former). IsIn spans frames f.handle) hot [] has_hot
      (All-nil (λ (f : Former). IsIn spans frames f.handle)));
}
  where
    by : (h : ℕ) → (3 ≡ h) ⊎ (1 ≡ h) → IsOne formers h
    by h (inl e) = (cold, (0, lit< tt, refl), e)
    by h (inr e) = (hot, (1, lit< tt, refl), e)

four_pages : pages_of (record { index = 15 }) ≡ 4
unfolding pages_of
four_pages = refl

are_four : AreOfLength spans 4 frames
are_four = All-cons (λ (f : ℕ). pages_at spans f ≡ 4) 7 (1 ∷ []) four_pages
    (All-cons (λ (f : ℕ). pages_at spans f ≡ 4) 1 [] four_pages
    (All-nil (λ (f : ℕ). pages_at spans f ≡ 4)))

held : AreSpansClaimed start claimed far frames
held = record {
  changed = λ h i. by h (only_both h i);
  others = other;
  count = refl;
  settings = refl;
  versions = refl;
  memory = refl;
}
  where
    by : (h : ℕ) → (3 ≡ h) ⊎ (1 ≡ h) → Claims (word_at start h) (word_at claimed h)
    by h (inl e) = subst (λ (k : ℕ). Claims (word_at start k) (word_at claimed k)) e
        (claims (here 4096 7) refl refl)
    by h (inr e) = subst (λ (k : ℕ). Claims (word_at start k) (word_at claimed k)) e
        (claims (here 4096 1) refl refl)

    other : (h : ℕ) → ¬ (IsIn spans frames h) → word_at claimed h ≡ word_at start h
    other zero out = refl
    other (suc zero) out = absurd (out has_hot)
    other (suc (suc zero)) out = refl
    other (suc (suc (suc zero))) out = absurd (out has_cold)
    other (suc (suc (suc (suc h)))) out = refl

abbrev begun_with : ℕ → List ℕ → FarState
begun_with pages of = with_batch far pages of formers true (wide_row ∷ [])

begun : IsBegunTo start claimed far (begun_with 4 frames) true frames
begun = record {
  pages = 4;
  long = are_four;
  words = formers;
  parities = wide_row ∷ [];
  of = of_both;
  order = refl;
  each_once = apart;
  noted = All-cons (λ (f : Former). f.word ≡ word_at start f.handle) cold (hot ∷ []) refl
      (All-cons (λ (f : Former). f.word ≡ word_at start f.handle) hot [] refl
      (All-nil (λ (f : Former). f.word ≡ word_at start f.handle)));
  count = refl;
  word = λ same. subst (λ (r : List ℕ). IsSpanWord 4 2 1 (r ∷ row_of (window [] 512 2048) ∷ wide_row ∷ []))
      (sym cold_zeros)
      (subst (λ (r : List ℕ). IsSpanWord 4 2 1 (wide_row ∷ r ∷ wide_row ∷ [])) (sym hot_zeros)
      is_word);
  bare = λ other. absurd (false≢true (sym other));
  state = refl;
  held = held;
}
  where
    apart : (i j : ℕ) (d : Former) → i < j → j < 2
        → (get_or formers i d).handle ≡ (get_or formers j d).handle → ⊥
    apart zero zero d less within e = omega (arith, less)
    apart zero (suc zero) d less within e = let n : 3 ≡ 1 = e in omega (arith, n)
    apart (suc i) (suc zero) d less within e = omega (arith, less)
    apart (suc i) zero d less within e = omega (arith, less)
    apart i (suc (suc j)) d less within e = omega (arith, within)

pub three_nodes : room_count far.nodes far.members ≡ 3
three_nodes = grind (arith, map.gets)

step : IsBeginStep start claimed far (begun_with 4 frames) (answer.Batch (record { n = 0 }))
step = begins (record {
  none = refl;
  pages = 4;
  longest = two_enough;
  room = omega (arith, three_nodes);
  reply = refl;
  begun = subst (IsBegunTo start claimed far (begun_with 4 frames) true) (sym longest_ones) begun;
  given = tt;
})

-- ---- no other batch
-- whatever is left of these spans, those of 4 pages are
module _ (pages : ℕ) (of : List ℕ) (y : Words) (r : Reply)
    (a : IsBatchMade start y far (begun_with pages of) r) where
  longest_is : 4 ≡ a.pages
  longest_is = some_same 4 a.pages (sym two_enough ∙ a.longest)

  chosen_are : take 2 (loose_of spans a.pages (loose_frames start far)) ≡ frames
  chosen_are = ap (λ (n : ℕ). take 2 (loose_of spans n (loose_frames start far))) (sym longest_is)
      ∙ longest_ones

  same_batch : new_batch far pages of formers true (wide_row ∷ [])
      ≡ new_batch far a.begun.pages (take 2 (loose_of spans a.pages (loose_frames start far)))
      a.begun.words true a.begun.parities
  same_batch = some_same _ _ (ap (λ (f : FarState). f.leaving) a.begun.state)

  frames_are : of ≡ frames
  frames_are = ap (λ (b : LeavingState). b.frames) same_batch ∙ chosen_are

  pages_are : pages ≡ 4
  pages_are = ap (λ (b : LeavingState). b.pages) same_batch
      ∙ sym (subst (AreOfLength spans a.begun.pages) chosen_are a.begun.long 0 0 (lit< tt))
      ∙ four_pages

-- not the first ones of the smallest length, of which there are the most
not_the_smallest : (y : Words) (r : Reply)
    → IsBatchMade start y far (begun_with 1 (0 ∷ 13 ∷ [])) r → ⊥
not_the_smallest y r a =
    let e : 1 ≡ 4 = pages_are 1 (0 ∷ 13 ∷ []) y r a in absurd (omega (arith, e))

-- nor those of another length that has two
not_of_two : (y : Words) (r : Reply) → IsBatchMade start y far (begun_with 2 (5 ∷ 11 ∷ [])) r → ⊥
not_of_two y r a =
    let e : 2 ≡ 4 = pages_are 2 (5 ∷ 11 ∷ []) y r a in absurd (omega (arith, e))

first_of : (of : List ℕ) → of ≡ frames → get_or of 0 0 ≡ 7
first_of of e = ap (λ (l : List ℕ). get_or l 0 0) e

-- nor the first two of any length
not_of_any : (pages : ℕ) (y : Words) (r : Reply)
    → IsBatchMade start y far (begun_with pages (0 ∷ 5 ∷ [])) r → ⊥
not_of_any pages y r a =
    let e : 0 ≡ 7 = first_of (0 ∷ 5 ∷ []) (frames_are pages (0 ∷ 5 ∷ []) y r a) in
    absurd (omega (arith, e))

-- nor those of 4 pages by number, the hot one first
not_by_number : (y : Words) (r : Reply) → IsBatchMade start y far (begun_with 4 (1 ∷ 7 ∷ [])) r → ⊥
not_by_number y r a =
    let e : 1 ≡ 7 = first_of (1 ∷ 7 ∷ []) (frames_are 4 (1 ∷ 7 ∷ []) y r a) in
    absurd (omega (arith, e))

-- nor one of them
not_one_alone : (y : Words) (r : Reply) → IsBatchMade start y far (begun_with 4 (7 ∷ [])) r → ⊥
not_one_alone y r a =
    let e : 1 ≡ 2 = ap (λ (l : List ℕ). length l) (frames_are 4 (7 ∷ []) y r a) in
    absurd (omega (arith, e))

-- nor spans of 4 pages as a batch of spans of 2
not_as_shorter : (y : Words) (r : Reply) → IsBatchMade start y far (begun_with 2 frames) r → ⊥
not_as_shorter y r a = let e : 2 ≡ 4 = pages_are 2 frames y r a in absurd (omega (arith, e))

-- nor these where the cold one is pinned
not_pinned : (y : Words) (new : FarState) (r : Reply)
    → (a : IsBatchMade (desk 0 1 0) y far new r) → a.pages ≡ 4 → ⊥
not_pinned y new r a is =
    let e = some_same 2 a.pages (sym shorter_enough ∙ a.longest) in omega (arith, e, is)

-- ---- two nodes are too few, though two spans of 4 pages are loose
abbrev poor : FarState
poor = far_with 2 2

two_nodes : room_count poor.nodes poor.members ≡ 2
two_nodes = grind (arith, map.gets)

nodes_told : HasFewNodes poor poor (answer.NoNodes 2) (loose_frames start poor)
unfolding pages_of batch_pages
nodes_told = record {
  enough = refl;
  few = omega (arith, two_nodes);
  reply = ap answer.NoNodes (sym two_nodes);
  state = refl;
}

not_on_two : (y : Words) (new : FarState) (r : Reply) → IsBatchMade start y poor new r → ⊥
not_on_two y new r a = let l = a.room in omega (arith, l, two_nodes)
